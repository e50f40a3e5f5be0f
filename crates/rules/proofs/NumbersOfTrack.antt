-- The numbers of a track's refusals, rule by rule: each group gives those of its own list.
use mathlib.Core.Path.{◌≡◌, refl}
use mathlib.Core.Bool.{Bool, true, false, false≢true}
use mathlib.Core.List.{List, [], ◌∷◌, ◌++◌}
use Prim.Native.Nat.{ℕ}
use lib.ListN.{length}
use Rattle.rules.specs.Refusals.{member, among, length_numbers, framing_numbers, order_numbers, header_numbers, shape_numbers, timing_numbers}
use Rattle.rules.specs.Refusals.{front_numbers, track_numbers}
use Rattle.rules.specs.Rules.{◌then◌, must, Framing, Rule, breaks}
use Rattle.rules.specs.Boxes.{Box, boxes}
use Rattle.rules.specs.Framing.{framed, framing_rule, rules_of_framing}
use Rattle.rules.specs.Order.{step6, on_stepped, order_from, rule6}
use Rattle.rules.specs.Header.{rule7, rule8ftyp, rule8, rule9, rule10, rule11, rule12, rule13, rules_of_values, header_rules}
use Rattle.rules.specs.Chunk.{rule14, rule15runs, rule15, rule16runs, rule16, rule17, rule18, shape, rule19, rule20, opens, rule21, rule22runs, rule22, timing}
use Rattle.rules.specs.Track.{rule1, rules_of_header, header_of, chunks, shape_at, timing_at, end_at, rules_of_chunks, ruling}
use Rattle.std.specs.Prelude.{Option, None, Some, Ok, Err}
use Rattle.rules.specs.declared.Stage.{Stage}
use Rattle.rules.specs.declared.Stage.TheVariants.{Start, Typed, Headed, Halved, Paired}
use Rattle.rules.specs.declared.Defaults.{Defaults}
use Rattle.rules.specs.declared.Header.{Header}
use Rattle.rules.proofs.Unframed.{FramingNumbered, framing_numbered}
use Rattle.rules.proofs.Numbered.{Numbered, Told, of_told, wider, n_then, n_must, n_holds, n_moved, n_counts, n_counts_if, n_body}

ruleset joined = (n_then, n_must, n_holds, n_moved, n_counts, n_counts_if, n_body, refl)

-- the header
n_ftyp : (f : Option Bool) → Numbered header_numbers (rule8ftyp f)
unfolding rule8ftyp member
n_ftyp (Some b) = n_holds
n_ftyp None = of_told header_numbers (breaks 8 0 0) refl

n_brand : (f : Option Bool) → Numbered header_numbers (rule9 f)
unfolding rule9 member
n_brand (Some b) = n_must b 9 0 refl
n_brand None = n_holds

n_header : (base : ℕ) (f : Option Bool) (m : List ℕ) → Numbered header_numbers (header_rules base f m)
unfolding header_rules rule7 rule8 rules_of_values rule10 rule11 rule12 rule13 member
n_header base f m = search (joined, n_ftyp, n_brand) depth 40 fits 8000

-- a chunk
n_15_runs : (m rs : List ℕ) → Numbered shape_numbers (rule15runs m rs)
unfolding rule15runs member
n_15_runs m [] = n_holds
n_15_runs m (r ∷ rs) = n_then _ _ (n_body 15 _ m r refl) (n_15_runs m rs)

n_16_runs : (m rs : List ℕ) → Numbered shape_numbers (rule16runs m rs)
unfolding rule16runs member
n_16_runs m [] = n_holds
n_16_runs m (r ∷ rs) = n_then _ _ (n_must _ 16 _ refl) (n_16_runs m rs)

n_22_in : {ns : List ℕ} → member 22 ns ≡ true → (m : List ℕ) (d : Defaults) (first : Bool) (e : ℕ) (rs : List ℕ) → Numbered ns (rule22runs m d first e rs)
unfolding rule22runs
n_22_in i m d first e [] = n_holds
n_22_in i m d first e (r ∷ rs) = n_then _ _ (n_must _ 22 _ i) (n_22_in i m d false _ rs)

n_22_runs : (m : List ℕ) (d : Defaults) (first : Bool) (e : ℕ) (rs : List ℕ) → Numbered timing_numbers (rule22runs m d first e rs)
unfolding member
n_22_runs m d first e rs = n_22_in refl m d first e rs

n_shape : (m : List ℕ) (id : ℕ) → Numbered shape_numbers (shape m id)
unfolding shape rule14 rule15 rule16 rule17 rule18 member
n_shape m id = search (joined, n_15_runs, n_16_runs) depth 30 fits 5000

n_timing : (m : List ℕ) (d : Defaults) (head payload : ℕ) (prev : Option ℕ) → Numbered timing_numbers (timing m d head payload prev)
unfolding timing rule19 rule20 rule21 rule22 member
n_timing m d head payload prev = search (joined, n_22_runs) depth 30 fits 5000

pub n_shape_at : (s : List ℕ) (h : Header) (x : ℕ) → Numbered shape_numbers (shape_at s h x)
unfolding shape_at
n_shape_at s h x = n_moved x _ (n_shape _ _)

pub n_timing_at : (s : List ℕ) (h : Header) (prev : Option ℕ) (x : ℕ) → Numbered timing_numbers (timing_at s h prev x)
unfolding timing_at
n_timing_at s h prev x = n_moved x _ (n_timing _ _ _ _ _)

pub n_chunks : (s : List ℕ) (h : Header) (prev : Option ℕ) (xs : List ℕ) → Numbered track_numbers (rules_of_chunks s h prev xs)
unfolding rules_of_chunks among member
n_chunks s h prev [] = n_holds
n_chunks s h prev (x ∷ xs) =
    n_then _ _ (wider shape_numbers track_numbers _ refl (n_shape_at s h x))
    (n_then _ _ (wider timing_numbers track_numbers _ refl (n_timing_at s h prev x)) (n_chunks s h (Some (end_at s h x)) xs))

-- behind the track's first chunk: all but 21
abbrev pub later_numbers : List ℕ
later_numbers = shape_numbers ++ (19 ∷ 20 ∷ 22 ∷ [])

n_21_later : (m : List ℕ) (d : Defaults) (e : ℕ) → Numbered later_numbers (rule21 m d (Some e))
unfolding rule21 opens must
n_21_later m d e = n_holds

n_timing_later : (s : List ℕ) (h : Header) (e x : ℕ) → Numbered later_numbers (timing_at s h (Some e) x)
unfolding timing_at timing rule19 rule20 rule22 member
n_timing_later s h e x =
    n_moved x _
    (n_then _ _ (n_must _ 19 _ refl)
    (n_then _ _ (n_must _ 20 _ refl) (n_then _ _ (n_21_later _ _ e) (n_then _ _ (n_22_in refl _ _ _ _ _) (n_must _ 22 _ refl)))))

pub n_later : (s : List ℕ) (h : Header) (e : ℕ) (xs : List ℕ) → Numbered later_numbers (rules_of_chunks s h (Some e) xs)
unfolding rules_of_chunks among member
n_later s h e [] = n_holds
n_later s h e (x ∷ xs) =
    n_then _ _ (wider shape_numbers later_numbers _ refl (n_shape_at s h x)) (n_then _ _ (n_timing_later s h e x) (n_later s h (end_at s h x) xs))

-- so 21 is the first chunk's alone
pub only_first_21 : (s : List ℕ) (h : Header) (e : ℕ) (xs : List ℕ) (t p : ℕ) → rules_of_chunks s h (Some e) xs ≡ breaks 21 t p → ⊥
unfolding member
only_first_21 s h e xs t p b = false≢true ((n_later s h e xs).told 21 t p b)

-- the framing
n_framing : (f : Framing) → FramingNumbered f → Told framing_numbers (framing_rule f)
n_framing (Ok n) h = tt
n_framing (Err e) h = h

-- the order
n_order : (len : ℕ) (g : Stage) (xs : List Box) → Told order_numbers (order_from len g xs)
unfolding order_from member
n_order len Start [] = refl
n_order len Typed [] = refl
n_order len Headed [] = refl
n_order len Halved [] = refl
n_order len Paired [] = tt
n_order len g (x ∷ xs) = go (step6 g x.kind) (λ h. n_order len h xs)
  where
    go : (p : Option Stage) → ((h : Stage) → Told order_numbers (order_from len h xs))
        → Told order_numbers (on_stepped p (λ h. order_from len h xs) (breaks 6 0 x.at))
    go (Some h) f = f h
    go None f = refl

-- the rules of a track, group by group
pub n_length : (n : ℕ) → Numbered length_numbers (rule1 n)
unfolding rule1 member
n_length n = n_must _ 1 _ refl

n_framed : (s : List ℕ) → Numbered framing_numbers (rules_of_framing s)
n_framed s = of_told framing_numbers (rules_of_framing s) (n_framing (framed s) (framing_numbered s))

n_ordered : (s : List ℕ) → Numbered order_numbers (rule6 s)
unfolding rule6
n_ordered s = of_told order_numbers (rule6 s) (n_order (length s) Start (boxes s 0))

n_headed : (s : List ℕ) → Numbered header_numbers (rules_of_header s)
unfolding rules_of_header
n_headed s = n_header _ _ _

-- and together, before what is said of the chunks
pub n_front : (ns : List ℕ) (s : List ℕ) (q : Rule) → among front_numbers ns ≡ true → Numbered ns q
    → Numbered ns (rule1 (length s) then rules_of_framing s then rule6 s then rules_of_header s then q)
unfolding among member
n_front ns s q w h =
    n_then _ _ (front length_numbers _ refl (n_length (length s)))
    (n_then _ _ (front framing_numbers _ refl (n_framed s))
    (n_then _ _ (front order_numbers _ refl (n_ordered s)) (n_then _ _ (front header_numbers _ refl (n_headed s)) h)))
  where
    front : (ms : List ℕ) (r : Rule) → among ms front_numbers ≡ true → Numbered ms r → Numbered ns r
    front ms r v k = wider front_numbers ns r w (wider ms front_numbers r v k)

pub n_ruling : (s : List ℕ) → Numbered track_numbers (ruling s)
unfolding ruling among member
n_ruling s = n_front track_numbers s _ refl (n_chunks s (header_of s) None (chunks s))
