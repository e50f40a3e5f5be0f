-- The header of an appended slice is the front's, where the front has one.
use mathlib.Core.Path.{◌≡◌, refl, sym, ap, ap₂, subst, ◌∙◌}
use mathlib.Core.Bool.{Bool, true, false, true≢false}
use mathlib.Core.List.{List, [], ◌∷◌, ◌++◌, map}
use Prim.Native.Nat.{ℕ, ◌+◌}
use lib.ListN.{length}
use lib.Dec.{eqb}
use Rattle.numbers.specs.Numbers.{when}
use Rattle.rules.specs.Kinds.{ftyp, moov}
use Rattle.rules.specs.Boxes.{Box, boxes, whole}
use Rattle.rules.specs.Counts.{wanted, again, seen_from, seen, first_of}
use Rattle.rules.specs.Order.{ordered, awaits, step6, on_stepped}
use Rattle.rules.specs.Header.{header_rules, ftyp_in, header_in}
use Rattle.rules.specs.Track.{moov_at, moov_of, ftyp_of, header_of, rules_of_header}
use Rattle.rules.specs.Plans.{All}
use Rattle.rules.specs.declared.Entry.{Entry}
use Rattle.rules.specs.declared.Entry.TheVariants.{One}
use Rattle.rules.specs.declared.Seen.{Seen}
use Rattle.rules.specs.declared.Seen.TheVariants.{Never, Once, Twice}
use Rattle.rules.specs.declared.Stage.{Stage}
use Rattle.rules.specs.declared.Stage.TheVariants.{Start, Typed, Headed, Halved, Paired}
use Rattle.std.specs.Prelude.{Option, None, Some}
use Rattle.rules.proofs.Forest.{FoundBox}
use Rattle.rules.proofs.Walk.{Siblings, boxes_siblings}
use Rattle.rules.proofs.FirstSeen.{First, first_stays, first_at_lem}
use Rattle.appending.proofs.Front.{whole_front}
use Rattle.appending.proofs.Append.{box_on, EndsOnBox, boxes_append}
use Rattle.appending.proofs.AppendOrder.{stage_from, stage_led, LeadsOn}

-- a box is framed at a place
abbrev pub BoxAt : List ℕ → ℕ → Type 0
BoxAt s at = (h : ℕ) × (z : ℕ) × (k : ℕ) × FoundBox s at h z k

-- every box of a run is framed where it stands
pub siblings_framed : (s : List ℕ) (at : ℕ) (xs : List Box) → Siblings s at xs → All (λ x. BoxAt s x.at) xs
siblings_framed s at [] y = tt
siblings_framed s at (x ∷ xs) y =
    ((x.inner, x.size, x.kind, rw y.0 y.1), siblings_framed s (at + x.size) xs y.2)

-- what is seen among boxes joined
pub seen_joined : (v : Seen) (e : Entry) (xs ys : List Box) → seen_from v e (xs ++ ys) ≡ seen_from (seen_from v e xs) e ys
unfolding seen_from
seen_joined v e [] ys = refl
seen_joined v e (x ∷ xs) ys = seen_joined (when (wanted e x.kind) (again x.at v) v) e xs ys

-- what is seen first is at a place of which P holds, or nothing is seen
abbrev FirstIf : (ℕ → Type 0) → Seen → Type 0
FirstIf P Never = Unit {0}
FirstIf P (Once a) = P a
FirstIf P (Twice a b) = P a

-- a stage with the header behind it
abbrev pub PastHeader : Stage → Type 0
PastHeader Start = ⊥
PastHeader Typed = ⊥
PastHeader Headed = Unit {0}
PastHeader Halved = Unit {0}
PastHeader Paired = Unit {0}

abbrev StepsPastHeader : Option Stage → Type 0
StepsPastHeader (Some g) = PastHeader g
StepsPastHeader None = ⊥

-- a box that is no `moov` leads to no such stage but from one
past_already : (g : Stage) (k : ℕ) (h : Stage) → eqb k moov ≡ false → step6 g k ≡ Some h → PastHeader h → PastHeader g
unfolding step6 awaits
past_already g k h n q y = go g (subst StepsPastHeader (sym q) y)
  where
    first : (t : Bool) → StepsPastHeader (when t (Some Typed) None) → ⊥
    first true p = p
    first false p = p

    second : (t u : Bool) → t ≡ false → StepsPastHeader (when t (Some Headed) (when u None (Some Typed))) → ⊥
    second true u e p = absurd (true≢false e)
    second false true e p = p
    second false false e p = p

    go : (g : Stage) → StepsPastHeader (step6 g k) → PastHeader g
    go Start p = first (eqb k ftyp) p
    go Typed p = second (eqb k moov) (ordered k) n p
    go Headed p = tt
    go Halved p = tt
    go Paired p = tt

-- boxes that lead past the header show a `moov`, first at one of their places
header_seen : (P : ℕ → Type 0) (v : Seen) (g h : Stage) (xs : List Box) → FirstIf P v → (PastHeader g → First P v)
    → All (λ x. P x.at) xs → stage_from g xs ≡ Some h → PastHeader h → First P (seen_from v (One moov) xs)
unfolding stage_from seen_from wanted
header_seen P v g h [] f s a e y = s (subst StepsPastHeader (sym e) y)
header_seen P v g h (x ∷ xs) f s a e y =
    go (step6 g x.kind) refl e (eqb x.kind moov) refl
    (λ w k i j q. header_seen P w k h xs i j a.1 q y)
  where
    goal : Bool → Type 0
    goal t = First P (seen_from (when t (again x.at v) v) (One moov) xs)

    sighted : (w : Seen) → FirstIf P w → First P (again x.at w)
    sighted Never i = a.0
    sighted (Once c) i = i
    sighted (Twice c d) i = i

    maybe : (w : Seen) → First P w → FirstIf P w
    maybe Never i = tt
    maybe (Once c) i = i
    maybe (Twice c d) i = i

    go : (p : Option Stage) → step6 g x.kind ≡ p → on_stepped p (λ k. stage_from k xs) None ≡ Some h → (t : Bool) → eqb x.kind moov ≡ t
        → ((w : Seen) (k : Stage) → FirstIf P w → (PastHeader k → First P w) → stage_from k xs ≡ Some h → First P (seen_from w (One moov) xs))
        → goal t
    go None u q t n r = absurd (subst LeadsOn (sym q) tt)
    go (Some k) u q true n r = r (again x.at v) k (maybe (again x.at v) (sighted v f)) (λ _. sighted v f) q
    go (Some k) u q false n r = r v k f (λ z. s (past_already g x.kind k n u z)) q

-- the first box of boxes that lead past the header stands where they begin
first_box : (s : List ℕ) (at : ℕ) (h : Stage) (xs : List Box) → Siblings s at xs → stage_from Start xs ≡ Some h → PastHeader h → BoxAt s at
unfolding stage_from
first_box s at h [] y e p = absurd (subst StepsPastHeader (sym e) p)
first_box s at h (x ∷ xs) y e p = (x.inner, x.size, x.kind, y.1)

-- a front that leads past the header: where `moov` stands, and the header's bytes, are the front's
module _ (a b : List ℕ) (c : EndsOnBox a) (g : Stage) (e : stage_led a ≡ Some g) (y : PastHeader g) where
  same_first : First (λ p. (first_of 0 (seen (One moov) (boxes a 0)) ≡ p) × BoxAt a p) (seen (One moov) (boxes a 0))
  same_first =
      tell (seen (One moov) (boxes a 0)) refl
      (header_seen (BoxAt a) Never Start g (boxes a 0) tt (λ z. absurd z) (siblings_framed a 0 (boxes a 0) (boxes_siblings a 0)) e y)
    where
      tell : (v : Seen) → seen (One moov) (boxes a 0) ≡ v → First (BoxAt a) v → First (λ p. (first_of 0 (seen (One moov) (boxes a 0)) ≡ p) × BoxAt a p) v
      tell Never q h = absurd h
      tell (Once x) q h = (ap (first_of 0) q, h)
      tell (Twice x z) q h = (ap (first_of 0) q, h)

  pub moov_framed : BoxAt a (moov_at a)
  unfolding moov_at
  moov_framed = (first_at_lem (λ p. (first_of 0 (seen (One moov) (boxes a 0)) ≡ p) × BoxAt a p) 0 (seen (One moov) (boxes a 0)) same_first).1

  pub moov_at_append : moov_at (a ++ b) ≡ moov_at a
  unfolding moov_at
  moov_at_append =
      let P : ℕ → Type 0 = λ p. (first_of 0 (seen (One moov) (boxes a 0)) ≡ p) × BoxAt a p in
      let more = map (box_on (length a)) (boxes b 0) in
      ap (λ (xs : List Box). first_of 0 (seen (One moov) xs)) (boxes_append a b c)
      ∙ ap (first_of 0) (seen_joined Never (One moov) (boxes a 0) more)
      ∙ sym (first_at_lem P 0 (seen_from (seen (One moov) (boxes a 0)) (One moov) more)
      (first_stays P (One moov) (seen (One moov) (boxes a 0)) more same_first)).0

  pub moov_append : moov_of (a ++ b) ≡ moov_of a
  unfolding moov_of
  moov_append =
      let d = moov_framed in
      ap (whole (a ++ b)) moov_at_append ∙ whole_front a b (moov_at a) d.0 d.1 d.2 d.3

  pub ftyp_append : ftyp_of (a ++ b) ≡ ftyp_of a
  unfolding ftyp_of
  ftyp_append = let d = first_box a 0 g (boxes a 0) (boxes_siblings a 0) e y in whole_front a b 0 d.0 d.1 d.2 d.3

  -- so is what the header tells, and what its rules say
  pub header_append : header_of (a ++ b) ≡ header_of a
  unfolding header_of
  header_append = ap header_in moov_append

  pub rules_of_header_append : rules_of_header (a ++ b) ≡ rules_of_header a
  unfolding rules_of_header
  rules_of_header_append =
      ap₂ (λ (n : ℕ) (m : List ℕ). header_rules n (ftyp_in (ftyp_of (a ++ b))) m) moov_at_append moov_append
      ∙ ap (λ (f : List ℕ). header_rules (moov_at a) (ftyp_in f) (moov_of a)) ftyp_append
