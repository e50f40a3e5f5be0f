-- The order of an appended slice goes on from the stage that the front has reached; its chunks are the front's and the rest's, moved.
use mathlib.Core.Path.{◌≡◌, refl, ap, ap₂, subst, ◌∙◌}
use mathlib.Core.Bool.{Bool, true, false}
use mathlib.Core.List.{List, [], ◌∷◌, ◌++◌, map}
use Prim.Native.Nat.{ℕ, ◌+◌}
use lib.ListN.{length, length-append}
use lib.Dec.{eqb}
use Rattle.numbers.specs.Numbers.{when}
use Rattle.rules.specs.Kinds.{moof}
use Rattle.rules.specs.Rules.{moved, Rule, breaks}
use Rattle.rules.specs.Boxes.{Box, boxes, places_of}
use Rattle.rules.specs.Order.{step6, on_stepped, order_from, rule6}
use Rattle.rules.specs.Track.{chunks_from, chunks}
use Rattle.rules.specs.declared.Stage.{Stage}
use Rattle.rules.specs.declared.Stage.TheVariants.{Start, Typed, Headed, Halved, Paired}
use Rattle.std.specs.Prelude.{Option, None, Some, Ok}
use Rattle.rules.proofs.Then.{broken}
use Rattle.appending.proofs.Append.{box_on, EndsOnBox, boxes_behind, boxes_append}

-- the stage that boxes lead to from a stage on
unfoldable pub stage_from : Stage → List Box → Option Stage
stage_from g [] = Some g
stage_from g (x ∷ xs) = on_stepped (step6 g x.kind) (λ h. stage_from h xs) None

-- the stage that a slice leads to
abbrev pub stage_led : List ℕ → Option Stage
stage_led s = stage_from Start (boxes s 0)

-- the order of boxes and others behind them, by the stage that the first lead to
pub order_joined : (len : ℕ) (g : Stage) (xs ys : List Box)
    → order_from len g (xs ++ ys) ≡ on_stepped (stage_from g xs) (λ h. order_from len h ys) (order_from len g xs)
unfolding order_from stage_from
order_joined len g [] ys = refl
order_joined len g (x ∷ xs) ys = go (step6 g x.kind) (λ h. order_joined len h xs ys)
  where
    go : (p : Option Stage) → ((h : Stage) → order_from len h (xs ++ ys) ≡ on_stepped (stage_from h xs) (λ h. order_from len h ys) (order_from len h xs))
        → on_stepped p (λ h. order_from len h (xs ++ ys)) (breaks 6 0 x.at)
        ≡ on_stepped (on_stepped p (λ h. stage_from h xs) None) (λ h. order_from len h ys)
        (on_stepped p (λ h. order_from len h xs) (breaks 6 0 x.at))
    go (Some h) f = f h
    go None f = refl

-- a step that leads to a stage
abbrev pub LeadsOn : Option Stage → Type 0
LeadsOn (Some g) = Unit {0}
LeadsOn None = ⊥

-- where the order breaks at a box the slice's length has no part in it
pub order_wrong : (len other : ℕ) (g : Stage) (xs : List Box) → stage_from g xs ≡ None → order_from len g xs ≡ order_from other g xs
unfolding order_from stage_from
order_wrong len other g [] e = absurd (subst LeadsOn e tt)
order_wrong len other g (x ∷ xs) e = go (step6 g x.kind) e (λ h. order_wrong len other h xs)
  where
    go : (p : Option Stage) → on_stepped p (λ h. stage_from h xs) None ≡ None
        → ((h : Stage) → stage_from h xs ≡ None → order_from len h xs ≡ order_from other h xs)
        → on_stepped p (λ h. order_from len h xs) (breaks 6 0 x.at) ≡ on_stepped p (λ h. order_from other h xs) (breaks 6 0 x.at)
    go (Some h) q f = f h q
    go None q f = refl

-- the order of boxes so many places on
pub order_on : (c len : ℕ) (g : Stage) (xs : List Box) → order_from (c + len) g (map (box_on c) xs) ≡ moved c (order_from len g xs)
unfolding order_from moved
order_on c len Start [] = refl
order_on c len Typed [] = refl
order_on c len Headed [] = refl
order_on c len Halved [] = refl
order_on c len Paired [] = refl
order_on c len g (x ∷ xs) = go (step6 g x.kind) (λ h. order_on c len h xs)
  where
    go : (p : Option Stage) → ((h : Stage) → order_from (c + len) h (map (box_on c) xs) ≡ moved c (order_from len h xs))
        → on_stepped p (λ h. order_from (c + len) h (map (box_on c) xs)) (breaks 6 0 (c + x.at))
        ≡ moved c (on_stepped p (λ h. order_from len h xs) (breaks 6 0 x.at))
    go (Some h) f = f h
    go None f = refl

-- the stage that boxes joined, boxes moved, and an appended slice lead to
pub stage_joined : (g : Stage) (xs ys : List Box) → stage_from g (xs ++ ys) ≡ on_stepped (stage_from g xs) (λ h. stage_from h ys) None
unfolding stage_from
stage_joined g [] ys = refl
stage_joined g (x ∷ xs) ys = go (step6 g x.kind) (λ h. stage_joined h xs ys)
  where
    go : (p : Option Stage) → ((h : Stage) → stage_from h (xs ++ ys) ≡ on_stepped (stage_from h xs) (λ h. stage_from h ys) None)
        → on_stepped p (λ h. stage_from h (xs ++ ys)) None ≡ on_stepped (on_stepped p (λ h. stage_from h xs) None) (λ h. stage_from h ys) None
    go (Some h) f = f h
    go None f = refl

pub stage_on : (c : ℕ) (g : Stage) (xs : List Box) → stage_from g (map (box_on c) xs) ≡ stage_from g xs
unfolding stage_from
stage_on c g [] = refl
stage_on c g (x ∷ xs) = go (step6 g x.kind) (λ h. stage_on c h xs)
  where
    go : (p : Option Stage) → ((h : Stage) → stage_from h (map (box_on c) xs) ≡ stage_from h xs)
        → on_stepped p (λ h. stage_from h (map (box_on c) xs)) None ≡ on_stepped p (λ h. stage_from h xs) None
    go (Some h) f = f h
    go None f = refl

pub stage_append : (a b : List ℕ) → EndsOnBox a → stage_led (a ++ b) ≡ on_stepped (stage_led a) (λ g. stage_from g (boxes b 0)) None
stage_append a b c =
    ap (stage_from Start) (boxes_append a b c)
    ∙ stage_joined Start (boxes a 0) (map (box_on (length a)) (boxes b 0))
    ∙ go (stage_led a)
  where
    go : (p : Option Stage)
        → on_stepped p (λ h. stage_from h (map (box_on (length a)) (boxes b 0))) None ≡ on_stepped p (λ g. stage_from g (boxes b 0)) None
    go (Some g) = stage_on (length a) g (boxes b 0)
    go None = refl

-- boxes in order lead to a pair
pub order_leads : (len : ℕ) (g : Stage) (xs : List Box) → order_from len g xs ≡ Ok tt → stage_from g xs ≡ Some Paired
unfolding order_from stage_from
order_leads len Start [] e = absurd (broken e)
order_leads len Typed [] e = absurd (broken e)
order_leads len Headed [] e = absurd (broken e)
order_leads len Halved [] e = absurd (broken e)
order_leads len Paired [] e = refl
order_leads len g (x ∷ xs) e = go (step6 g x.kind) e (λ h. order_leads len h xs)
  where
    go : (p : Option Stage) → on_stepped p (λ h. order_from len h xs) (breaks 6 0 x.at) ≡ Ok tt
        → ((h : Stage) → order_from len h xs ≡ Ok tt → stage_from h xs ≡ Some Paired)
        → on_stepped p (λ h. stage_from h xs) None ≡ Some Paired
    go (Some h) q f = f h q
    go None q f = absurd (broken q)

-- the order of an appended slice: where the front leads to a stage, the rest's from there, moved; else the front's own refusal
pub order_append : (a b : List ℕ) → EndsOnBox a
    → rule6 (a ++ b) ≡ on_stepped (stage_led a) (λ g. moved (length a) (order_from (length b) g (boxes b 0))) (rule6 a)
unfolding rule6
order_append a b c =
    ap₂ {C = Rule} (λ (n : ℕ) (xs : List Box). order_from n Start xs) (length-append a b) (boxes_append a b c)
    ∙ order_joined (length a + length b) Start (boxes a 0) (map (box_on (length a)) (boxes b 0))
    ∙ go (stage_led a) refl
  where
    n : ℕ
    n = length a + length b

    go : (p : Option Stage) → stage_led a ≡ p
        → on_stepped p (λ h. order_from n h (map (box_on (length a)) (boxes b 0))) (order_from n Start (boxes a 0))
        ≡ on_stepped p (λ g. moved (length a) (order_from (length b) g (boxes b 0))) (order_from (length a) Start (boxes a 0))
    go (Some g) e = order_on (length a) (length b) g (boxes b 0)
    go None e = order_wrong n (length a) Start (boxes a 0) e

-- so, behind a slice in order, the rest's from a pair on
pub order_goes_on : (a b : List ℕ) → EndsOnBox a → rule6 a ≡ Ok tt
    → rule6 (a ++ b) ≡ moved (length a) (order_from (length b) Paired (boxes b 0))
unfolding rule6
order_goes_on a b c h =
    order_append a b c
    ∙ ap (λ (p : Option Stage). on_stepped p (λ g. moved (length a) (order_from (length b) g (boxes b 0))) (rule6 a))
    (order_leads (length a) Start (boxes a 0) h)

-- the places of a type among boxes joined, and among boxes moved
pub places_joined : (k : ℕ) (xs ys : List Box) → places_of k (xs ++ ys) ≡ places_of k xs ++ places_of k ys
unfolding places_of
places_joined k [] ys = refl
places_joined k (x ∷ xs) ys = go (eqb x.kind k) (places_joined k xs ys)
  where
    go : (t : Bool) → places_of k (xs ++ ys) ≡ places_of k xs ++ places_of k ys
        → when t (x.at ∷ places_of k (xs ++ ys)) (places_of k (xs ++ ys)) ≡ when t (x.at ∷ places_of k xs) (places_of k xs) ++ places_of k ys
    go true e = ap (λ (ps : List ℕ). x.at ∷ ps) e
    go false e = e

pub places_on : (c k : ℕ) (xs : List Box) → places_of k (map (box_on c) xs) ≡ map (λ p. c + p) (places_of k xs)
unfolding places_of
places_on c k [] = refl
places_on c k (x ∷ xs) = go (eqb x.kind k) (places_on c k xs)
  where
    go : (t : Bool) → places_of k (map (box_on c) xs) ≡ map (λ p. c + p) (places_of k xs)
        → when t ((c + x.at) ∷ places_of k (map (box_on c) xs)) (places_of k (map (box_on c) xs))
        ≡ map (λ p. c + p) (when t (x.at ∷ places_of k xs) (places_of k xs))
    go true e = ap (λ (ps : List ℕ). (c + x.at) ∷ ps) e
    go false e = e

-- the chunks behind the front, and those of an appended slice
pub chunks_behind : (a b : List ℕ) (at : ℕ) → chunks_from (a ++ b) (length a + at) ≡ map (λ x. length a + x) (chunks_from b at)
unfolding chunks_from
chunks_behind a b at = ap (places_of moof) (boxes_behind a b at) ∙ places_on (length a) moof (boxes b at)

pub chunks_append : (a b : List ℕ) → EndsOnBox a → chunks (a ++ b) ≡ chunks a ++ map (λ x. length a + x) (chunks b)
unfolding chunks_from
chunks_append a b c =
    ap (places_of moof) (boxes_append a b c)
    ∙ places_joined moof (boxes a 0) (map (box_on (length a)) (boxes b 0))
    ∙ ap (λ (xs : List ℕ). chunks a ++ xs) (places_on (length a) moof (boxes b 0))
