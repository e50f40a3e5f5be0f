-- Jobs that the contract of the index shuts out: for each there is an input on which what it answers is not permitted.
use Prim.Native.Nat.{ℕ}
use mathlib.Core.List.{List, [], ◌∷◌, ◌++◌}
use mathlib.Core.Path.{◌≡◌, refl, ap}
use lib.Dec.{eqb}
use lib.ListN.{length, set, get_or}
use Rattle.rules.specs.Bytes.{zeros, boxed}
use Rattle.rules.specs.Computed.{computed}
use Rattle.rules.specs.Examples.{free, nines}
use Rattle.rules.specs.Jobs.{Job, Shut, Dummy, writes_past, Shown}
use Rattle.rules.specs.Track.{Outcome, refused, accepted, index, index_outcome}
use Rattle.rules.proofs.Jobs.{shut, left_past}
use Rattle.rules.proofs.Refusals.{index_refusals}

-- two boxes `free` in 16 bytes, one box in as many, and eight nines lent
unfoldable two_boxes : List ℕ
two_boxes = boxed free [] ++ boxed free []

unfoldable one_box : List ℕ
one_box = boxed free (zeros 8)

unfoldable eight_nines : List ℕ
eight_nines = nines ++ nines

two_is : index_outcome two_boxes eight_nines ≡ accepted 2 0 (0 ∷ 8 ∷ free ∷ 0 ∷ 8 ∷ 8 ∷ free ∷ 0 ∷ []) eight_nines
unfolding computed two_boxes eight_nines
two_is = refl

one_is : index_outcome one_box eight_nines ≡ accepted 1 0 (0 ∷ 16 ∷ free ∷ 0 ∷ []) eight_nines
unfolding computed one_box eight_nines
one_is = refl

-- one byte is no box
byte_is : index_outcome (0 ∷ []) eight_nines ≡ refused 2 0 0 eight_nines
unfolding computed eight_nines
byte_is = refl

shown : Shown index_outcome
unfolding computed two_boxes one_box eight_nines
shown =
    record {
      good = two_boxes;
      other = one_box;
      bad = 0 ∷ [];
      lent = eight_nines;
      accepts = ap (λ (o : Outcome). o.verdict.number) two_is;
      writes = ap (λ (o : Outcome). eqb (get_or o.table 0 0) 9) two_is;
      counts = ap (λ (o : Outcome). eqb o.verdict.count 2) one_is;
      as_long = refl;
      refuses = ap (λ (o : Outcome). eqb o.verdict.number 0) byte_is;
    }

-- each dummy answers what is not permitted
pub dummies : (job : Job) → Dummy index_outcome job → Shut index_outcome job
dummies = shut index_outcome shown

-- one that writes one number past the index, and is right in everything else, is such a dummy
pub past_index : (x : ℕ) → Dummy index_outcome (λ s t. record { verdict = (index_outcome s t).verdict; table = set (index_outcome s t).table (length (index s)) x })
past_index x = writes_past (λ s. length (index s)) (λ _. x) (λ s t. left_past (index_refusals s t).1) (λ s t. refl)
