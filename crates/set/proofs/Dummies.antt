-- Jobs that the contract of the set check shuts out: for each there is an input on which what it answers is not permitted.
use Prim.Native.Nat.{ℕ}
use mathlib.Core.List.{List, [], ◌∷◌, ◌++◌}
use mathlib.Core.Path.{◌≡◌, refl, ap}
use lib.Dec.{eqb}
use lib.ListN.{length, set, get_or}
use Rattle.rules.specs.Bytes.{track_t}
use Rattle.rules.specs.Computed.{computed}
use Rattle.rules.specs.Examples.{nines, refused_at, refused_of, acceptance, accepted_over}
use Rattle.rules.specs.Bundle.{tracks}
use Rattle.rules.specs.Jobs.{Job, Shut, Dummy, writes_past, Shown}
use Rattle.rules.specs.Track.{Outcome, accepted, boundaries}
use Rattle.rules.specs.Set.{track0, set_outcome}
use Rattle.rules.proofs.Jobs.{shut, left_past}
use Rattle.rules.proofs.Refusals.{set_refusals}
use Rattle.bundle.specs.Front.{record_of}
use Rattle.track.proofs.Dummies.{half}

-- a bundle of one track twice
unfoldable twice : List ℕ → List ℕ
twice s = record_of s ++ record_of s

t_twice_is : set_outcome (twice track_t) nines ≡ acceptance
unfolding computed twice accepted_over
t_twice_is = refl

half_twice_is : set_outcome (twice half) nines ≡ accepted 1 90000 (0 ∷ 180000 ∷ []) nines
unfolding computed twice half
half_twice_is = refl

none_is : set_outcome [] nines ≡ refused_at 24 0
unfolding computed refused_of
none_is = refl

shown : Shown set_outcome
unfolding computed twice half accepted_over refused_of
shown =
    record {
      good = twice track_t;
      other = twice half;
      bad = [];
      lent = nines;
      accepts = ap (λ (o : Outcome). o.verdict.number) t_twice_is;
      writes = ap (λ (o : Outcome). eqb (get_or o.table 0 0) 9) t_twice_is;
      counts = ap (λ (o : Outcome). eqb o.verdict.count 2) half_twice_is;
      as_long = refl;
      refuses = ap (λ (o : Outcome). eqb o.verdict.number 0) none_is;
    }

-- each dummy answers what is not permitted
pub dummies : (job : Job) → Dummy set_outcome job → Shut set_outcome job
dummies = shut set_outcome shown

-- one that writes one number past the boundaries of track 0, and is right in everything else, is such a dummy
pub past_boundaries : (x : ℕ)
    → Dummy set_outcome
    (λ b t. record { verdict = (set_outcome b t).verdict; table = set (set_outcome b t).table (length (boundaries (track0 (tracks b)))) x })
past_boundaries x = writes_past (λ b. length (boundaries (track0 (tracks b)))) (λ _. x) (λ b t. left_past (set_refusals b t)) (λ b t. refl)
