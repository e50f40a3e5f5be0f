-- Jobs that the contract of the track check shuts out: for each there is an input on which what it answers is not permitted.
use Prim.Native.Nat.{ℕ}
use mathlib.Core.List.{List, [], ◌∷◌, ◌++◌}
use mathlib.Core.Path.{◌≡◌, refl, ap}
use lib.Dec.{eqb}
use lib.ListN.{length, set, get_or}
use Rattle.rules.specs.Bytes.{zeros, boxed, header, chunk, track_t}
use Rattle.rules.specs.Computed.{computed}
use Rattle.rules.specs.Examples.{free, nines, refused_at, refused_of, acceptance, accepted_over}
use Rattle.rules.specs.Jobs.{Job, Shut, Dummy, writes_past, Shown}
use Rattle.rules.specs.Track.{Outcome, accepted, boundaries, track_outcome}
use Rattle.rules.proofs.Jobs.{shut, left_past}
use Rattle.rules.proofs.Refusals.{track_refusals}

-- T's first fragment alone, with a `free` box as long as the second
unfoldable pub half : List ℕ
half = header ++ chunk 0 108 30 ++ boxed free (zeros 130)

t_is : track_outcome track_t nines ≡ acceptance
unfolding computed accepted_over
t_is = refl

half_is : track_outcome half nines ≡ accepted 1 90000 (0 ∷ 180000 ∷ []) nines
unfolding computed half
half_is = refl

none_is : track_outcome [] nines ≡ refused_at 6 0
unfolding computed refused_of
none_is = refl

shown : Shown track_outcome
unfolding computed half accepted_over refused_of
shown =
    record {
      good = track_t;
      other = half;
      bad = [];
      lent = nines;
      accepts = ap (λ (o : Outcome). o.verdict.number) t_is;
      writes = ap (λ (o : Outcome). eqb (get_or o.table 0 0) 9) t_is;
      counts = ap (λ (o : Outcome). eqb o.verdict.count 2) half_is;
      as_long = refl;
      refuses = ap (λ (o : Outcome). eqb o.verdict.number 0) none_is;
    }

-- each dummy answers what is not permitted
pub dummies : (job : Job) → Dummy track_outcome job → Shut track_outcome job
dummies = shut track_outcome shown

-- one that writes one number past the boundaries, and is right in everything else, is such a dummy
pub past_boundaries : (x : ℕ)
    → Dummy track_outcome (λ s t. record { verdict = (track_outcome s t).verdict; table = set (track_outcome s t).table (length (boundaries s)) x })
past_boundaries x = writes_past (λ s. length (boundaries s)) (λ _. x) (λ s t. left_past (track_refusals s t)) (λ s t. refl)
