-- The index job has one possible outcome: two that its contract permits are equal, verdict and table.
use Prim.Native.Nat.{ℕ}
use mathlib.Core.List.{List}
use mathlib.Core.Path.{◌≡◌}
use Rattle.rules.specs.Jobs.{Permits}
use Rattle.rules.specs.Track.{index_outcome}
use Rattle.rules.specs.declared.Verdict.{Verdict}
use Rattle.rules.proofs.Jobs as jobs

pub unique : (s t : List ℕ) (v w : Verdict) (u x : List ℕ) → Permits index_outcome s t v u → Permits index_outcome s t w x → (v ≡ w) × (u ≡ x)
unique = jobs.unique index_outcome
