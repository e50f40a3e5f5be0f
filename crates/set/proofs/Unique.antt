-- The set job has one possible outcome: two that its contract permits are equal, verdict and table.
use Prim.Native.Nat.{ℕ}
use mathlib.Core.List.{List}
use mathlib.Core.Path.{◌≡◌}
use Rattle.rules.specs.Jobs.{Permits}
use Rattle.rules.specs.Set.{set_outcome}
use Rattle.rules.specs.declared.Verdict.{Verdict}
use Rattle.rules.proofs.Jobs as jobs

pub unique : (b t : List ℕ) (v w : Verdict) (u x : List ℕ) → Permits set_outcome b t v u → Permits set_outcome b t w x → (v ≡ w) × (u ≡ x)
unique = jobs.unique set_outcome
