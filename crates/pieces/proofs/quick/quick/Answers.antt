-- `pieces::quick::quick` meets its contract. Assumes nothing.
use mathlib.Core.Path.{refl}
use native.Mathlib.Omega.{arith}
use Rattle.pieces.proofs.Quickly.{goes_feeds, quick_aside}
use Rattle.pieces.proofs.quick.quick.Goals as goal

pub returns-clause-feeds : goal.returns-clause-feeds
returns-clause-feeds c = goes_feeds _ _ _ _ _ _ _ _ _ c.move_on.ensures refl (rw c.phase_of-phase.ensures at c.in-Some.ensures.goes)

pub returns-clause-aside : goal.returns-clause-aside
returns-clause-aside c = quick_aside _ _ _ _ _ _ _ _ _ c.move_on.ensures refl (omega (arith, c.well_formed)) (omega (arith, c.well_formed)) (rw c.phase_of-phase.ensures at c.in-Some.ensures.aside)
