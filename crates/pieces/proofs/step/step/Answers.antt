-- `pieces::step::step` meets its contract. Assumes nothing.
use mathlib.Core.Path.{refl}
use mathlib.Core.Bool.{false≢true}
use Rattle.pieces.specs.State.{sound_phase}
use Rattle.pieces.proofs.Taking.{counted_alone, passed}
use Rattle.pieces.proofs.step.step.Goals as goal

pub returns-in-Unstarted-clause-takes : goal.returns-in-Unstarted-clause-takes
unfolding sound_phase
returns-in-Unstarted-clause-takes c = let p = rw c.in-Unstarted.is at c.requires in absurd (false≢true p.phase)

pub returns-in-Skip-clause-takes : goal.returns-in-Skip-clause-takes
returns-in-Skip-clause-takes c = rw (c.passing.ensures, c.in-Skip.is) (passed (rw c.in-Skip.is at c.requires) c.min-used.ensures)

pub returns-in-Skip-clause-aside : goal.returns-in-Skip-clause-aside
returns-in-Skip-clause-aside c = rw (c.passing.ensures, c.in-Skip.is) (passed (rw c.in-Skip.is at c.requires) c.min-used.ensures, refl, refl)

pub returns-in-Stopped-clause-takes : goal.returns-in-Stopped-clause-takes
returns-in-Stopped-clause-takes c = rw c.in-Stopped.is (counted_alone (rw c.in-Stopped.is at c.requires))

pub returns-in-Stopped-clause-aside : goal.returns-in-Stopped-clause-aside
returns-in-Stopped-clause-aside c = rw c.in-Stopped.is (counted_alone (rw c.in-Stopped.is at c.requires), refl, refl)
