-- `boxes::SiblingBoxes` meets the contract of its `next`. Assumes nothing.
use mathlib.Core.Path.{refl}
use Rattle.std.proofs.Common.{rules}
use Rattle.boxes.proofs.Walks.{over, first_found}
use Rattle.boxes.proofs.SiblingBoxesIterator.next.Goals as goal

pub returns-in_default : goal.returns-in_default
returns-in_default c = record { steps = (refl, (over _ _ _ c.look.ensures.value c.in_default.not-Good, refl)); goes = search rules }

pub returns-clause-steps : goal.returns-clause-steps
returns-clause-steps c = (refl, first_found _ _ c.look.ensures.value c.in-Good.is)
