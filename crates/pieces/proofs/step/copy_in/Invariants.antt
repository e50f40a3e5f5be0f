-- `pieces::step::copy_in` meets its contract. The invariant: the bytes so far are copied. Assumes nothing.
use mathlib.Core.Path.{◌≡◌}
use lib.Seq.{paste}
use Rattle.pieces.proofs.step.copy_in.Given as goal

abbrev pub invariant-loop-i : goal.invariant-loop-i
invariant-loop-i l = l.to ≡ paste l.initial.to l.at l.from l.i
