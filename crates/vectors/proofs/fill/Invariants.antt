-- The table is filled below i.
use Rattle.vectors.specs.Tables.{FilledTo}
use Rattle.vectors.proofs.fill.Given as goal

abbrev pub invariant-loop-i : goal.invariant-loop-i
invariant-loop-i l = FilledTo l.t l.i
