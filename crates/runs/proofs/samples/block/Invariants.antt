-- `runs::samples::block` meets its contract. What is kept are the rows passed, in all and their odd bytes (`Added`). Assumes nothing.
use Rattle.runs.proofs.Rows.{Added}
use Rattle.runs.proofs.samples.block.Given as goal

abbrev pub invariant-loop-i : goal.invariant-loop-i
invariant-loop-i g l = Added l.rows 0 g.row.STEP l.i l.all l.odd
