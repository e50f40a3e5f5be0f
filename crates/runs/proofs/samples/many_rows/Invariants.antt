-- `runs::samples::many_rows` meets its contract. The sums are those of the blocks passed. Assumes nothing.
use Rattle.std.proofs.Common.{◌≡◌, ◌*◌}
use Rattle.std.specs.Slice.Iter.{chunks_rest, chunks_size}
use Rattle.runs.specs.declared.samples.TheConstants.{BLOCK}
use Rattle.runs.proofs.Sums.{AllButLeft}
use Rattle.runs.proofs.samples.many_rows.Given as goal

abbrev pub invariant-loop-part : goal.invariant-loop-part
invariant-loop-part g l =
    (goal.iterator-loop-part g).can_next l.part-iterator
    × (goal.iterator-loop-part g).is_finite l.part-iterator
    × (chunks_size l.part-iterator ≡ BLOCK * g.row.STEP)
    × AllButLeft l.rows (chunks_rest l.part-iterator) 0 g.row.STEP l.ticks
    × AllButLeft l.rows (chunks_rest l.part-iterator) 4 g.row.STEP l.bytes
