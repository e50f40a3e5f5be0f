-- `runs::samples::few_numbers` meets its contract. The sum is that of the rows passed. Assumes nothing.
use Rattle.std.proofs.Common.{◌≡◌}
use Rattle.std.specs.Slice.Iter.{chunks_exact_rest, chunks_exact_size}
use Rattle.runs.proofs.Sums.{AllButLeft}
use Rattle.runs.proofs.samples.few_numbers.Given as goal

abbrev pub invariant-loop-row : goal.invariant-loop-row
invariant-loop-row l =
    goal.iterator-loop-row.can_next l.row-iterator
    × goal.iterator-loop-row.is_finite l.row-iterator
    × (chunks_exact_size l.row-iterator ≡ l.step)
    × AllButLeft l.rows (chunks_exact_rest l.row-iterator) 0 l.step l.sum
