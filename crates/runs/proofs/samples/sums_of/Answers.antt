-- `runs::samples::sums_of` meets its contract. Assumes nothing.
use Rattle.std.proofs.Common.{sym, arith}
use Rattle.runs.proofs.Flags.{bytes_set, bytes_clear, stride_ticks, stride_both, reach_size}
use Rattle.runs.proofs.Sums.{fields_few, ticks_own, ticks_shared, bytes_own, bytes_shared}
use Rattle.runs.proofs.samples.sums_of.Goals as goal

pub sum_rows-requires : goal.sum_rows-requires
sum_rows-requires c =
    let low = stride_both c.args.run.flags (sym c.in-true-true.ensures) (sym c.in-true-true.ensures') in
    fields_few _ c.args.d _ _ _ c.requires.0 _ _ c.run_head.ensures.value c.stride-step.ensures.value 8 (omega arith) low c.requires.1

pub sum_column-requires : goal.sum_column-requires
sum_column-requires c =
    let low = stride_ticks c.args.run.flags (sym c.in-true-false.ensures) in
    fields_few _ c.args.d _ _ _ c.requires.0 _ _ c.run_head.ensures.value c.stride-step.ensures.value 4 (omega arith) low c.requires.1

pub sum_column-requires-in-false-true : goal.sum_column-requires-in-false-true
sum_column-requires-in-false-true c =
    fields_few _ c.args.d _ _ _ c.requires.0 _ _ c.run_head.ensures.value c.stride-step.ensures.value 4 (omega arith)
    (omega (arith, reach_size c.args.run.flags (sym c.in-false-true.ensures'))) c.requires.1

pub returns-in-true-true-clause-ticks : goal.returns-in-true-true-clause-ticks
returns-in-true-true-clause-ticks c =
    ticks_own _ c.args.d _ _ _ c.requires.0 _ _ c.run_head.ensures.value c.stride-step.ensures.value _ (sym c.in-true-true.ensures) c.sum_rows.ensures.ticks

pub returns-in-true-true-clause-bytes : goal.returns-in-true-true-clause-bytes
returns-in-true-true-clause-bytes c =
    bytes_own _ c.args.d _ _ _ c.requires.0 _ _ c.run_head.ensures.value c.stride-step.ensures.value _ 4 (sym (bytes_set 4 _ _ (sym c.in-true-true.ensures)))
    (sym c.in-true-true.ensures') c.sum_rows.ensures.bytes

pub returns-in-true-false-clause-ticks : goal.returns-in-true-false-clause-ticks
returns-in-true-false-clause-ticks c =
    ticks_own _ c.args.d _ _ _ c.requires.0 _ _ c.run_head.ensures.value c.stride-step.ensures.value _ (sym c.in-true-false.ensures) c.sum_column.ensures

pub returns-in-true-false-clause-bytes : goal.returns-in-true-false-clause-bytes
returns-in-true-false-clause-bytes c = bytes_shared _ c.args.d _ _ _ c.requires.0 _ (sym c.in-true-false.ensures') c.times.ensures

pub returns-in-false-true-clause-ticks : goal.returns-in-false-true-clause-ticks
returns-in-false-true-clause-ticks c = ticks_shared _ c.args.d _ _ _ c.requires.0 _ (sym c.in-false-true.ensures) c.times-in-false-true.ensures

pub returns-in-false-true-clause-bytes : goal.returns-in-false-true-clause-bytes
returns-in-false-true-clause-bytes c =
    bytes_own _ c.args.d _ _ _ c.requires.0 _ _ c.run_head.ensures.value c.stride-step.ensures.value _ 0 (sym (bytes_clear 4 _ _ (sym c.in-false-true.ensures)))
    (sym c.in-false-true.ensures') c.sum_column-in-false-true.ensures

pub returns-in-false-false-clause-ticks : goal.returns-in-false-false-clause-ticks
returns-in-false-false-clause-ticks c = ticks_shared _ c.args.d _ _ _ c.requires.0 _ (sym c.in-false-false.ensures) c.times-in-false-false.ensures

pub returns-in-false-false-clause-bytes : goal.returns-in-false-false-clause-bytes
returns-in-false-false-clause-bytes c = bytes_shared _ c.args.d _ _ _ c.requires.0 _ (sym c.in-false-false.ensures') c.times-in-false-false-2.ensures
