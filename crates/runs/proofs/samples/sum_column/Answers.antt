-- `runs::samples::sum_column` meets its contract. Assumes nothing.
use Rattle.std.proofs.Common.{◌+◌, ◌/◌, length, ap, ◌∙◌, add-zero, arith}
use Rattle.numbers.specs.Numbers.{be4}
use Rattle.runs.specs.Samples.{every_four, Summed}
use Rattle.runs.proofs.Sums.{summed_more, summed_end, summed_pairs}
use Rattle.runs.proofs.samples.sum_column.Goals as goal
use Rattle.runs.proofs.samples.sum_column.Goals.{then-n-eq1, else-n-eq1}

pub returns : goal.returns
returns c =
    let m = c.args.rows.now in
    let step4 = c.if-step-ne4.false in
    let b = c.sum_rows-b in
    let h = length m / 8 in
    let s = b.result.ticks + b.result.bytes in
    let g = every_four m 0 4 in
    let p = summed_pairs m 0 h b.result.ticks b.result.bytes b.ensures.ticks b.ensures.bytes in
    let all : Summed g (length m / 4) (s + c.if-n-eq1.last) =
    elim c.if-n-eq1.branch [
      | then-n-eq1 w ↦
          let x = w.near-last in
          let o = w.if-n-eq1.true in
          rw w.last-is
          (summed_end g (h + h + 1) (length m / 4) (s + x.result)
          (summed_more g (h + h) s x.result p (x.ensures ∙ ap (be4 m) (omega (arith, o))) (omega (arith, x.type_inv))) (omega (arith, o)))
      | else-n-eq1 w ↦ rw (w.last-is, add-zero s) (summed_end g (h + h) (length m / 4) s p (omega (arith, w.if-n-eq1.false)))
    ] in
    rw step4 all
