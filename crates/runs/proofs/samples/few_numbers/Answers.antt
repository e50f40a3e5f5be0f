-- `runs::samples::few_numbers` meets its contract. The sum is that of the rows passed. Assumes nothing.
use Rattle.std.proofs.Common.{◌≡◌, ◌*◌, ◌<◌, length, ◌∙◌, rules, arith}
use Rattle.runs.proofs.Sums.{summed_one, left_less, left_none}
use Rattle.runs.proofs.samples.few_numbers.Goals as goal

pub loop-row-preserved : goal.loop-row-preserved
loop-row-preserved c =
    let l = c.loop-row.invariant in
    let steps = c.in-Some.ensures.steps in
    let x = c.near in
    let pos : 0 < c.args.step = omega (arith, c.requires) in
    let one : length c.in-Some.row.now ≡ c.args.step * 1 = steps.1.1 ∙ l.2 ∙ omega arith in (
      search rules,
      tt,
      steps.0 ∙ l.2,
      left_less _ _ _ _ 0 c.args.step _ _ steps.1.0 pos l.3 1 (omega (arith, c.requires)) one (summed_one _ 0 c.args.step _ x.ensures (omega (arith, x.type_inv))),
    )

pub returns : goal.returns
returns c =
    let l = c.loop-row.invariant in
    let short = c.in-None.ensures.steps.1.0 in
    left_none _ _ _ _ _ (rw l.2 at short) l.3
