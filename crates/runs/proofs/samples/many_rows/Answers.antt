-- `runs::samples::many_rows` meets its contract. The sums are those of the blocks passed. Assumes nothing.
use Rattle.std.proofs.Common.{◌<◌, length, ◌∙◌, rules, arith}
use Rattle.std.proofs.Math.Nat.{div-le_of_le-mul}
use Rattle.std.specs.Slice.Iter.{chunks_rest}
use Rattle.runs.specs.declared.samples.TheConstants.{BLOCK}
use Rattle.runs.proofs.Sums.{left_part, left_none}
use Rattle.runs.proofs.samples.many_rows.Goals as goal

pub block-sums-requires : goal.block-sums-requires
block-sums-requires g c =
    let size = rw c.loop-part.invariant.2 at c.in-Some.ensures.steps.1.1 in
    (c.requires.0.0, div-le_of_le-mul g.row.STEP (omega (arith, size)))

pub loop-part-preserved : goal.loop-part-preserved
loop-part-preserved g c =
    let l = c.loop-part.invariant in
    let steps = c.in-Some.ensures.steps in
    let sums = c.block-sums.ensures in
    let pos : 0 < g.row.STEP = omega (arith, c.requires) in
    let size = rw l.2 at steps.1.1 in (
      search rules,
      tt,
      steps.0 ∙ l.2,
      left_part _ _ _ _ 0 g.row.STEP _ _ steps.1.0 pos l.3 BLOCK (omega (arith, c.requires)) size sums.ticks,
      left_part _ _ _ _ 4 g.row.STEP _ _ steps.1.0 pos l.4 BLOCK (omega (arith, c.requires)) size sums.bytes,
    )

pub returns : goal.returns
returns g c =
    let l = c.loop-part.invariant in
    let short : length (chunks_rest c.loop-part.part-iterator) < g.row.STEP = omega (arith, c.in-None.ensures.steps.1.0, c.requires) in
    record { ticks = left_none _ _ _ _ _ short l.3; bytes = left_none _ _ _ _ _ short l.4 }
