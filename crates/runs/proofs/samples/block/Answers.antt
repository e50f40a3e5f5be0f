-- `runs::samples::block` meets its contract. What is kept are the rows passed, in all and their odd bytes (`Added`). Assumes nothing.
use Rattle.std.proofs.Common.{ℕ, ◌+◌, ◌*◌, ◌/◌, ◌<◌, length, refl, le_antisymm, arith}
use Rattle.numbers.specs.Numbers.{byte}
use Rattle.runs.proofs.Rows.{added_none, added_more, added_all, lanes_small}
use Rattle.runs.proofs.samples.block.Goals as goal

pub loop-i-init : goal.loop-i-init
loop-i-init g c = added_none c.args.rows.now 0 g.row.STEP

pub overflow_add-odd : goal.overflow_add-odd
overflow_add-odd g c =
    let m = c.args.rows.now in
    let l = c.loop-i in
    let b : (j : ℕ) → byte m j < 256 = λ j. omega (arith, c.type_inv.rows j) in
    let a = added_more m 0 g.row.STEP l.i (g.row.STEP * l.i) c.row-x.result l.all l.odd _ c.lanes-odd.result b (omega arith) c.row-x.ensures l.invariant refl c.lanes-odd.ensures in
    omega (arith, a.odd, lanes_small m 0 g.row.STEP b (l.i + 1) (omega (arith, c.loop-i-test.true, c.requires.1)) 1 1 refl)

pub loop-i-preserved : goal.loop-i-preserved
loop-i-preserved g c =
    let l = c.loop-i in
    added_more c.args.rows.now 0 g.row.STEP l.i (g.row.STEP * l.i) c.row-x.result l.all l.odd _ c.lanes-odd.result (λ j. omega (arith, c.type_inv.rows j))
    (omega arith) c.row-x.ensures l.invariant refl c.lanes-odd.ensures

pub returns : goal.returns
returns g c =
    let m = c.args.rows.now in
    let l = c.loop-i in
    let all = rw (le_antisymm l.auto.i-end c.loop-i-test.false) at l.invariant in
    let met = added_all m 0 g.row.STEP (length m / g.row.STEP) l.all l.odd _ _ (λ j. omega (arith, c.type_inv.rows j)) c.requires.1 all
    c.from_columns.ensures c.from_columns-2.ensures in
    record { ticks = met.0; bytes = met.1 }
