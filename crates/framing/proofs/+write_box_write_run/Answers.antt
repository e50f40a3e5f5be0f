-- `framing::write_box` and `framing::write_run`, which call each other, meet their contracts. Assumes nothing.
use Rattle.std.proofs.Common.{refl, arith}
use Rattle.framing.proofs.Steps.{told, body_length, leaf, container}
use Rattle.framing.proofs.Rows.{rows_none, room, rows_count, writes_box, writes_leaf}
use Rattle.framing.proofs.+write_box_write_run.Goals as goal

pub write_box-returns-in_default : goal.write_box-returns-in_default
write_box-returns-in_default t c = (rows_none _ _ _ _ _ c.look.ensures.value c.in_default.not-Good, refl)

pub write_box-put-requires : goal.write_box-put-requires
write_box-put-requires t c = room _ _ _ _ _ _ c.args.t.now c.look.ensures.value c.in-Good.is c.requires.depth_in_bounds

pub write_box-returns-in-None : goal.write_box-returns-in-None
write_box-returns-in-None t c =
    writes_leaf _ _ _ _ _ _ _ _ (told c.look.ensures.value c.in-Good.is)
    (leaf _ _ _ c.look.ensures.value c.in-Good.is c.inside.ensures c.in-None.is)
    c.put.ensures

pub write_box-write_run-row-requires : goal.write_box-write_run-row-requires
write_box-write_run-row-requires t c =
    let a = c.args in
    let f = told c.look.ensures.value c.in-Good.is in
    let k = rows_count a.path a.s.now a.at a.base a.depth f (container _ _ _ c.look.ensures.value c.in-Good.is c.inside.ensures c.in-Some.is) in
    let l = c.put.auto.t in
    (omega (arith, body_length f), (omega (arith, body_length f), (omega (arith, f), omega (arith, k, l))))

pub write_box-returns-in-Some : goal.write_box-returns-in-Some
write_box-returns-in-Some t c =
    writes_box _ _ _ _ _ (told c.look.ensures.value c.in-Good.is)
    (container _ _ _ c.look.ensures.value c.in-Good.is c.inside.ensures c.in-Some.is)
    _ _ _ _ _ c.put.ensures c.write_run-row.ensures.t_after c.write_run-row.ensures.value
