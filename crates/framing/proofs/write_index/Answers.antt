-- `framing::write_index` meets its contract. Assumes nothing.
use Rattle.framing.proofs.Outcome.{too_long, misframed, no_room, room_there, good_index}
use Rattle.framing.proofs.write_index.Goals as goal

pub returns-in_err-must : goal.returns-in_err-must
returns-in_err-must c = too_long _ _ c.from_residual.result c.must.ensures c.in_err-must.was c.from_residual.ensures.1

pub returns-in_err-boxes : goal.returns-in_err-boxes
returns-in_err-boxes c =
    misframed _ _ c.must.ensures c.in_ok-must.was c.from_residual-in_err-boxes.result c.frame.ensures c.in_err-boxes.was
    c.from_residual-in_err-boxes.ensures.1

pub returns-in_err-must-2 : goal.returns-in_err-must-2
returns-in_err-must-2 c =
    no_room _ _ c.must.ensures c.in_ok-must.was c.frame.ensures c.in_ok-boxes.was c.must-2.ensures c.from_residual-in_err-must-2.result
    c.in_err-must-2.was c.from_residual-in_err-must-2.ensures.1

pub write_run-requires-clause-depth_in_bounds : goal.write_run-requires-clause-depth_in_bounds
write_run-requires-clause-depth_in_bounds c =
    room_there _ _ c.must.ensures c.in_ok-must.was c.frame.ensures c.in_ok-boxes.was c.must-2.ensures c.in_ok-must-2.was

pub returns : goal.returns
returns c =
    good_index _ _ c.must.ensures c.in_ok-must.was c.frame.ensures c.in_ok-boxes.was c.must-2.ensures c.in_ok-must-2.was _
    c.write_run.ensures.t_after
