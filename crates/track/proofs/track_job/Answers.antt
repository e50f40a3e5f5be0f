-- `track::track_job` meets its contract. Assumes nothing.
use mathlib.Core.Path.{sym, ◌∙◌}
use Rattle.track.proofs.Table.{refused_is, accepted_known, track_accepted, track_refused}
use Rattle.track.proofs.track_job.Goals as goal

pub returns-in-Ok : goal.returns-in-Ok
returns-in-Ok c = let a = c.args in
    let e = c.in-Ok.ensures.accepts in
    let k = accepted_known c.in-Ok.track.bytes.now (sym c.in-Ok.track.accepted) in
    (rw e at c.accept.ensures) ∙ track_accepted a.s.now a.t.now (rw e at k.holds)

pub returns-in-Err : goal.returns-in-Err
returns-in-Err c = let a = c.args in
    refused_is a.t.now _ _ _ c.from.ensures ∙ track_refused a.s.now a.t.now c.in-Err.ensures.refuses
