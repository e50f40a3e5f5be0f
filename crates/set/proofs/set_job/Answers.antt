-- `set::set_job` meets its contract. Assumes nothing.
use mathlib.Core.Path.{◌∙◌}
use Rattle.track.proofs.Table.{refused_is}
use Rattle.set.proofs.Outcomes.{set_refuses, set_accepts}
use Rattle.set.proofs.set_job.Goals as goal

pub returns-in-Ok : goal.returns-in-Ok
returns-in-Ok c = let a = c.args in
    let e = c.in-Ok.ensures.accepts in
    (rw e.1 at c.accept.ensures) ∙ set_accepts a.b.now a.t.now e.0

pub returns-in-Err : goal.returns-in-Err
returns-in-Err c = let a = c.args in
    refused_is a.t.now _ _ _ c.from.ensures ∙ set_refuses a.b.now a.t.now c.in-Err.ensures.refuses
