-- `set::judge_set` meets its contract. Assumes nothing.
use mathlib.Core.Path.{sym, ◌∙◌}
use native.Mathlib.Omega.{arith}
use Rattle.std.proofs.lemmas.Result.{err_from_is_err_and}
use Rattle.track.proofs.Table.{accepted_known}
use Rattle.set.proofs.Outcomes.{has_first, first_is, too_long, within_limit, badly_framed, first_breaks, others_break, others_hold, zeroth}
use Rattle.set.proofs.judge_set.Goals as goal

pub returns-in_err-must-clause-refuses : goal.returns-in_err-must-clause-refuses
returns-in_err-must-clause-refuses c =
    let r = err_from_is_err_and c.from_residual.result c.from_residual.ensures.1 in
    rw (r.1, r.2) (too_long c.args.b.now c.must.ensures c.in_err-must.was)

pub returns-in_err-frame_records-clause-refuses : goal.returns-in_err-frame_records-clause-refuses
returns-in_err-frame_records-clause-refuses c = let b = c.args.b.now in
    let r = err_from_is_err_and c.from_residual-in_err-frame_records.result c.from_residual-in_err-frame_records.ensures.1 in
    rw (r.1, r.2) (badly_framed b (within_limit b c.must.ensures c.in_ok-must.was) c.in_err-frame_records.ensures.0)

pub returns-in_default : goal.returns-in_default
returns-in_default c = let f = c.in_ok-frame_records.ensures in
    let r = c.record_at in
    absurd (has_first c.args.b.now r.result r.ensures.value c.in_default.not-Track (omega (arith, f.1, f.2)))

pub returns-in_err-zeroth-clause-refuses : goal.returns-in_err-zeroth-clause-refuses
returns-in_err-zeroth-clause-refuses c = let b = c.args.b.now in
    let f = c.in_ok-frame_records.ensures in
    let l = within_limit b c.must.ensures c.in_ok-must.was in
    let i = first_is b c.record_at.ensures.value c.in-Track.is in
    let r = err_from_is_err_and c.from_residual-in_err-zeroth.result c.from_residual-in_err-zeroth.ensures.1 in
    rw (r.1, r.2) (first_breaks b l f.0 _ _ i c.in_err-zeroth.ensures.refuses)

pub returns-in_err-others-clause-refuses : goal.returns-in_err-others-clause-refuses
returns-in_err-others-clause-refuses c = let b = c.args.b.now in
    let f = c.in_ok-frame_records.ensures in
    let l = within_limit b c.must.ensures c.in_ok-must.was in
    let t = c.in_ok-zeroth.zeroth in
    let e = c.in_ok-zeroth.ensures.accepts in
    let k = accepted_known t.bytes.now (sym t.accepted) in
    let i = first_is b c.record_at.ensures.value c.in-Track.is in
    let r = err_from_is_err_and c.from_residual-in_err-others.result c.from_residual-in_err-others.ensures.1 in
    rw (r.1, r.2)
    (others_break b l f.0 _ _ i (rw e at k.holds) (rw e at c.others.ensures) c.in_err-others.was)

pub returns-clause-accepts : goal.returns-clause-accepts
returns-clause-accepts c = let b = c.args.b.now in
    let f = c.in_ok-frame_records.ensures in
    let l = within_limit b c.must.ensures c.in_ok-must.was in
    let t = c.in_ok-zeroth.zeroth in
    let e = c.in_ok-zeroth.ensures.accepts in
    let k = accepted_known t.bytes.now (sym t.accepted) in
    let i = first_is b c.record_at.ensures.value c.in-Track.is in
    (others_hold b l f.0 _ _ i (rw e at k.holds) (rw e at c.others.ensures) c.in_ok-others.was, e ∙ zeroth b _ i)
