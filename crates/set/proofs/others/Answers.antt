-- `set::others` meets its contract. Assumes nothing.
use mathlib.Core.Path.{sym}
use Rattle.std.proofs.lemmas.Result.{err_from_is_err_and}
use Rattle.track.proofs.Table.{accepted_known}
use Rattle.set.proofs.Following.{members_begins, members_ends, members_breaks, members_on, rest_none, rest_full, rest_part}
use Rattle.set.proofs.others.Goals as goal

pub loop-k-init : goal.loop-k-init
loop-k-init c = members_begins _ _ _ c.requires

pub returns-in_default : goal.returns-in_default
returns-in_default c = members_ends _ _ c.loop-k.invariant (rest_none _ _ _ c.loop-k-test.true c.record_at.result c.record_at.ensures.value c.in_default.not-Track)

pub returns-in_err-track : goal.returns-in_err-track
returns-in_err-track c = let w = c.loop-k in
    let r = err_from_is_err_and c.from_residual.result c.from_residual.ensures.1 in
    rw (r.1, r.2)
    (members_breaks _ _ w.invariant _ _ (rest_part c.args.b.now w.at w.k c.loop-k-test.true c.record_at.ensures.value c.in-Track.is)
    c.in_err-track.ensures.refuses)

pub loop-k-preserved : goal.loop-k-preserved
loop-k-preserved c = let w = c.loop-k in
    let t = c.in_ok-track.track in
    let e = c.in_ok-track.ensures.accepts in
    let k = accepted_known t.bytes.now (sym t.accepted) in
    let m = rw c.in-Track.is at c.record_at.ensures.mark_bounds in
    members_on _ _ w.invariant _ _ (rest_part c.args.b.now w.at w.k c.loop-k-test.true c.record_at.ensures.value c.in-Track.is)
    (rw e at k.holds) (rw e at c.also-sofar.ensures) c.loop-k-test.true m

pub returns : goal.returns
returns c = members_ends _ _ c.loop-k.invariant (rest_full _ _ _ c.loop-k-test.false)
