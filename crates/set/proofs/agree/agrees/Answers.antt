-- `set::agree::agrees` meets its contract. Assumes nothing.
use mathlib.Core.Path.{sym, ◌∙◌}
use Rattle.std.proofs.lemmas.Result.{err_from_is_err_and}
use Rattle.track.proofs.Table.{accepted_known}
use Rattle.set.proofs.Beside.{breaks_25, breaks_26, breaks_27, only_28, same_count}
use Rattle.set.proofs.agree.agrees.Goals as goal

pub returns-in_err-must : goal.returns-in_err-must
returns-in_err-must c = let a = c.args in
    let r = err_from_is_err_and c.from_residual.result c.from_residual.ensures.1 in
    rw (r.1, r.2)
    (breaks_25 a.zeroth.bytes.now a.track.bytes.now a.zeroth.facts a.track.facts (accepted_known _ (sym a.zeroth.accepted)) (accepted_known _ (sym a.track.accepted))
    c.must.ensures c.in_err-must.was)

pub returns-in_err-must-2 : goal.returns-in_err-must-2
returns-in_err-must-2 c = let a = c.args in
    let r = err_from_is_err_and c.from_residual-in_err-must-2.result c.from_residual-in_err-must-2.ensures.1 in
    rw (r.1, r.2)
    (breaks_26 a.zeroth.bytes.now a.track.bytes.now a.zeroth.facts a.track.facts (accepted_known _ (sym a.zeroth.accepted)) (accepted_known _ (sym a.track.accepted))
    c.must.ensures c.in_ok-must.was c.must-2.ensures c.in_err-must-2.was)

pub returns-in_err-must-3 : goal.returns-in_err-must-3
returns-in_err-must-3 c = let a = c.args in
    let r = err_from_is_err_and c.from_residual-in_err-must-3.result c.from_residual-in_err-must-3.ensures.1 in
    rw (r.1, r.2)
    (breaks_27 a.zeroth.bytes.now a.track.bytes.now a.zeroth.facts a.track.facts (accepted_known _ (sym a.zeroth.accepted)) (accepted_known _ (sym a.track.accepted))
    c.must.ensures c.in_ok-must.was c.must-2.ensures c.in_ok-must-2.was c.must-3.ensures c.in_err-must-3.was)

pub same_boundaries-requires : goal.same_boundaries-requires
same_boundaries-requires c = let a = c.args in
    same_count a.zeroth.bytes.now a.track.bytes.now a.zeroth.facts a.track.facts (accepted_known _ (sym a.zeroth.accepted)) (accepted_known _ (sym a.track.accepted))
    c.must-3.ensures c.in_ok-must-3.was

pub returns : goal.returns
returns c = let a = c.args in
    c.same_boundaries.ensures
    ∙ only_28 a.zeroth.bytes.now a.track.bytes.now a.zeroth.facts a.track.facts (accepted_known _ (sym a.zeroth.accepted)) (accepted_known _ (sym a.track.accepted))
    c.must.ensures c.in_ok-must.was c.must-2.ensures c.in_ok-must-2.was c.must-3.ensures c.in_ok-must-3.was
