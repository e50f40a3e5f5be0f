-- `set::agree::same_boundaries` meets its contract. Assumes nothing.
use mathlib.Core.Path.{sym, ap, ◌∙◌}
use mathlib.Core.Bool.{Bool}
use mathlib.Core.Logic.{inl, inr}
use Rattle.rules.specs.Rules.{must}
use Rattle.std.proofs.lemmas.Result.{err_from_is_err_and}
use Rattle.std.specs.Iterator.Adapters.{zip_first, zip_second}
use Rattle.track.proofs.Table.{accepted_known, none_over}
use Rattle.set.proofs.Beside.{beside_by_begins, beside_by_on, beside_by_breaks, beside_ends, beside_short}
use Rattle.set.proofs.agree.same_boundaries.Goals as goal

pub loop-fragment0-init : goal.loop-fragment0-init
loop-fragment0-init c = let a = c.args in
    let i = c.into_iter-fragment0-iterator.ensures.into_iter_gives in
    let z = c.zip-fragment0-items.ensures in (
      (tt, tt),
      tt,
      beside_by_begins (accepted_known a.zeroth.bytes.now (sym a.zeroth.accepted)) (accepted_known a.track.bytes.now (sym a.track.accepted)) c.requires
          (ap zip_first i ∙ z.first) (ap zip_second i ∙ z.second) c.fragments.ensures c.fragments-2.ensures,
    )

pub returns-in_err-must : goal.returns-in_err-must
returns-in_err-must c = let n = c.in-Some.ensures.steps in
    let r = err_from_is_err_and c.from_residual.result c.from_residual.ensures.1 in
    rw (r.1, r.2) (beside_by_breaks c.loop-fragment0.invariant.2 n.0.0 n.1.0 c.must.ensures c.in_err-must.was)

pub loop-fragment0-preserved : goal.loop-fragment0-preserved
loop-fragment0-preserved c = let n = c.in-Some.ensures.steps in
    ((tt, tt), tt, beside_by_on c.loop-fragment0.invariant.2 n.0 n.1 c.must.ensures c.in_ok-must.was)

pub returns : goal.returns
returns c = let w = c.loop-fragment0.invariant.2 in
    c.must-2.ensures
    ∙ ap (λ (b : Bool). must b 28 c.loop-fragment0.last) c.eq.ensures
    ∙ sym
    (beside_ends _ _ w.going
    (elim c.in-None.ensures.steps [
      | inl h ↦ none_over w.over₀ h.1.0
      | inr h ↦ beside_short _ _ w.going (none_over w.over h.1.0)
    ]))
