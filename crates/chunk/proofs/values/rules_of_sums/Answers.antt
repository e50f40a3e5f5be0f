-- `chunk::values::rules_of_sums` meets its contract. Assumes nothing.
use mathlib.Core.Path.{refl, sym, ◌∙◌}
use native.Mathlib.Omega.{arith}
use Rattle.rules.specs.Rules.{◌then◌}
use Rattle.std.proofs.lemmas.Result.{err_from_is_err_and}
use Rattle.rules.proofs.Then.{then_holds, then_breaks, must_true, must_false}
use Rattle.chunk.proofs.Judged.{lasts_is, end_is, opens_on, rest_is, rest_breaks}
use Rattle.chunk.proofs.values.rules_of_sums.Goals as goal

pub returns-in_default : goal.returns-in_default
returns-in_default c = let p = c.requires in
    rw c.new.ensures
    (then_breaks _ (lasts_is _ _ _ _ _ _ _ p.moof_in.0 p.moof_in.1 p.moof_in.2 p.spans_all ∙ must_false 20 _ c.in_default.ensures), refl, omega (arith, p.moof_in.0.run.stands.fits))

pub returns-in_err-and : goal.returns-in_err-and
unfolding ◌then◌
returns-in_err-and c =
    let p = c.requires in
    let e = c.in-Some.ensures in
    let is = rw (c.and.ensures, c.must.ensures, c.opens.ensures, c.must-2.ensures) at c.and-2.ensures in
    let b = rest_breaks _ _ _ _ _ _ _ p.moof_in.0 p.moof_in.1 p.moof_in.2 p.spans_all _ _ _ is c.in_err-and.was in
    let r = err_from_is_err_and c.from_residual.result c.from_residual.ensures.1 in
    rw (r.1, r.2) (then_holds _ (lasts_is _ _ _ _ _ _ _ p.moof_in.0 p.moof_in.1 p.moof_in.2 p.spans_all ∙ must_true 20 _ e.0) ∙ b.0, b.1.0, b.1.1)

pub returns : goal.returns
unfolding ◌then◌
returns c =
    let p = c.requires in
    let e = c.in-Some.ensures in
    let is = rw (c.and.ensures, c.must.ensures, c.opens.ensures, c.must-2.ensures) at c.and-2.ensures in (
      then_holds _ (lasts_is _ _ _ _ _ _ _ p.moof_in.0 p.moof_in.1 p.moof_in.2 p.spans_all ∙ must_true 20 _ e.0)
          ∙ sym (rest_is _ _ _ _ _ _ _ p.moof_in.0 p.moof_in.1 p.moof_in.2 p.spans_all _ _ _ is)
          ∙ c.in_ok-and.was,
      p.moof_in.1.start,
      end_is _ _ _ _ _ _ _ p.moof_in.0 p.moof_in.1 p.moof_in.2 p.spans_all e.1,
      e.2,
      opens_on _ _ _ _ _ _ _ p.moof_in.0 p.moof_in.1 p.moof_in.2 p.spans_all,
    )
