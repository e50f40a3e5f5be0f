-- `fields::versioned` meets its contract. Assumes nothing.
use mathlib.Core.Path.{◌∙◌}
use native.Mathlib.Omega.{arith}
use Rattle.fields.proofs.Forms.{version_is, is_zero, is_one, is_neither}
use Rattle.fields.proofs.versioned.Goals as goal
use Rattle.fields.proofs.versioned.Goals.{else-payload-zero-via-then-payload-zero+else-s-body-eq0, else-payload-zero-via-else-payload-zero}
use Rattle.fields.proofs.versioned.Goals.{else-payload-one-via-then-payload-one+else-s-body-eq1, else-payload-one-via-else-payload-one}

pub returns-then-s-body-eq0 : goal.returns-then-s-body-eq0
returns-then-s-body-eq0 c = let p = c.requires in
    let e = c.if-payload-zero.true in
    (is_zero _ _ p.0 _ _ (omega (arith, p.1)) e c.if-s-body-eq0.true, version_is _ _ p.0 ∙ c.if-s-body-eq0.true, omega (arith, e, p.0.holds, p.1))

pub returns-then-s-body-eq1 : goal.returns-then-s-body-eq1
returns-then-s-body-eq1 c = let p = c.requires in
    let e = c.if-payload-one.true in
    (is_one _ _ p.0 _ _ (omega (arith, p.2)) e c.if-s-body-eq1.true, version_is _ _ p.0 ∙ c.if-s-body-eq1.true, omega (arith, e, p.0.holds, p.2))

pub returns : goal.returns
returns c = let p = c.requires in
    is_neither _ _ p.0 _ _ (omega (arith, p.1)) (omega (arith, p.2))
    (λ e z. elim c.else-payload-zero.branch [
      | else-payload-zero-via-then-payload-zero+else-s-body-eq0 w ↦ w.if-s-body-eq0.false z
      | else-payload-zero-via-else-payload-zero w ↦ w.if-payload-zero.false e
    ])
    (λ e z. elim c.else-payload-one.branch [
      | else-payload-one-via-then-payload-one+else-s-body-eq1 w ↦ w.if-s-body-eq1.false z
      | else-payload-one-via-else-payload-one w ↦ w.if-payload-one.false e
    ])
