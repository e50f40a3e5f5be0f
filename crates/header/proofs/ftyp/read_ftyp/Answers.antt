-- `header::ftyp::read_ftyp` meets its contract. Assumes nothing.
use Rattle.std.proofs.Common.{rules, sym, ◌∙◌}
use native.Mathlib.Omega.{arith}
use Rattle.header.proofs.Compatible.{whole_rest, none_before, none_more, one_more, found, found_none}
use Rattle.header.proofs.ftyp.read_ftyp.Goals as goal

pub loop-brand-init : goal.loop-brand-init
loop-brand-init c = (search rules, tt, search rules, none_before _ _ c.requires (search (rules, whole_rest)))

pub returns-then-is_brand : goal.returns-then-is_brand
returns-then-is_brand c =
    let n = c.loop-brand.invariant.3 in
    let s = c.in-Some.ensures.steps.1 in
    found _ _ c.requires (omega arith) c.if-payload-ne0.false n.0 _ _ (sym n.1 ∙ s.0) (s.1 ∙ c.loop-brand.invariant.2)
    (one_more _ _ c.requires n.0 _ _ n.1 s.0 (s.1 ∙ c.loop-brand.invariant.2) c.near.ensures c.is_brand.ensures c.if-is_brand.true)

pub loop-brand-preserved : goal.loop-brand-preserved
loop-brand-preserved c =
    let l = c.loop-brand.invariant in
    let n = l.3 in
    let s = c.in-Some.ensures.steps in (
      search rules,
      tt,
      s.0 ∙ l.2,
      none_more _ _ c.requires n.0 _ _ n.1 s.1.0 (s.1.1 ∙ l.2) c.near.ensures c.is_brand.ensures c.if-is_brand.false n.2,
    )

pub returns : goal.returns
returns c = found_none _ _ c.requires (omega arith) c.if-payload-ne0.false c.loop-brand.invariant.3 (rw c.loop-brand.invariant.2 at c.in-None.ensures.steps.1.0)
