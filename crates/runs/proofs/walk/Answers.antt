-- `runs::walk` meets its contract. Assumes nothing.
use Rattle.std.proofs.Common.{ap, ◌∙◌, arith}
use Rattle.std.proofs.lemmas.Result.{err_from_is_err_and}
use Rattle.boxes.specs.declared.SiblingBoxes.{SiblingBoxes}
use Rattle.boxes.proofs.Stands.{stands}
use Rattle.boxes.proofs.Walks.{first_there, none_there, first_box}
use Rattle.runs.specs.Runs.{runs_at}
use Rattle.runs.proofs.Walked.{runs_over, runs_next, runs_same, walked_none, walked_same, walked_wrong}
use Rattle.runs.proofs.walk.Goals as goal

pub loop-b-init : goal.loop-b-init
loop-b-init c = let a = c.args in
    let i = c.into_iter-b-iterator.ensures.into_iter_gives in
    let n = c.along-b-items.ensures in (
      ap (λ (x : SiblingBoxes). x.bytes.now) i ∙ n.0,
      rw (c.no_span.ensures, ap (λ (x : SiblingBoxes). x.at) i ∙ n.1) (walked_none a.m.now a.want a.d a.from (runs_at a.s.now a.start)),
      omega arith,
    )

pub and_run-requires-clause-stands : goal.and_run-requires-clause-stands
and_run-requires-clause-stands c = let f = first_there c.loop-b.invariant.0 c.in-Some.ensures.steps.1 in
    (stands c.args.m.now c.args.s.now c.requires.s_value (first_box f), c.requires.m_len_bound.0, c.requires.m_len_bound.1)

pub returns-in_err-t : goal.returns-in_err-t
returns-in_err-t c = let a = c.args in
    let l = c.loop-b in
    let f = first_there l.invariant.0 c.in-Some.ensures.steps.1 in
    let w = c.in_err-t.ensures in
    let r = err_from_is_err_and c.from_residual.result c.from_residual.ensures.1 in
    rw (r.1, r.2, w.1) (
      walked_wrong a.m.now a.want a.d a.from _ _ l.t l.invariant.1 _ _ (runs_next a.s.now _ f c.if-b-eq-TRUN.true) w.0,
      omega (arith, (stands a.m.now a.s.now c.requires.s_value (first_box f)).fits),
    )

pub loop-b-preserved-then-b-eq-TRUN : goal.loop-b-preserved-then-b-eq-TRUN
loop-b-preserved-then-b-eq-TRUN c = let a = c.args in
    let i = c.loop-b.invariant in
    let n = c.in-Some.ensures.steps in
    let f = first_there i.0 n.1 in
    let w = c.in_ok-t.ensures in (
      n.0 ∙ i.0,
      w.0 _ _ (walked_same a.m.now a.want a.d a.from _ _ c.loop-b.t i.1 _ (runs_next a.s.now _ f c.if-b-eq-TRUN.true)),
      omega (arith, i.2, w.1, f.place, f.next, f.stands.low, f.stands.holds),
    )

pub loop-b-preserved : goal.loop-b-preserved
loop-b-preserved c = let a = c.args in
    let i = c.loop-b.invariant in
    let n = c.in-Some.ensures.steps in
    let f = first_there i.0 n.1 in (
      n.0 ∙ i.0,
      walked_same a.m.now a.want a.d a.from _ _ c.loop-b.t i.1 _ (runs_same a.s.now _ f c.if-b-eq-TRUN.false),
      omega (arith, i.2, f.place, f.next),
    )

pub returns : goal.returns
returns c = let a = c.args in
    let i = c.loop-b.invariant in
    walked_same a.m.now a.want a.d a.from _ _ c.loop-b.t i.1 _ (runs_over a.s.now _ (none_there i.0 _ c.in-None.ensures.steps.1.0))
