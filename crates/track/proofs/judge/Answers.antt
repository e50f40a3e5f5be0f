-- `track::judge` meets its contract. Assumes nothing.
use mathlib.Core.Path.{refl, ap, subst}
use mathlib.Core.Bool.{not}
use native.Mathlib.Omega.{arith}
use Rattle.std.proofs.lemmas.Result.{err_from_is_err_and}
use Rattle.rules.proofs.Forest.{look_found}
use Rattle.boxes.proofs.Stands.{stands_here}
use Rattle.track.proofs.Judging.{Walking, walking_begins, too_long, within_limit, waits_low, waits_whole, walking_on, walking_ends, walking_breaks}
use Rattle.track.proofs.OwnBytes.{own_held}
use Rattle.track.proofs.Stepping.{stopped, passed_over}
use Rattle.track.proofs.judge.Goals as goal

pub returns-in_err-must : goal.returns-in_err-must
returns-in_err-must c =
    let r = err_from_is_err_and c.from_residual.result c.from_residual.ensures.1 in
    rw (r.1, r.2) (too_long c.args.s.now c.must.ensures c.in_err-must.was)

pub loop-past-init : goal.loop-past-init
loop-past-init c = walking_begins _

pub top_box-requires : goal.top_box-requires
top_box-requires c = omega (arith, within_limit c.args.s.now c.must.ensures c.in_ok-must.was)

pub overflow_add-next : goal.overflow_add-next
overflow_add-next c = let k = rw c.in-Some.is at c.in_ok-past.ensures in
    omega (arith, look_found _ _ _ _ _ k.1)

pub slice_bounds-and_box-end : goal.slice_bounds-and_box-end
slice_bounds-and_box-end c = let k = rw c.in-Some.is at c.in_ok-past.ensures in
    omega (arith, look_found _ _ _ _ _ k.1)

pub slice_bounds-and_box-count-then-not-passes : goal.slice_bounds-and_box-count-then-not-passes
slice_bounds-and_box-count-then-not-passes c = waits_low _ c.loop-past.invariant c.waits_from-from.ensures

pub slice_bounds-and_box-start-then-not-passes : goal.slice_bounds-and_box-start-then-not-passes
slice_bounds-and_box-start-then-not-passes c = let g = c.loop-past.invariant in
    omega (arith, g.inner, waits_low _ g c.waits_from-from.ensures)

pub and_box-course-requires : goal.and_box-course-requires
and_box-course-requires c = let k = rw c.in-Some.is at c.in_ok-past.ensures in
    let g = c.loop-past.invariant in
    let l = within_limit c.args.s.now c.must.ensures c.in_ok-must.was in
    (waits_whole _ g l c.waits_from-from.ensures, own_held _ _ (stands_here (look_found _ _ _ _ _ k.1)) _ refl l _, stopped c.passes.result _ _ c.passes.ensures (ap not c.if-not-passes.true))

pub loop-past-smaller-then-not-passes : goal.loop-past-smaller-then-not-passes
loop-past-smaller-then-not-passes c = let k = rw c.in-Some.is at c.in_ok-past.ensures in
    omega (arith, look_found _ _ _ _ _ k.1)

pub loop-past-preserved-then-not-passes : goal.loop-past-preserved-then-not-passes
loop-past-preserved-then-not-passes c = let k = rw c.in-Some.is at c.in_ok-past.ensures in
    rw c.and_box-course.ensures (walking_on _ c.loop-past.invariant k.0 k.1 _ c.waits_from-from.ensures)

pub loop-past-smaller : goal.loop-past-smaller
loop-past-smaller c = let k = rw c.in-Some.is at c.in_ok-past.ensures in
    omega (arith, look_found _ _ _ _ _ k.1)

pub loop-past-preserved : goal.loop-past-preserved
loop-past-preserved c = let k = rw c.in-Some.is at c.in_ok-past.ensures in
    subst (Walking _ _ _) (passed_over c.passes.result _ _ c.passes.ensures (ap not c.if-not-passes.false) _ _ _)
    (walking_on _ c.loop-past.invariant k.0 k.1 _ refl)

pub returns-in_err-past : goal.returns-in_err-past
returns-in_err-past c =
    let r = err_from_is_err_and c.from_residual-in_err-past.result c.from_residual-in_err-past.ensures.1 in
    rw (r.1, r.2) (walking_breaks _ c.loop-past.invariant (within_limit c.args.s.now c.must.ensures c.in_ok-must.was) c.in_err-past.ensures)

pub returns : goal.returns
returns c = let k = rw c.in_default.is at c.in_ok-past.ensures in
    walking_ends _ c.loop-past.invariant (within_limit c.args.s.now c.must.ensures c.in_ok-must.was) k.0 k.1 c.course_end.ensures
