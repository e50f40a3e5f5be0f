-- `framing::next_box` and `framing::read_run`, which call each other, meet their contracts. Assumes nothing.
use Rattle.std.proofs.Common.{ap, ◌∙◌, arith, Ok}
use Rattle.rules.proofs.Forest.{look_found}
use Rattle.framing.proofs.Steps.{known, by_header, by_past, reads_up, reads_leaf, reads_container, reads_inner}
use Rattle.framing.proofs.+next_box_read_run.Goals as goal

pub next_box-returns-in_err-next : goal.next_box-returns-in_err-next
next_box-returns-in_err-next t c =
    reads_up _ _ _ _ _ (by_header _ _ _ _ _ c.in_err-next.ensures.value) c.from_residual.result c.from_residual.ensures.1

pub next_box-returns-in_default : goal.next_box-returns-in_default
next_box-returns-in_default t c = by_past _ _ _ _ _ c.in_default.is c.in_ok-next.ensures.value

pub next_box-returns-in_default-inside : goal.next_box-returns-in_default-inside
next_box-returns-in_default-inside t c =
    reads_leaf _ _ _ _ _ (by_past c.args.path _ _ _ _ c.in-Some.is c.in_ok-next.ensures.value) c.inside.ensures c.in_default-inside.is

pub next_box-returns-in_err-boxes : goal.next_box-returns-in_err-boxes
next_box-returns-in_err-boxes t c =
    reads_inner _ _ _ _ _ (by_past c.args.path _ _ _ _ c.in-Some.is c.in_ok-next.ensures.value) c.inside.ensures c.in-Some-inside.is
    c.read_run.ensures c.in_err-boxes.was c.from_residual-in_err-boxes.result c.from_residual-in_err-boxes.ensures.1

pub next_box-returns : goal.next_box-returns
next_box-returns t c =
    reads_container _ _ _ _ _ (by_past c.args.path _ _ _ _ c.in-Some.is c.in_ok-next.ensures.value) c.inside.ensures c.in-Some-inside.is
    c.read_run.ensures c.in_ok-boxes.was

pub read_run-overflow_add-at : goal.read_run-overflow_add-at
read_run-overflow_add-at t c = let k = known _ _ _ _ _ (ap Ok c.in-Some.is) c.in_ok-past.ensures in omega (arith, look_found _ _ _ _ _ k.1)

pub read_run-loop-past-smaller : goal.read_run-loop-past-smaller
read_run-loop-past-smaller t c = let k = known _ _ _ _ _ (ap Ok c.in-Some.is) c.in_ok-past.ensures in omega (arith, look_found _ _ _ _ _ k.1)

pub read_run-loop-past-preserved : goal.read_run-loop-past-preserved
read_run-loop-past-preserved t c =
    let k = known _ _ _ _ _ (ap Ok c.in-Some.is) c.in_ok-past.ensures in
    (c.loop-past.invariant.0 ∙ k.0, (look_found _ _ _ _ _ k.1).fits)
