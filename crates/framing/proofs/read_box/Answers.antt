-- `framing::read_box` meets its contract. Assumes nothing.
use Rattle.framing.proofs.Steps.{by_header, by_past, reads_up, reads_leaf, reads_container, reads_inner}
use Rattle.framing.proofs.read_box.Goals as goal

pub returns-in_err-past : goal.returns-in_err-past
returns-in_err-past c =
    reads_up _ _ _ _ _ (by_header _ _ _ _ _ c.in_err-past.ensures.value) c.from_residual.result c.from_residual.ensures.1

pub returns-in_default : goal.returns-in_default
returns-in_default c = by_past _ _ _ _ _ c.in_default.is c.in_ok-past.ensures.value

pub returns-in_default-inside : goal.returns-in_default-inside
returns-in_default-inside c =
    reads_leaf _ _ _ _ _ (by_past c.args.path _ _ _ _ c.in-Some.is c.in_ok-past.ensures.value) c.inside.ensures c.in_default-inside.is

pub returns-in_err-boxes : goal.returns-in_err-boxes
returns-in_err-boxes c =
    reads_inner _ _ _ _ _ (by_past c.args.path _ _ _ _ c.in-Some.is c.in_ok-past.ensures.value) c.inside.ensures c.in-Some-inside.is
    c.read_run.ensures c.in_err-boxes.was c.from_residual-in_err-boxes.result c.from_residual-in_err-boxes.ensures.1

pub returns : goal.returns
returns c =
    reads_container _ _ _ _ _ (by_past c.args.path _ _ _ _ c.in-Some.is c.in_ok-past.ensures.value) c.inside.ensures c.in-Some-inside.is
    c.read_run.ensures c.in_ok-boxes.was
