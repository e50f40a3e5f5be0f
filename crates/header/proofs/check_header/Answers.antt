-- `header::check_header` meets its contract. Assumes nothing.
use mathlib.Core.Path.{sym, ◌∙◌}
use Rattle.std.proofs.lemmas.Result.{err_from_is_err_and}
use Rattle.header.proofs.Checked.{seven_breaks, ftyp_wrong}
use Rattle.header.proofs.check_header.Goals as goal

pub returns-in_err-s : goal.returns-in_err-s
returns-in_err-s c =
    let met = seven_breaks _ _ c.locate_boxes-s.ensures.rule c.in_err-s.was in
    let r = err_from_is_err_and c.from_residual.result c.from_residual.ensures.1 in
    rw (r.1, r.2) (record { heads_as = met.0; heads_up_to = met.1 })

pub returns-in_default : goal.returns-in_default
returns-in_default c =
    let met = ftyp_wrong _ (sym c.locate_boxes-s.ensures.rule.is ∙ c.in_ok-s.was) in
    record { heads_as = rw c.in_default.is met.0; heads_up_to = met.1 }
