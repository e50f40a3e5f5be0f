-- `header::check_bodies` meets its contract. Assumes nothing.
use mathlib.Core.Path.{refl}
use Rattle.std.proofs.lemmas.Result.{err_from_is_err_and}
use Rattle.header.proofs.Valued.{header_is}
use Rattle.header.proofs.Checked.{bodies_tell, eight_breaks, nine_breaks, values_break, all_hold}
use Rattle.header.proofs.check_bodies.Goals as goal

pub returns-in_err-v : goal.returns-in_err-v
returns-in_err-v c =
    let p = c.requires in
    let met = eight_breaks _ p.1 _ p.0 _ c.read_bodies.ensures c.in_err-v.was in
    let r = err_from_is_err_and c.from_residual.result c.from_residual.ensures.1 in
    rw (r.1, r.2) (record { heads_as = met.0; heads_up_to = met.1 })

pub returns-then-not-branded : goal.returns-then-not-branded
returns-then-not-branded c =
    let p = c.requires in
    let v = bodies_tell _ p.1 _ p.0 c.read_bodies.ensures c.in_ok-v.was in
    let met = nine_breaks _ p.1 _ p.0 v.1 c.if-not-branded.true in
    record { heads_as = met.0; heads_up_to = met.1 }

pub returns-in_err-rules_of_values : goal.returns-in_err-rules_of_values
returns-in_err-rules_of_values c =
    let p = c.requires in
    let v = bodies_tell _ p.1 _ p.0 c.read_bodies.ensures c.in_ok-v.was in
    let met = values_break _ p.1 _ p.0 v.1 c.if-not-branded.false c.rules_of_values.ensures c.in_err-rules_of_values.was in
    let r = err_from_is_err_and c.from_residual-in_err-rules_of_values.result c.from_residual-in_err-rules_of_values.ensures.1 in
    rw (r.1, r.2) (record { heads_as = met.0; heads_up_to = met.1 })

pub returns-clause-heads_as : goal.returns-clause-heads_as
returns-clause-heads_as c = let p = c.requires in
    let v = bodies_tell _ p.1 _ p.0 c.read_bodies.ensures c.in_ok-v.was in
    let met = all_hold _ p.1 _ p.0 v.1 c.if-not-branded.false c.rules_of_values.ensures c.in_ok-rules_of_values.was (header_is _ _ _ v.0 refl refl refl refl) refl refl in
    met.0
