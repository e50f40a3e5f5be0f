-- `set::also` meets its contract. Assumes nothing.
use mathlib.Core.Path.{sym, ap, ◌∙◌}
use Rattle.std.proofs.lemmas.Result.{err_from_is_err_and}
use Rattle.rules.specs.Rules.{of_track}
use Rattle.rules.proofs.Then.{then_holds, then_breaks}
use Rattle.set.proofs.also.Goals as goal

pub returns-in_err-sofar : goal.returns-in_err-sofar
returns-in_err-sofar c = let r = err_from_is_err_and c.from_residual.result c.from_residual.ensures.1 in
    rw (r.1, r.2) (sym (then_breaks _ c.in_err-sofar.was))

pub returns : goal.returns
returns c = c.of_track.ensures ∙ ap (of_track c.args.k) c.agrees.ensures ∙ sym (then_holds _ c.in_ok-sofar.was)
