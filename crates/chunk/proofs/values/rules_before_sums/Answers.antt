-- `chunk::values::rules_before_sums` meets its contract. Assumes nothing.
use mathlib.Core.Path.{◌∙◌}
use Rattle.rules.specs.Rules.{◌then◌}
use Rattle.chunk.proofs.Judged.{before_sums, before_sums_placed}
use Rattle.chunk.proofs.values.rules_before_sums.Goals as goal

pub returns : goal.returns
unfolding ◌then◌
returns c =
    let p = c.requires in
    let e =
    rw (
      c.and-3.ensures,
      c.and-2.ensures,
      c.and.ensures,
      c.must.ensures,
      c.flagged.ensures,
      c.must-2.ensures,
      c.must-3.ensures,
      c.few.ensures,
      c.must-4.ensures,
      c.follows.ensures,
    )
    at c.and-4.ensures
    in
    record { value = e ∙ before_sums _ _ _ _ _ p.0 p.1 p.2 _ _; placed_up_to = rw e (before_sums_placed _ _ _ _ _ p.0 p.1 p.2 _ _) }
