-- `header::values::rules_of_values` meets its contract. Assumes nothing.
use Rattle.rules.specs.Rules.{◌then◌}
use Rattle.header.proofs.Valued.{values_are}
use Rattle.header.proofs.values.rules_of_values.Goals as goal

pub returns : goal.returns
unfolding ◌then◌
returns c = rw
    (c.and-8.ensures, c.and-7.ensures, c.and-6.ensures, c.and-5.ensures, c.and-4.ensures, c.and-3.ensures, c.and-2.ensures, c.and.ensures, c.must-9.ensures, c.must-8.ensures, c.must-7.ensures, c.must-6.ensures, c.must-5.ensures, c.must-4.ensures, c.must-3.ensures, c.must-2.ensures, c.must.ensures)
    (values_are _ _ _ c.requires.1 c.near-kind.ensures c.pairs.ensures)
