use mathlib.Core.Path.{sym}
use lib.Seq.{length-take-le}
use Rattle.rules.specs.Rules.{◌then◌}
use Rattle.counts.proofs.Judged.{begins, judged}
use Rattle.counts.proofs.count_boxes.Goals as goal

pub returns : goal.returns
unfolding ◌then◌
returns c = judged _ _ c.requires _
    c.tally-t.ensures
    c.count_entry.ensures
    c.count_entry-2.ensures
    c.and-later.ensures
    c.count_entry-3.ensures
    c.and.ensures
