-- `pieces::step::on_header` meets its contract. Assumes nothing.
use mathlib.Core.Path.{sym, ap, ◌∙◌}
use Rattle.rules.specs.Pieces.{gathered}
use Rattle.pieces.proofs.Heading.{headed_5, headed_3, headed_passes, headed_passed}
use Rattle.pieces.proofs.step.on_header.Goals as goal

pub returns-then-st-ge-BOX_LIMIT-clause-means_headed : goal.returns-then-st-ge-BOX_LIMIT-clause-means_headed
returns-then-st-ge-BOX_LIMIT-clause-means_headed c = rw c.stop_at.ensures (headed_5 c.requires c.if-st-ge-BOX_LIMIT.true)

pub returns-then-b-h-clause-means_headed : goal.returns-then-b-h-clause-means_headed
returns-then-b-h-clause-means_headed c =
    rw c.stop_at-then-b-h.ensures (headed_3 c.requires c.if-st-ge-BOX_LIMIT.false (rw c.size_of.ensures at c.if-b-h.true))

pub pass_over-requires : goal.pass_over-requires
pass_over-requires c =
    rw (c.size_of.ensures, c.read-kind.ensures)
    (headed_passes c.requires c.if-st-ge-BOX_LIMIT.false
    (rw c.size_of.ensures at c.if-b-h.false)
    (ap gathered (sym c.read-kind.ensures) ∙ sym c.gathered.ensures ∙ c.if-gathered.false))

pub returns-clause-means_headed : goal.returns-clause-means_headed
returns-clause-means_headed c =
    headed_passed c.requires c.if-st-ge-BOX_LIMIT.false
    (rw c.size_of.ensures at c.if-b-h.false)
    (ap gathered (sym c.read-kind.ensures) ∙ sym c.gathered.ensures ∙ c.if-gathered.false)
    (rw (c.size_of.ensures, c.read-kind.ensures) at c.pass_over.ensures)
