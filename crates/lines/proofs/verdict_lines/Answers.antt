-- `lines::verdict_lines` meets its contract: the accepted line with the boundaries behind it, or the refused line. Assumes nothing.
use borrow.Author.Rules.{rules}
use borrow.Author.Tests.{eq-eqb, ne_eqb}
use Rattle.lines.specs.Lines.{verdict_lines}
use Rattle.lines.proofs.Texts.{then, whole_line}
use Rattle.lines.proofs.verdict_lines.Goals as goal
use Rattle.lines.proofs.verdict_lines.Goals.{then-v-eq0, else-v-eq0}

pub returns : goal.returns
unfolding verdict_lines
returns c =
    let n = c.args.v.number in
    elim c.if-v-eq0.branch [
      | then-v-eq0 w ↦ rw (eq-eqb n 0 w.if-v-eq0.true) (let p = then w.accepted.ensures.puts w.ticks.ensures.puts in search (rules, whole_line p))
      | else-v-eq0 w ↦ rw (ne_eqb n 0 w.if-v-eq0.false) (search (rules, whole_line w.refused.ensures.puts))
    ]
