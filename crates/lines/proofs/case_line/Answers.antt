-- `lines::case_line` meets its contract: what is put behind one another is the line. Assumes nothing.
use borrow.Author.Rules.{rules}
use Rattle.lines.specs.Lines.{case_line}
use Rattle.lines.proofs.Texts.{then, whole_line}
use Rattle.lines.proofs.case_line.Goals as goal

pub returns : goal.returns
unfolding case_line
returns c =
    let p = then (then (then c.number.ensures.puts c.verdict.ensures.puts) c.field.ensures.puts) c.line_end.ensures.puts in
    search (rules, whole_line p)
