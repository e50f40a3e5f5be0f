-- `lines::over_line` meets its contract: what is put behind one another is the line. Assumes nothing.
use borrow.Author.Rules.{rules}
use Rattle.lines.specs.Lines.{over_line}
use Rattle.lines.proofs.Texts.{then, whole_line}
use Rattle.lines.proofs.over_line.Goals as goal

pub returns : goal.returns
unfolding over_line
returns c =
    let p = then (then c.field.ensures.puts c.put.ensures.puts) c.line_end.ensures.puts in search (rules, whole_line p)
