-- `lines::Text::refused` meets its contract: what is put behind one another is the line. Assumes nothing.
use Rattle.lines.specs.Lines.{refused_line}
use Rattle.lines.proofs.Texts.{then}
use Rattle.lines.proofs.Text.refused.Goals as goal

pub returns-clause-puts : goal.returns-clause-puts
unfolding refused_line
returns-clause-puts c = then (then (then c.field.ensures.puts c.field-2.ensures.puts) c.field-3.ensures.puts) c.line_end.ensures.puts
