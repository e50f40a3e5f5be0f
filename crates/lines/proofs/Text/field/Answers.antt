-- `lines::Text::field` meets its contract: what is put behind one another is the field. Assumes nothing.
use Rattle.lines.proofs.Texts.{then}
use Rattle.lines.proofs.Text.field.Goals as goal

pub returns-clause-puts : goal.returns-clause-puts
returns-clause-puts c = then c.put.ensures.puts c.number.ensures.puts
