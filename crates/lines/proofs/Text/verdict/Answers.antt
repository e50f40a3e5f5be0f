-- `lines::Text::verdict` meets its contract: what is put behind one another is the verdict. Assumes nothing.
use Rattle.lines.specs.Lines.{spaced}
use Rattle.lines.proofs.Texts.{then}
use Rattle.lines.proofs.Text.verdict.Goals as goal

pub returns-clause-puts : goal.returns-clause-puts
unfolding spaced
returns-clause-puts c =
    then (then (then (then c.field.ensures.puts c.field-2.ensures.puts) c.field-3.ensures.puts) c.field-4.ensures.puts) c.field-5.ensures.puts
