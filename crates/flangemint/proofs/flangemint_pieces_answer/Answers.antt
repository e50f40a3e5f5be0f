-- `flangemint::flangemint_pieces_answer` meets its contract. Assumes nothing.
use mathlib.Core.Path.{ap, ◌∙◌}
use Rattle.flangemint.specs.Gives.{answered_in}
use Rattle.flangemint.proofs.flangemint_pieces_answer.Goals as goal

pub returns : goal.returns
returns c = c.answered_in.ensures ∙ ap answered_in c.finish.ensures
