-- `flangemint::answered_in` meets its contract: the array is the list. Assumes nothing.
use mathlib.Core.Path.{refl}
use Rattle.flangemint.proofs.answered_in.Goals as goal

pub returns : goal.returns
returns c = refl
