-- `flangemint::in_order` meets its contract: the array is the list. Assumes nothing.
use mathlib.Core.Path.{refl}
use Rattle.flangemint.proofs.in_order.Goals as goal

pub returns : goal.returns
returns c = refl
