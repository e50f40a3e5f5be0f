-- `flangemint::flangemint_set` meets its contract. Assumes nothing.
use Rattle.flangemint.proofs.Given.{given}
use Rattle.flangemint.proofs.flangemint_set.Goals as goal

pub returns : goal.returns
returns c = given c.in_order.ensures c.set_job.ensures
