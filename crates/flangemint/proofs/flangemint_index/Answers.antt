-- `flangemint::flangemint_index` meets its contract. Assumes nothing.
use Rattle.flangemint.proofs.Given.{given}
use Rattle.flangemint.proofs.flangemint_index.Goals as goal

pub returns : goal.returns
returns c = given c.in_order.ensures c.index_job.ensures
