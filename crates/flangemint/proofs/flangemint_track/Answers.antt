-- `flangemint::flangemint_track` meets its contract. Assumes nothing.
use Rattle.flangemint.proofs.Given.{given}
use Rattle.flangemint.proofs.flangemint_track.Goals as goal

pub returns : goal.returns
returns c = given c.in_order.ensures c.track_job.ensures
