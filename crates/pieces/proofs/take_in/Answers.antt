-- `pieces::take_in` meets its contract. Assumes nothing.
use borrow.Author.Rules.{rules}
use Rattle.pieces.proofs.Piecemeal.{rest_of_lem, going_follows, going_on}
use Rattle.pieces.proofs.take_in.Goals as goal

pub step-moved-requires : goal.step-moved-requires
step-moved-requires c = going_follows c.loop-rest.invariant (search rules)

pub loop-rest-preserved : goal.loop-rest-preserved
loop-rest-preserved c = rw rest_of_lem (going_on c.loop-rest.invariant c.step-moved.ensures.takes)
