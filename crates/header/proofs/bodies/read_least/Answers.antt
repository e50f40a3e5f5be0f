-- `header::bodies::read_least` meets its contract. Assumes nothing.
use Rattle.header.proofs.Read.{least_fits}
use Rattle.header.proofs.bodies.read_least.Goals as goal

pub word-requires : goal.word-requires
word-requires c = let p = c.requires in
    (p.0, least_fits _ _ p.0 _ _ p.1 c.is_at_least.ensures c.if-is_at_least.true)
