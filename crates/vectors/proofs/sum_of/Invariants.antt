-- The sum so far is that over the numbers before x.
use Rattle.std.proofs.Common.{◌≡◌, ◌<◌}
use Rattle.vectors.specs.Tables.{sum_of}
use Rattle.vectors.proofs.sum_of.Given as goal

abbrev pub invariant-loop-x : goal.invariant-loop-x
invariant-loop-x l = (l.h ≡ sum_of l.x-index l.t) × (l.h < 1000000007)
