-- `pieces::take_in` meets its contract. The invariant: the piece is taken but for the rest of it. Assumes nothing.
use lib.ListN.{length}
use Rattle.pieces.proofs.Piecemeal.{Going}
use Rattle.pieces.proofs.take_in.Given as goal

abbrev pub invariant-loop-rest : goal.invariant-loop-rest
invariant-loop-rest l = Going l.initial.state l.initial.head l.initial.kept l.piece l.rest l.state l.head l.kept

abbrev pub decreases-loop-rest : goal.decreases-loop-rest
decreases-loop-rest l = length l.rest
