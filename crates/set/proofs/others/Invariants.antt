-- `set::others` meets its contract. Assumes nothing.
use Rattle.set.proofs.Following.{MembersGoing}
use Rattle.set.proofs.others.Given as goal

abbrev pub invariant-loop-k : goal.invariant-loop-k
invariant-loop-k l = MembersGoing l.b l.zeroth.bytes.now l.from l.at l.k l.sofar
