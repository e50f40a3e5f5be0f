-- `bundle::frame_records` meets its contract. Assumes nothing.
use Rattle.bundle.proofs.Read.{RecordsTo}
use Rattle.bundle.proofs.frame_records.Given as goal

abbrev pub invariant-loop-k : goal.invariant-loop-k
invariant-loop-k l = RecordsTo l.b l.at l.k
