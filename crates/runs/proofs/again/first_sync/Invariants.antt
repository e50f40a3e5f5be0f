-- `runs::again::first_sync` meets its contract. Assumes nothing.
use Rattle.std.proofs.Common.{◌≡◌}
use Rattle.rules.specs.Chunk.{first_flags}
use Rattle.runs.specs.Runs.{runs_at}
use Rattle.runs.proofs.again.first_sync.Given as goal

abbrev pub invariant-loop-b : goal.invariant-loop-b
invariant-loop-b l =
    (l.b-iterator.bytes.now ≡ l.s) × (first_flags l.m l.d (runs_at l.s l.start) ≡ first_flags l.m l.d (runs_at l.s l.b-iterator.at))
