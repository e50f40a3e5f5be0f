-- The measure is the bytes that the bundle may still have, and one.
use Rattle.std.proofs.Common.{◌-◌, ◌≤◌}
use Rattle.pack.proofs.count_bytes.Given as goal

abbrev pub invariant-loop-end : goal.invariant-loop-end
invariant-loop-end g l = l.from ≤ l.end

abbrev pub decreases-loop-end : goal.decreases-loop-end
decreases-loop-end g l = 1073741825 - l.end
