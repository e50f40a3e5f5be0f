-- The measure is the bytes that are left.
use Rattle.std.proofs.Common.{◌-◌, ◌≤◌}
use Rattle.pack.proofs.copy.Given as goal

abbrev pub invariant-loop-here : goal.invariant-loop-here
invariant-loop-here g l = l.here ≤ l.end

abbrev pub decreases-loop-here : goal.decreases-loop-here
decreases-loop-here g l = l.end - l.here
