-- The measure is the bytes that may still be read.
use Rattle.std.proofs.Common.{◌-◌, ◌≡◌, length}
use Rattle.stream.proofs.feed_all.Given as goal

abbrev pub invariant-loop-fed : goal.invariant-loop-fed
invariant-loop-fed g l = length l.piece ≡ 65536

abbrev pub decreases-loop-fed : goal.decreases-loop-fed
decreases-loop-fed g l = 1073741825 - l.fed
