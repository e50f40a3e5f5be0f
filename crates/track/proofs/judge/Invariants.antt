-- `track::judge` meets its contract. Assumes nothing.
use Prim.Native.Nat.{◌-◌}
use lib.ListN.{length}
use Rattle.track.proofs.Judging.{Walking}
use Rattle.track.proofs.judge.Given as goal

abbrev pub invariant-loop-past : goal.invariant-loop-past
invariant-loop-past l = Walking l.s l.at l.count l.course

abbrev pub decreases-loop-past : goal.decreases-loop-past
decreases-loop-past l = length l.s - l.at
