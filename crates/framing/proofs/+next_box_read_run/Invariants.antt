-- What falls in `framing::next_box` and `framing::read_run`, which call each other: twice the bytes left, and one more for a run.
use Rattle.std.proofs.Common.{◌≡◌, ◌+◌, ◌*◌, ◌-◌, ◌≤◌, length}
use Rattle.rules.specs.Boxes.{forest}
use Rattle.rules.specs.Framing.{framing}
use Rattle.framing.proofs.+next_box_read_run.Given as goal

abbrev pub decreases-next_box : goal.decreases-next_box
decreases-next_box l = 2 * (length l.s.now - l.at)

abbrev pub decreases-read_run : goal.decreases-read_run
decreases-read_run l = 2 * length l.s.now + 1

abbrev pub invariant-read_run-loop-past : goal.invariant-read_run-loop-past
invariant-read_run-loop-past l = (framing (forest l.path l.s 0) l.base l.n ≡ framing (forest l.path l.s l.at) l.base l.count) × (l.at ≤ length l.s)

abbrev pub decreases-read_run-loop-past : goal.decreases-read_run-loop-past
decreases-read_run-loop-past l = length l.s - l.at
