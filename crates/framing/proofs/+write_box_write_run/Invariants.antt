-- What falls in `framing::write_box` and `framing::write_run`, which call each other: twice the bytes left, and one more for a run.
use Rattle.std.proofs.Common.{◌≡◌, ◌+◌, ◌*◌, ◌-◌, ◌≤◌, length}
use Rattle.std.proofs.lemmas.List.Edits.{sets}
use Rattle.rules.specs.Boxes.{forest}
use Rattle.rules.specs.Framing.{rows}
use Rattle.framing.proofs.+write_box_write_run.Given as goal

abbrev pub decreases-write_box : goal.decreases-write_box
decreases-write_box l = 2 * (length l.s.now - l.at)

abbrev pub decreases-write_run : goal.decreases-write_run
decreases-write_run l = 2 * length l.s.now + 1

abbrev pub invariant-write_run-loop-past : goal.invariant-write_run-loop-past
invariant-write_run-loop-past l =
    (sets l.initial.t l.row (rows (forest l.path l.s 0) l.base l.depth) ≡ sets l.t l.to (rows (forest l.path l.s l.at) l.base l.depth))
    × (l.row + length (rows (forest l.path l.s 0) l.base l.depth) ≡ l.to + length (rows (forest l.path l.s l.at) l.base l.depth))
    × (length l.t ≡ length l.initial.t)
    × (l.at ≤ length l.s)

abbrev pub decreases-write_run-loop-past : goal.decreases-write_run-loop-past
decreases-write_run-loop-past l = length l.s - l.at
