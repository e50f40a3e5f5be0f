use mathlib.Core.Path.{◌≡◌}
use Rattle.counts.proofs.Walked.{SeenTo}
use Rattle.counts.proofs.tally.Given as goal

abbrev pub invariant-loop-y : goal.invariant-loop-y
invariant-loop-y l =
    (l.y-iterator.bytes.now ≡ l.s)
    × SeenTo l.s l.initial.u.first l.from l.y-iterator.at l.a l.u
    × SeenTo l.s l.initial.v.first l.from l.y-iterator.at l.b l.v
    × SeenTo l.s l.initial.x.first l.from l.y-iterator.at l.c l.x
