-- `runs::walk` meets its contract. Assumes nothing.
use Rattle.std.proofs.Common.{◌≡◌, ◌*◌, ◌≤◌}
use Rattle.runs.specs.Runs.{runs_at, Walked}
use Rattle.runs.proofs.walk.Given as goal

abbrev pub invariant-loop-b : goal.invariant-loop-b
invariant-loop-b l =
    (l.b-iterator.bytes.now ≡ l.s)
    × Walked l.m l.want l.d l.from (runs_at l.s l.start) (runs_at l.s l.b-iterator.at) l.t
    × (l.t.samples ≤ 4294967295 * l.b-iterator.at)
