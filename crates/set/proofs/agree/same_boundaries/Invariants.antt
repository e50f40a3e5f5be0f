-- `set::agree::same_boundaries` meets its contract. Assumes nothing.
use Rattle.std.specs.Iterator.Adapters.{zip_first, zip_second}
use Rattle.set.proofs.Beside.{BesideBy}
use Rattle.set.proofs.agree.same_boundaries.Given as goal

abbrev pub invariant-loop-fragment0 : goal.invariant-loop-fragment0
invariant-loop-fragment0 l =
    (goal.iterator-loop-fragment0).can_next l.fragment0-iterator
    × (goal.iterator-loop-fragment0).is_finite l.fragment0-iterator
    × BesideBy l.zeroth.bytes.now l.zeroth.facts l.track.bytes.now l.track.facts
    (zip_first l.fragment0-iterator) (zip_second l.fragment0-iterator) l.last
