-- `track::accepted::AcceptedTrack::write_boundaries` meets its contract. Assumes nothing.
use Rattle.std.specs.Iterator.Adapters.{enumerate_source, enumerate_count}
use Rattle.track.proofs.Table.{WritingBy}
use Rattle.track.proofs.accepted.AcceptedTrack.write_boundaries.Given as goal

abbrev pub invariant-loop-k : goal.invariant-loop-k
invariant-loop-k l =
    (goal.iterator-loop-k).can_next l.k-iterator
    × (goal.iterator-loop-k).is_finite l.k-iterator
    × WritingBy l.self.bytes.now l.initial.t l.self.facts (enumerate_source l.k-iterator) (enumerate_count l.k-iterator) l.t
