-- `track::cursor::next_fragment` meets its contract. Assumes nothing.
use mathlib.Core.Path.{◌≡◌}
use Rattle.track.proofs.Fragments.{Skipped}
use Rattle.track.proofs.cursor.next_fragment.Given as goal

abbrev pub invariant-loop-b : goal.invariant-loop-b
invariant-loop-b l = (l.b-iterator.bytes.now ≡ l.s) × Skipped l.s l.h l.at l.b-iterator.at
