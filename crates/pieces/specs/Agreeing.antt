-- The two forms of the track check beside each other: the whole slice with a lent table, and the track in pieces.
use Rattle.std.specs.Prelude.{ℕ, List, ◌≡◌, get_or}
use Rattle.rules.specs.Track.{fragment_count, track_outcome}
use Rattle.rules.specs.Pieces.{answer_for}

-- the bytes s, with the table t lent, and in pieces: one verdict; where it accepts, the boundaries given are the table's first and last; else both are 0
pub record Agrees (s t : List ℕ) : Type 0 where
  pub verdict : (track_outcome s t).verdict ≡ (answer_for s).verdict
  pub first : (answer_for s).verdict.number ≡ 0 → get_or (track_outcome s t).table 0 0 ≡ (answer_for s).first
  pub last : (answer_for s).verdict.number ≡ 0 → get_or (track_outcome s t).table (fragment_count s) 0 ≡ (answer_for s).last
  pub none : ((answer_for s).verdict.number ≡ 0 → ⊥) → ((answer_for s).first ≡ 0) × ((answer_for s).last ≡ 0)
