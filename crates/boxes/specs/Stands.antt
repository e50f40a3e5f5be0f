-- What is known of a box that was met in a slice, and of a slice that is one box.
use Rattle.std.specs.Prelude.{ℕ, ◌+◌, ◌≤◌, ◌≡◌, List, length}
use Rattle.rules.specs.Boxes.{head_of, size_of}
use Rattle.rules.specs.declared.Spot.{Spot}

-- a box stands there with that header length and size, and ends in the slice
pub record Stands (s : List ℕ) (b : Spot) : Type 0 where
  pub head : head_of s b.at ≡ b.head
  pub size : size_of s b.at ≡ b.size
  pub low : 8 ≤ b.head
  pub high : b.head ≤ 16
  pub holds : b.head ≤ b.size
  pub fits : b.at + b.size ≤ length s

-- a box stands at a place of the slice
pub record StandsAt (s : List ℕ) (p : ℕ) (b : Spot) : Type 0 where
  pub stands : Stands s b
  pub place : b.at ≡ p

-- the slice is one box with a header of h bytes
abbrev pub WholeBox : List ℕ → ℕ → Type 0
WholeBox s h = Stands s (record { at = 0; head = h; size = length s })
