-- The front of a record, and a record, as bytes.
use Rattle.std.specs.Prelude.{ℕ, ◌+◌, ◌/◌, ◌%◌, ◌^◌, ◌<◌, List, [], ◌∷◌, ◌++◌, length}

-- the mark, and a length in four bytes
abbrev pub front_of : ℕ → List ℕ
front_of n = 0x53 ∷ 0x57 ∷ n / 16777216 % 256 ∷ n / 65536 % 256 ∷ n / 256 % 256 ∷ n % 256 ∷ []

-- a track's record
abbrev pub record_of : List ℕ → List ℕ
record_of s = front_of (length s) ++ s

-- the bundle of tracks, their records one behind the other
unfoldable pub bundle_of : List (List ℕ) → List ℕ
bundle_of [] = []
bundle_of (s ∷ ss) = record_of s ++ bundle_of ss

-- each track's length fits in four bytes
abbrev pub LengthsFit : List (List ℕ) → Type 0
LengthsFit [] = Unit {0}
LengthsFit (s ∷ ss) = (length s < 2 ^ 32) × LengthsFit ss

-- the bytes of a bundle whose tracks have those lengths: for each six and its own
unfoldable pub bundle_length : List ℕ → ℕ
bundle_length [] = 0
bundle_length (n ∷ ns) = 6 + n + bundle_length ns
