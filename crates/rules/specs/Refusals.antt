-- The numbers of refusals by what they are about. A new refusal is one more element of the list that it belongs to.
use Rattle.std.specs.Prelude.{ℕ, Bool, true, false, not, ◌&&◌, ◌||◌, List, [], ◌∷◌, ◌++◌, ◌≡◌, refl, eqb}

-- whether a number is one of a list
unfoldable pub member : ℕ → List ℕ → Bool
member n [] = false
member n (x ∷ xs) = eqb n x || member n xs

-- whether every number of a list is one of another, and whether none is
unfoldable pub among : List ℕ → List ℕ → Bool
among [] ys = true
among (x ∷ xs) ys = member x ys && among xs ys

unfoldable pub apart : List ℕ → List ℕ → Bool
apart [] ys = true
apart (x ∷ xs) ys = not (member x ys) && apart xs ys

-- the length of a slice
abbrev pub length_numbers : List ℕ
length_numbers = 1 ∷ []

-- the framing of its boxes
abbrev pub framing_numbers : List ℕ
framing_numbers = 2 ∷ 3 ∷ 4 ∷ 5 ∷ []

-- the order of the top level
abbrev pub order_numbers : List ℕ
order_numbers = 6 ∷ []

-- the header
abbrev pub header_numbers : List ℕ
header_numbers = 7 ∷ 8 ∷ 9 ∷ 10 ∷ 11 ∷ 12 ∷ 13 ∷ []

-- the shape of a chunk
abbrev pub shape_numbers : List ℕ
shape_numbers = 14 ∷ 15 ∷ 16 ∷ 17 ∷ 18 ∷ []

-- the timing of a chunk
abbrev pub timing_numbers : List ℕ
timing_numbers = 19 ∷ 20 ∷ 21 ∷ 22 ∷ []

-- the records of a bundle
abbrev pub record_numbers : List ℕ
record_numbers = 24 ∷ []

-- a track beside track 0 of its set
abbrev pub set_numbers : List ℕ
set_numbers = 25 ∷ 26 ∷ 27 ∷ 28 ∷ []

-- what a slice may be refused under before its chunks are looked at
abbrev pub front_numbers : List ℕ
front_numbers = length_numbers ++ framing_numbers ++ order_numbers ++ header_numbers

-- what the player meets of a track: all but the timing
abbrev pub met_numbers : List ℕ
met_numbers = front_numbers ++ shape_numbers

-- all but room that an index, a track and a bundle may be refused under
abbrev pub index_numbers : List ℕ
index_numbers = length_numbers ++ framing_numbers

abbrev pub track_numbers : List ℕ
track_numbers = met_numbers ++ timing_numbers

abbrev pub bundle_numbers : List ℕ
bundle_numbers = record_numbers ++ track_numbers ++ set_numbers

-- what a box declares that is gathered: this form's only
abbrev pub gather_numbers : List ℕ
gather_numbers = 29 ∷ []

-- the values of a header and of its chunks
abbrev pub value_numbers : List ℕ
value_numbers = header_numbers ++ shape_numbers ++ timing_numbers

-- all that a track in pieces may be refused under
abbrev pub pieces_numbers : List ℕ
pieces_numbers = track_numbers ++ gather_numbers

-- these lists written out: no number too many, none too few
pub index_list : index_numbers ≡ 1 ∷ 2 ∷ 3 ∷ 4 ∷ 5 ∷ []
index_list = refl

pub track_list : track_numbers ≡ 1 ∷ 2 ∷ 3 ∷ 4 ∷ 5 ∷ 6 ∷ 7 ∷ 8 ∷ 9 ∷ 10 ∷ 11 ∷ 12 ∷ 13 ∷ 14 ∷ 15 ∷ 16 ∷ 17 ∷ 18 ∷ 19 ∷ 20 ∷ 21 ∷ 22 ∷ []
track_list = refl

pub bundle_list : bundle_numbers ≡ 24 ∷ (track_numbers ++ (25 ∷ 26 ∷ 27 ∷ 28 ∷ []))
bundle_list = refl

pub value_list : value_numbers ≡ 7 ∷ 8 ∷ 9 ∷ 10 ∷ 11 ∷ 12 ∷ 13 ∷ 14 ∷ 15 ∷ 16 ∷ 17 ∷ 18 ∷ 19 ∷ 20 ∷ 21 ∷ 22 ∷ []
value_list = refl

pub pieces_list : pieces_numbers ≡ 1 ∷ 2 ∷ 3 ∷ 4 ∷ 5 ∷ 6 ∷ 7 ∷ 8 ∷ 9 ∷ 10 ∷ 11 ∷ 12 ∷ 13 ∷ 14 ∷ 15 ∷ 16 ∷ 17 ∷ 18 ∷ 19 ∷ 20 ∷ 21 ∷ 22 ∷ 29 ∷ []
pieces_list = refl

-- the mark of this file: its definitions unfold wherever it does
unfoldable pub computed_refusals : Unit {0}
unfolding member among apart
computed_refusals = tt
