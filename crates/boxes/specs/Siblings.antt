-- The next of sibling boxes, and the next of a type among them.
use Rattle.std.specs.Prelude.{◌≡◌, List, [], ◌∷◌, ℕ, ◌+◌, ◌≤◌, length, Option, Some, None}
use Rattle.rules.specs.Boxes.{Box, look, boxes, places_of, head_of, size_of}
use Rattle.rules.specs.declared.Look.TheVariants.{Good}
use Rattle.boxes.specs.Stands.{Stands}
use Rattle.boxes.specs.declared.Sibling.{Sibling}

-- it as one of a run of boxes
abbrev pub as_box : Sibling → Box
as_box b = record { at = b.spot.at; inner = b.spot.head; size = b.spot.size; kind = b.kind }

-- b is the first of the boxes from a place on, and those after it stand from q on
pub record FirstOf (s : List ℕ) (at q : ℕ) (b : Sibling) : Type 0 where
  pub boxes : boxes s at ≡ as_box b ∷ boxes s q
  pub header : look s b.spot.at ≡ Good b.spot.head b.spot.size b.kind
  pub place : b.spot.at ≡ at
  pub next : q ≡ b.spot.at + b.spot.size
  pub stands : Stands s b.spot

-- the first of the boxes from a place on, with where those after it stand, or none
abbrev pub IsNextSibling : Option Sibling → List ℕ → ℕ → ℕ → Type 0
IsNextSibling (Some b) s at q = FirstOf s at q b
IsNextSibling None s at q = (boxes s at ≡ []) × (q ≡ at)

-- from a place on the first box of type k stands at p and ends at q
pub record Comes (s : List ℕ) (at k p q : ℕ) : Type 0 where
  pub places : places_of k (boxes s at) ≡ p ∷ places_of k (boxes s q)
  pub header : look s p ≡ Good (head_of s p) (size_of s p) k
  pub size : q ≡ p + size_of s p
  pub from : at ≤ p
  pub past : p + 8 ≤ q
  pub inner : q ≤ length s
