-- Boxes in bytes: one header, the forest of boxes in a slice, runs of siblings, the boxes in a container.
use Rattle.std.specs.Prelude.{ℕ, zero, suc, ◌+◌, ◌-◌, List, [], ◌∷◌, length, take, drop, ltb, eqb, Option, None, Some}
use Rattle.numbers.specs.Numbers.{be4, be8, when}
use Rattle.rules.specs.Kinds.{moov, moof, trak, mvex, edts, mdia, minf, dinf, stbl, traf}
use Rattle.rules.specs.declared.Path.{Path}
use Rattle.rules.specs.declared.Path.TheVariants.{Top, Moov, Moof, Trak, Mdia, Minf, Flat}
use Rattle.rules.specs.declared.Look.{Look}
use Rattle.rules.specs.declared.Look.TheVariants.{Nothing, Short, Small, Beyond, Good}

-- n bytes of a slice from a place, as many of them as there are
abbrev pub part : List ℕ → ℕ → ℕ → List ℕ
part s a n = take n (drop a s)

-- a header of h bytes that says a size z, where `left` bytes remain: 3 if too small, 4 if beyond the parent
unfoldable pub sized : ℕ → ℕ → ℕ → ℕ → Look
sized left h z k = when (ltb z h) Small (when (ltb left z) Beyond (Good h z k))

-- what stands where `left` bytes remain: size 1 means that an 8-byte size follows the type
unfoldable pub look_at : List ℕ → ℕ → ℕ → Look
look_at s at left =
    when (eqb left 0) Nothing
    (when (ltb left 8) Short
    (when (eqb (be4 s at) 1)
    (when (ltb left 16) Short (sized left 16 (be8 s (at + 8)) (be4 s (at + 4))))
    (sized left 8 (be4 s at) (be4 s (at + 4)))))

-- what stands at a place of a run of boxes, whose parent is the slice
unfoldable pub look : List ℕ → ℕ → Look
look s at = look_at s at (length s - at)

-- a case by what stands there; a broken header hands on its refusal number: 2, 3 or 4
abbrev pub on_look : {A : Type 0} → Look → A → (ℕ → A) → (ℕ → ℕ → ℕ → A) → A
on_look Nothing e b h = e
on_look Short e b h = b 2
on_look Small e b h = b 3
on_look Beyond e b h = b 4
on_look (Good n z k) e b h = h n z k

-- containers, only on these paths; every other box is a leaf, and a type that no rule names is passed over
unfoldable pub inside : Path → ℕ → Option Path
inside Top k = when (eqb k moov) (Some Moov) (when (eqb k moof) (Some Moof) None)
inside Moov k = when (eqb k trak) (Some Trak) (when (eqb k mvex) (Some Flat) None)
inside Moof k = when (eqb k traf) (Some Flat) None
inside Trak k = when (eqb k edts) (Some Flat) (when (eqb k mdia) (Some Mdia) None)
inside Mdia k = when (eqb k minf) (Some Minf) None
inside Minf k = when (eqb k dinf) (Some Flat) (when (eqb k stbl) (Some Flat) None)
inside Flat k = None

-- a box: its place in the slice, where its children begin behind that (its header's length), its whole size, its type
pub record Box : Type 0 where
  pub at : ℕ
  pub inner : ℕ
  pub size : ℕ
  pub kind : ℕ

-- a run of boxes with what is inside each: no byte left, a broken header with its number and place, or a box, its inside and what follows it
pub data Forest : Type 0 where
  end : Forest
  bad : ℕ → ℕ → Forest
  node : Box → Forest → Forest → Forest

-- what is inside a box's body
abbrev pub within : (Path → List ℕ → Forest) → Option Path → List ℕ → Forest
within g None s = end
within g (Some q) s = g q s

-- the forest from a place: at most so many boxes one after the other, and nested at most so deep
unfoldable pub grow : ℕ → Path → List ℕ → ℕ → Forest
grow zero p s at = end
grow (suc f) p s at =
    on_look (look s at) end (λ n. bad n at)
    (λ h z k.
    node (record { at = at; inner = h; size = z; kind = k })
    (within (λ q t. grow f q t 0) (inside p k) (part s (at + h) (z - h)))
    (grow f p s (at + z)))

-- the forest of a run from a place to the slice's end: a box takes at least 8 bytes, so there are fewer boxes than bytes
unfoldable pub forest : Path → List ℕ → ℕ → Forest
forest p s at = grow (length s - at) p s at

-- a forest's boxes, without what is inside them
unfoldable pub tops : Forest → List Box
tops end = []
tops (bad n p) = []
tops (node x i r) = x ∷ tops r

-- the sibling boxes of a slice from a place on, up to its end or a broken header
unfoldable pub boxes : List ℕ → ℕ → List Box
boxes s at = tops (forest Flat s at)

-- the places of every box of a type
unfoldable pub places_of : ℕ → List Box → List ℕ
places_of k [] = []
places_of k (x ∷ xs) = when (eqb x.kind k) (x.at ∷ places_of k xs) (places_of k xs)

-- a framed box's header length, its whole size and its type
unfoldable pub head_of : List ℕ → ℕ → ℕ
head_of s at = when (eqb (be4 s at) 1) 16 8

unfoldable pub size_of : List ℕ → ℕ → ℕ
size_of s at = when (eqb (be4 s at) 1) (be8 s (at + 8)) (be4 s at)

abbrev pub kind_of : List ℕ → ℕ → ℕ
kind_of s at = be4 s (at + 4)

-- the bytes of the box at a place, whole
unfoldable pub whole : List ℕ → ℕ → List ℕ
whole s at = part s at (size_of s at)

-- the boxes in the container at a place, at their places in the same slice
unfoldable pub kids : List ℕ → ℕ → List Box
kids s at = boxes (take (at + size_of s at) s) (at + head_of s at)

-- the mark of this file: its definitions unfold wherever it does
unfoldable pub computed_boxes : Unit {0}
unfolding sized look_at look inside grow forest tops boxes places_of head_of size_of whole kids
computed_boxes = tt
