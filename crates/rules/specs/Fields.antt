-- The fields of a full box at a place of a slice, and the form of a box body: its versions and whole sizes with the short header.
use Rattle.std.specs.Prelude.{ℕ, ◌+◌, ◌-◌, ◌%◌, List, Bool, false, leb, eqb}
use Rattle.numbers.specs.Numbers.{byte, be3, be4, when}
use Rattle.rules.specs.Rules.{must, Rule, breaks}
use Rattle.rules.specs.Boxes.{head_of, size_of}

-- the whole size that the box at a place has with the short header
unfoldable pub short_size : List ℕ → ℕ → ℕ
short_size s at = size_of s at - head_of s at + 8

-- the version of the full box at a place
unfoldable pub version : List ℕ → ℕ → ℕ
version s at = byte s (at + head_of s at)

-- the flags of the full box at a place
unfoldable pub box_flags : List ℕ → ℕ → ℕ
box_flags s at = be3 s (at + head_of s at + 1)

-- the four-byte field that stands k bytes behind the header
unfoldable pub field : List ℕ → ℕ → ℕ → ℕ
field s at k = be4 s (at + head_of s at + k)

-- where version 0 has its field behind two 4-byte times, and version 1 behind two 8-byte times
unfoldable pub timed : List ℕ → ℕ → ℕ
timed s at = field s at (when (eqb (version s at) 1) 20 12)

-- the form of a box body: size a for version 0 and size b for version 1, version 0 and size a, at least size a, size a plus a multiple of 4
pub data Form : Type 0 where
  either : ℕ → ℕ → Form
  plain : ℕ → Form
  at_least : ℕ → Form
  fours : ℕ → Form

-- whether the box at a place has a form; no version but those named
unfoldable pub has_form : Form → List ℕ → ℕ → Bool
has_form (either a b) s at =
    when (eqb (version s at) 0) (eqb (short_size s at) a) (when (eqb (version s at) 1) (eqb (short_size s at) b) false)
has_form (plain a) s at = when (eqb (version s at) 0) (eqb (short_size s at) a) false
has_form (at_least a) s at = leb a (short_size s at)
has_form (fours a) s at = when (leb a (short_size s at)) (eqb ((short_size s at - a) % 4) 0) false

-- where a body of another form is wrong: the box
abbrev pub body_place : Form → List ℕ → ℕ → ℕ
body_place w s at = at

-- rule n of such a body
abbrev pub wrong_body : ℕ → Form → List ℕ → ℕ → Rule
wrong_body n w s at = breaks n 0 (body_place w s at)

-- rule n of a box body: it has its form
unfoldable pub body : ℕ → Form → List ℕ → ℕ → Rule
body n w s at = must (has_form w s at) n (body_place w s at)

-- the mark of this file: its definitions unfold wherever it does
unfoldable pub computed_fields : Unit {0}
unfolding short_size version box_flags field timed has_form body
computed_fields = tt
