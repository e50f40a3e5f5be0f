-- The bundle: records of a mark, a length and a track; rule 24.
use Rattle.std.specs.Prelude.{ℕ, zero, suc, ◌+◌, ◌-◌, List, [], ◌∷◌, length, ltb, eqb, Ok}
use Rattle.numbers.specs.Numbers.{be2, be4, when}
use Rattle.rules.specs.Limits.{record_limit}
use Rattle.rules.specs.Boxes.{part}
use Rattle.rules.specs.declared.Mark.{Mark}
use Rattle.rules.specs.declared.Mark.TheVariants.{Nothing, Wrong, Track}
use Rattle.rules.specs.Rules.{Rule, breaks}

-- the two-byte mark 0x53 0x57
abbrev pub mark : ℕ
mark = 0x5357

-- a record that has its mark, where `left` bytes remain behind mark and length
unfoldable pub lengthed : ℕ → ℕ → Mark
lengthed n left = when (ltb left n) Wrong (Track n)

-- what stands where `left` bytes remain: under 6 bytes for mark and length, a wrong mark, a length beyond the bundle, or a record
unfoldable pub mark_at : List ℕ → ℕ → ℕ → Mark
mark_at b at left =
    when (eqb left 0) Nothing
    (when (ltb left 6) Wrong (when (eqb (be2 b at) mark) (lengthed (be4 b (at + 2)) (left - 6)) Wrong))

-- what stands at a place of the bundle
unfoldable pub record_at : List ℕ → ℕ → Mark
record_at b at = mark_at b at (length b - at)

-- a case by what stands there
abbrev pub on_mark : {A : Type 0} → Mark → A → A → (ℕ → A) → A
on_mark Nothing a b c = a
on_mark Wrong a b c = b
on_mark (Track n) a b c = c n

-- the records from a place: none left, a bad one at its start, or one with its track's place and length
pub data Records : Type 0 where
  none : Records
  wrong : ℕ → Records
  track : ℕ → ℕ → Records → Records

-- at most so many records; bytes after them are a bad one
unfoldable pub records_from : ℕ → List ℕ → ℕ → Records
records_from zero b at = when (ltb at (length b)) (wrong at) none
records_from (suc left) b at =
    on_mark (record_at b at) none (wrong at) (λ n. track (at + 6) n (records_from left b (at + 6 + n)))

unfoldable pub records : List ℕ → Records
records b = records_from record_limit b 0

-- 24 after k good records: no record at all, or a bad one; track number, the good records before it
unfoldable pub rule24_from : ℕ → Records → Rule
rule24_from k none = when (eqb k 0) (breaks 24 0 0) (Ok tt)
rule24_from k (wrong at) = breaks 24 k at
rule24_from k (track from n rs) = rule24_from (k + 1) rs

-- 24 of a bundle
unfoldable pub rule24 : List ℕ → Rule
rule24 b = rule24_from 0 (records b)

-- the tracks of records, each that many bytes of the bundle
unfoldable pub tracks_of : List ℕ → Records → List (List ℕ)
tracks_of b none = []
tracks_of b (wrong at) = []
tracks_of b (track from n rs) = part b from n ∷ tracks_of b rs

unfoldable pub tracks : List ℕ → List (List ℕ)
tracks b = tracks_of b (records b)

-- the mark of this file: its definitions unfold wherever it does
unfoldable pub computed_bundle : Unit {0}
unfolding lengthed mark_at record_at records_from records rule24_from rule24 tracks_of tracks
computed_bundle = tt
