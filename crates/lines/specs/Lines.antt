-- What the programs print, as lists of bytes.
use Rattle.std.specs.Prelude.{ℕ, zero, suc, ◌+◌, ◌/◌, ◌%◌, List, [], ◌∷◌, ◌++◌, ltb, eqb, take}
use Rattle.numbers.specs.Numbers.{when}
use Rattle.rules.specs.Track.{Outcome}
use Rattle.rules.specs.declared.Verdict.{Verdict}
use Rattle.rules.specs.declared.Answer.{Answer}

-- the digit of a number below 10
abbrev pub digit : ℕ → ℕ
digit d = 0x30 + d

-- the decimal digits of a number that has at most so many
unfoldable pub digits : ℕ → ℕ → List ℕ
digits zero n = []
digits (suc k) n = when (ltb n 10) (digit n ∷ []) (digits k (n / 10) ++ (digit (n % 10) ∷ []))

-- the decimal digits of a number, the first not 0 where there are more
unfoldable pub decimal : ℕ → List ℕ
decimal n = digits (n + 1) n

-- a text and a number behind it
abbrev pub field_of : List ℕ → ℕ → List ℕ
field_of text n = text ++ decimal n

-- the line end
abbrev pub line_end : List ℕ
line_end = 0x0a ∷ []

-- `refused `
abbrev pub refused_by : List ℕ
refused_by = 0x72 ∷ 0x65 ∷ 0x66 ∷ 0x75 ∷ 0x73 ∷ 0x65 ∷ 0x64 ∷ 0x20 ∷ []

-- ` track `
abbrev pub in_track : List ℕ
in_track = 0x20 ∷ 0x74 ∷ 0x72 ∷ 0x61 ∷ 0x63 ∷ 0x6b ∷ 0x20 ∷ []

-- ` at `
abbrev pub at_place : List ℕ
at_place = 0x20 ∷ 0x61 ∷ 0x74 ∷ 0x20 ∷ []

-- `accepted tracks `
abbrev pub accepted_tracks : List ℕ
accepted_tracks = 0x61 ∷ 0x63 ∷ 0x63 ∷ 0x65 ∷ 0x70 ∷ 0x74 ∷ 0x65 ∷ 0x64 ∷ 0x20 ∷ 0x74 ∷ 0x72 ∷ 0x61 ∷ 0x63 ∷ 0x6b ∷ 0x73 ∷ 0x20 ∷ []

-- ` fragments `
abbrev pub of_fragments : List ℕ
of_fragments = 0x20 ∷ 0x66 ∷ 0x72 ∷ 0x61 ∷ 0x67 ∷ 0x6d ∷ 0x65 ∷ 0x6e ∷ 0x74 ∷ 0x73 ∷ 0x20 ∷ []

-- ` timescale `
abbrev pub at_timescale : List ℕ
at_timescale = 0x20 ∷ 0x74 ∷ 0x69 ∷ 0x6d ∷ 0x65 ∷ 0x73 ∷ 0x63 ∷ 0x61 ∷ 0x6c ∷ 0x65 ∷ 0x20 ∷ []

-- `input over `
abbrev pub input_over : List ℕ
input_over = 0x69 ∷ 0x6e ∷ 0x70 ∷ 0x75 ∷ 0x74 ∷ 0x20 ∷ 0x6f ∷ 0x76 ∷ 0x65 ∷ 0x72 ∷ 0x20 ∷ []

-- ` bytes`
abbrev pub of_bytes : List ℕ
of_bytes = 0x20 ∷ 0x62 ∷ 0x79 ∷ 0x74 ∷ 0x65 ∷ 0x73 ∷ []

-- a space
abbrev pub space : List ℕ
space = 0x20 ∷ []

-- `refused N track T at P`, one line
unfoldable pub refused_line : ℕ → ℕ → ℕ → List ℕ
refused_line number track place = field_of refused_by number ++ field_of in_track track ++ field_of at_place place ++ line_end

-- `accepted tracks N fragments F timescale Z`, one line
unfoldable pub accepted_line : ℕ → ℕ → ℕ → List ℕ
accepted_line tracks fragments timescale =
    field_of accepted_tracks tracks ++ field_of of_fragments fragments ++ field_of at_timescale timescale ++ line_end

-- a number alone, one line
unfoldable pub tick_line : ℕ → List ℕ
tick_line tick = decimal tick ++ line_end

-- numbers, one a line
unfoldable pub tick_lines : List ℕ → List ℕ
tick_lines [] = []
tick_lines (tick ∷ ticks) = tick_line tick ++ tick_lines ticks

-- `input over N bytes`, one line
unfoldable pub over_line : ℕ → List ℕ
over_line limit = field_of input_over limit ++ of_bytes ++ line_end

-- a verdict on so many tracks: the accepted line and the boundaries given, one a line; or the refused line
unfoldable pub verdict_lines : ℕ → Verdict → List ℕ → List ℕ
verdict_lines tracks v ticks =
    when (eqb v.number 0)
    (accepted_line tracks v.count v.timescale ++ tick_lines ticks)
    (refused_line v.number v.track v.place)

-- the outcome of the set job on so many tracks: its verdict, with the F + 1 boundaries
abbrev pub set_lines : ℕ → Outcome → List ℕ
set_lines tracks o = verdict_lines tracks o.verdict (take (o.verdict.count + 1) o.table)

-- the answer of the form that takes pieces: its verdict on one track, with the first boundary and the last
abbrev pub answer_lines : Answer → List ℕ
answer_lines a = verdict_lines 1 a.verdict (a.first ∷ a.last ∷ [])

-- a verdict's five numbers, a space before each
unfoldable pub spaced : Verdict → List ℕ
spaced v =
    field_of space v.number ++ field_of space v.track ++ field_of space v.place ++ field_of space v.count
    ++ field_of space v.timescale

-- `job number track place count timescale sum`, one line
unfoldable pub case_line : ℕ → Verdict → ℕ → List ℕ
case_line job v sum = decimal job ++ spaced v ++ field_of space sum ++ line_end
