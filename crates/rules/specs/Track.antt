-- The track: what its bytes say, whether every rule holds, and the outcome of the index job and the track job.
use Rattle.std.specs.Prelude.{ℕ, ◌+◌, ◌-◌, List, [], ◌∷◌, ◌++◌, map, Bool, length, drop, leb, ltb, Option, None, Some, Ok}
use Rattle.numbers.specs.Numbers.{when}
use Rattle.rules.specs.Kinds.{moov, moof}
use Rattle.rules.specs.Limits.{byte_limit}
use Rattle.rules.specs.Rules.{◌then◌, must, moved, on_rule, Rule}
use Rattle.rules.specs.Boxes.{boxes, forest, places_of, head_of, size_of, whole}
use Rattle.rules.specs.Counts.{seen, first_of}
use Rattle.rules.specs.Framing.{framed, on_framing, rules_of_framing, rows}
use Rattle.rules.specs.Order.{rule6}
use Rattle.rules.specs.Header.{header_rules, ftyp_in, header_in}
use Rattle.rules.specs.Chunk.{shape, timing, start_of, end_of, sync_in}
use Rattle.rules.specs.declared.Path.TheVariants.{Top}
use Rattle.rules.specs.declared.Entry.TheVariants.{One}
use Rattle.rules.specs.declared.Header.{Header}
use Rattle.rules.specs.declared.Verdict.{Verdict}

-- 1: slice over 1,073,741,824 bytes
unfoldable pub rule1 : ℕ → Rule
rule1 n = must (leb n byte_limit) 1 0

-- where `moov` stands, and its bytes
unfoldable pub moov_at : List ℕ → ℕ
moov_at s = first_of 0 (seen (One moov) (boxes s 0))

unfoldable pub moov_of : List ℕ → List ℕ
moov_of s = whole s (moov_at s)

-- the bytes of `ftyp`, the first box
unfoldable pub ftyp_of : List ℕ → List ℕ
ftyp_of s = whole s 0

-- what the track's header tells
unfoldable pub header_of : List ℕ → Header
header_of s = header_in (moov_of s)

-- the chunks from a place on: where each `moof` stands; by rule 6 its `mdat` is the next box
unfoldable pub chunks_from : List ℕ → ℕ → List ℕ
chunks_from s at = places_of moof (boxes s at)

abbrev pub chunks : List ℕ → List ℕ
chunks s = chunks_from s 0

-- the `mdat` of the chunk at x
unfoldable pub mdat_at : List ℕ → ℕ → ℕ
mdat_at s x = x + length (whole s x)

-- 14 to 18 of the chunk at x
unfoldable pub shape_at : List ℕ → Header → ℕ → Rule
shape_at s h x = moved x (shape (whole s x) h.id)

-- 19 to 22 of the chunk at x, after the previous end
unfoldable pub timing_at : List ℕ → Header → Option ℕ → ℕ → Rule
timing_at s h prev x =
    moved x (timing (whole s x) h.defaults (head_of s (mdat_at s x)) (size_of s (mdat_at s x) - head_of s (mdat_at s x)) prev)

-- the chunk at x: its start, its end, and whether its first sample is sync
unfoldable pub start_at : List ℕ → ℕ → ℕ
start_at s x = start_of (whole s x)

unfoldable pub end_at : List ℕ → Header → ℕ → ℕ
end_at s h x = end_of (whole s x) h.defaults

unfoldable pub sync_at : List ℕ → Header → ℕ → Bool
sync_at s h x = sync_in (whole s x) h.defaults

-- 14 to 22, chunk by chunk, after the previous end
unfoldable pub rules_of_chunks : List ℕ → Header → Option ℕ → List ℕ → Rule
rules_of_chunks s h prev [] = Ok tt
rules_of_chunks s h prev (x ∷ xs) =
    shape_at s h x then timing_at s h prev x then rules_of_chunks s h (Some (end_at s h x)) xs

-- 7 to 13 of a track
unfoldable pub rules_of_header : List ℕ → Rule
rules_of_header s = header_rules (moov_at s) (ftyp_in (ftyp_of s)) (moov_of s)

-- every rule of a track but room, in the order in which they are tried
unfoldable pub ruling : List ℕ → Rule
ruling s =
    rule1 (length s)
    then rules_of_framing s
    then rule6 s
    then rules_of_header s
    then rules_of_chunks s (header_of s) None (chunks s)

-- a fragment: where its first chunk stands, and where those stand that continue it
pub record Fragment : Type 0 where
  pub first : ℕ
  pub others : List ℕ

-- of the chunks behind one, those that continue its fragment: up to the next that begins one
unfoldable pub continuing : (ℕ → Bool) → List ℕ → List ℕ
continuing sync [] = []
continuing sync (x ∷ xs) = when (sync x) [] (x ∷ continuing sync xs)

-- the fragments that begin among chunks: where a first sample is sync
unfoldable pub begun_among : (ℕ → Bool) → List ℕ → List Fragment
begun_among sync [] = []
begun_among sync (x ∷ xs) =
    when (sync x) (record { first = x; others = continuing sync xs } ∷ begun_among sync xs) (begun_among sync xs)

-- a track's chunks in fragments: the first begins one in any case
unfoldable pub in_fragments : (ℕ → Bool) → List ℕ → List Fragment
in_fragments sync [] = []
in_fragments sync (x ∷ xs) = record { first = x; others = continuing sync xs } ∷ begun_among sync xs

-- the fragments of a track
unfoldable pub fragments : List ℕ → List Fragment
fragments s = in_fragments (sync_at s (header_of s)) (chunks s)

-- where each fragment's first `moof` stands
abbrev pub first_moofs : List Fragment → List ℕ
first_moofs fs = map (λ f. f.first) fs

-- the number of fragments, and the timescale
unfoldable pub fragment_count : List ℕ → ℕ
fragment_count s = length (fragments s)

unfoldable pub timescale : List ℕ → ℕ
timescale s = (header_of s).timescale

-- the start of the first of chunks at places
abbrev pub first_tick_of : List ℕ → List ℕ → Option ℕ
first_tick_of s [] = None
first_tick_of s (x ∷ xs) = Some (start_at s x)

-- the end of the last of chunks at places, after an end before them
unfoldable pub last_end : List ℕ → Header → Option ℕ → List ℕ → Option ℕ
last_end s h prev [] = prev
last_end s h prev (x ∷ xs) = last_end s h (Some (end_at s h x)) xs

-- an end as a list: none where it is unset
abbrev pub end_list : Option ℕ → List ℕ
end_list None = []
end_list (Some e) = e ∷ []

-- the boundaries of a track's chunks at places: each fragment's start, which is its first chunk's, and the last end
unfoldable pub ticks : List ℕ → Header → List ℕ → List ℕ
ticks s h xs = map (start_at s) (first_moofs (in_fragments (sync_at s h) xs)) ++ end_list (last_end s h None xs)

unfoldable pub boundaries : List ℕ → List ℕ
boundaries s = ticks s (header_of s) (chunks s)

-- the last end of a track
abbrev pub end_of_track : List ℕ → Option ℕ
end_of_track s = last_end s (header_of s) None (chunks s)

-- what a job gives back: the verdict, and the lent table afterwards
pub record Outcome : Type 0 where
  pub verdict : Verdict
  pub table : List ℕ

-- a refusal: no count, no timescale, the table unchanged
unfoldable pub refused : ℕ → ℕ → ℕ → List ℕ → Outcome
refused n k place t =
    record { verdict = record { number = n; track = k; place = place; count = 0; timescale = 0 }; table = t }

-- an acceptance: the table's first numbers are those given, and nothing after them changes
unfoldable pub accepted : ℕ → ℕ → List ℕ → List ℕ → Outcome
accepted count scale numbers t =
    record {
      verdict = record { number = 0; track = 0; place = 0; count = count; timescale = scale };
      table = numbers ++ drop (length numbers) t;
    }

-- 23: lent table under the numbers to write; last of all
unfoldable pub room_for : ℕ → ℕ → List ℕ → List ℕ → Outcome
room_for count scale numbers t = when (ltb (length t) (length numbers)) (refused 23 0 0 t) (accepted count scale numbers t)

-- the outcome of a track whose rules hold: room, and the boundaries
abbrev pub room_of : List ℕ → List ℕ → Outcome
room_of s t = room_for (fragment_count s) (timescale s) (boundaries s) t

-- the index of a slice
unfoldable pub index : List ℕ → List ℕ
index s = rows (forest Top s 0) 0 0

-- the index job: rules 1 to 5, then room
unfoldable pub index_outcome : List ℕ → List ℕ → Outcome
index_outcome s t =
    on_rule (rule1 (length s))
    (λ _. on_framing (framed s) (λ n. room_for n 0 (index s) t) (λ k p. refused k 0 p t))
    (λ k _ p. refused k 0 p t)

-- the track job: every rule, then room
unfoldable pub track_outcome : List ℕ → List ℕ → Outcome
track_outcome s t =
    on_rule (ruling s) (λ _. room_of s t) (λ n k p. refused n k p t)

-- the mark of this file: its definitions unfold wherever it does
unfoldable pub computed_track : Unit {0}
unfolding rule1 moov_at moov_of ftyp_of header_of chunks_from mdat_at shape_at timing_at start_at end_at sync_at rules_of_chunks rules_of_header ruling
    continuing begun_among in_fragments fragments fragment_count timescale last_end ticks boundaries refused accepted room_for index index_outcome track_outcome
computed_track = tt
