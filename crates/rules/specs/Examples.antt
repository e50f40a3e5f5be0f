-- The starred examples of document 01, with those of request 2, as one list and one statement; then the limits, each at both sides of its bound, and
-- the order of the rules.
use Rattle.std.specs.Prelude.{ℕ, zero, suc, ◌*◌, List, [], ◌∷◌, ◌++◌, map, ◌≡◌, refl, take, drop, Ok}
use Rattle.rules.specs.Kinds.{moov, mdat, vmhd, trun, vide, soun, letters}
use Rattle.rules.specs.Bytes.{in4, in8, zeros, boxed, header_with, header, run, moof_of, moof_of8, chunk, track_t}
use Rattle.rules.specs.Bytes.{flagged_chunk, sync_flags, other_flags, three_chunks, track_u}
use Rattle.rules.specs.Computed.{computed}
use Rattle.rules.specs.Boxes.{forest}
use Rattle.rules.specs.Framing.{framing, framing_rule}
use Rattle.rules.specs.Chunk.{rule18, rule20}
use Rattle.rules.specs.Bundle.{rule24}
use Rattle.rules.specs.Track.{rule1, ruling, Outcome, track_outcome}
use Rattle.rules.specs.Set.{set_outcome}
use Rattle.rules.specs.Jobs.{Job}
use Rattle.rules.specs.declared.Defaults.{Defaults}
use Rattle.rules.specs.declared.Path.TheVariants.{Top}
use Rattle.rules.specs.Rules.{Rule, breaks}

-- T's header is what is written as bytes
pub header_bytes : header_with 90000 vide vmhd ≡ header
unfolding computed
header_bytes = refl

-- the type `free`, which no rule names
abbrev pub free : ℕ
free = letters 0x66 0x72 0x65 0x65

-- the table that is lent: four nines
abbrev pub nines : List ℕ
nines = 9 ∷ 9 ∷ 9 ∷ 9 ∷ []

-- a refusal with its number, its track and its place: no count, no timescale, the table as it was
unfoldable pub refused_of : ℕ → ℕ → ℕ → Outcome
refused_of n k place =
    record { verdict = record { number = n; track = k; place = place; count = 0; timescale = 0 }; table = nines }

abbrev pub refused_at : ℕ → ℕ → Outcome
refused_at n place = refused_of n 0 place

-- an acceptance of two fragments at timescale 90000: three boundaries in the table and nothing after them changed
unfoldable pub accepted_over : ℕ → ℕ → ℕ → Outcome
accepted_over a b c =
    record {
      verdict = record { number = 0; track = 0; place = 0; count = 2; timescale = 90000 };
      table = a ∷ b ∷ c ∷ 9 ∷ [];
    }

-- T's acceptance
abbrev pub acceptance : Outcome
acceptance = accepted_over 0 180000 360000

-- the bundle of T and another track, by that one's length
unfoldable pub beside_t : ℕ → List ℕ → List ℕ
beside_t n s = (0x53 ∷ 0x57 ∷ in4 768) ++ track_t ++ (0x53 ∷ 0x57 ∷ in4 n) ++ s

-- three chunks in two fragments, of which the third chunk continues the second fragment; by the third one's start
unfoldable pub ends_in_two : ℕ → List ℕ
ends_in_two third = header ++ flagged_chunk 0 sync_flags ++ flagged_chunk 180000 sync_flags ++ flagged_chunk third other_flags

-- each starred example: the job, the bytes of a track or of a bundle, and what the paper says of them
unfoldable pub starred : List (Job × List ℕ × Outcome)
starred =
    -- no bytes; 7 bytes
    (track_outcome, [], refused_at 6 0)
    ∷ (track_outcome, zeros 7, refused_at 2 0)
    -- 8 bytes, type `free`: sizes 8, 7, 9, 1
    ∷ (track_outcome, in4 8 ++ in4 free, refused_at 6 0)
    ∷ (track_outcome, in4 7 ++ in4 free, refused_at 3 0)
    ∷ (track_outcome, in4 9 ++ in4 free, refused_at 4 0)
    ∷ (track_outcome, in4 1 ++ in4 free, refused_at 2 0)
    -- 16 bytes, `free`: long sizes 16 and 2^64 - 1
    ∷ (track_outcome, in4 1 ++ in4 free ++ in8 16, refused_at 6 0)
    ∷ (track_outcome, in4 1 ++ in4 free ++ in8 18446744073709551615, refused_at 4 0)
    -- T; second `tfdt` 180001; data offset 107; a spare byte in `mdat`, size 39
    ∷ (track_outcome, track_t, acceptance)
    ∷ (track_outcome, header ++ chunk 0 108 30 ++ chunk 180001 108 30, refused_at 19 678)
    ∷ (track_outcome, header ++ chunk 0 107 30 ++ chunk 180000 108 30, refused_at 22 556)
    ∷ (track_outcome, header ++ chunk 0 108 31 ++ chunk 180000 108 30, refused_at 22 592)
    -- U, three chunks in two fragments; its second chunk a tick late; its first chunk non-sync; beside T, at the second fragment's first `moof`
    ∷ (track_outcome, track_u, accepted_over 0 360000 540000)
    ∷ (track_outcome, three_chunks 180001 sync_flags, refused_at 19 682)
    ∷ (track_outcome, three_chunks 180000 other_flags, refused_at 21 556)
    ∷ (set_outcome, beside_t 918 track_u, refused_of 28 1 776)
    -- the same with the last chunk as the one that continues: the last boundary differs, at the last fragment's first `moof`
    ∷ (set_outcome, beside_t 918 (ends_in_two 360000), refused_of 28 1 634)
    ∷ []

-- the seventeen starred examples, by computation
pub starred_examples : map (λ e. e.0 e.1 nines) starred ≡ map (λ e. e.2) starred
unfolding computed starred refused_of accepted_over beside_t ends_in_two
starred_examples = refl

-- the limits, each at the last number allowed and one beyond: a number, and what the rule says there
-- 1: 1,073,741,824 bytes
unfoldable pub byte_limits : List (ℕ × Rule)
byte_limits = (1073741824, Ok tt) ∷ (1073741825, breaks 1 0 0) ∷ []

pub byte_limits_lem : map (λ e. rule1 e.0) byte_limits ≡ map (λ e. e.1) byte_limits
unfolding computed byte_limits
byte_limits_lem = refl

-- 2 to 5 of what is left of a slice after n boxes of 8 bytes each
unfoldable pub after_boxes : ℕ → List ℕ → Rule
after_boxes n s = framing_rule (framing (forest Top s 0) (8 * n) n)

unfoldable pub box_limits : List (ℕ × List ℕ × Rule)
box_limits =
    -- 5: the 65,536th box, and one box more
    (65535, in4 8 ++ in4 free, Ok tt)
    ∷ (65536, in4 8 ++ in4 free, breaks 5 0 524288)
    -- 5: no byte after 65,536 boxes; stray bytes after 65,535 (2), and after 65,536 (5, which comes before 2)
    ∷ (65536, [], Ok tt)
    ∷ (65535, zeros 7, breaks 2 0 524280)
    ∷ (65536, zeros 7, breaks 5 0 524288)
    -- 5: what the 65,536th box holds is the next box, where it is a container that holds one
    ∷ (65535, boxed moov (boxed free []), breaks 5 0 524288)
    ∷ (65535, boxed moov [], Ok tt)
    ∷ (65535, boxed mdat (boxed free []), Ok tt)
    ∷ []

pub box_limits_lem : map (λ e. after_boxes e.0 e.1) box_limits ≡ map (λ e. e.2) box_limits
unfolding computed after_boxes box_limits
box_limits_lem = refl

-- a `moof` whose one run has so many samples, with no fields of their own
unfoldable pub samples : ℕ → List ℕ
samples n = moof_of 0 (boxed trun (in4 0 ++ in4 n))

-- 18: 1 sample and none, 65,536 and one more
unfoldable pub sample_limits : List (ℕ × Rule)
sample_limits = (0, breaks 18 0 24) ∷ (1, Ok tt) ∷ (65536, Ok tt) ∷ (65537, breaks 18 0 24) ∷ []

pub sample_limits_lem : map (λ e. rule18 (samples e.0)) sample_limits ≡ map (λ e. e.1) sample_limits
unfolding computed samples sample_limits
sample_limits_lem = refl

-- a `moof` of 180,000 ticks from a start of eight bytes: `tfdt` 20, `moof` 104, offset 112
unfoldable pub starts_at : ℕ → List ℕ
starts_at start = moof_of8 start (run 0 112 [])

-- no `trex` default that a sample needs
abbrev pub no_defaults : Defaults
no_defaults = record { duration = 0; size = 0; flags = 0 }

-- 20: an end at tick 2^63 - 1, and one tick later
unfoldable pub tick_limits : List (ℕ × Rule)
tick_limits = (9223372036854595807, Ok tt) ∷ (9223372036854595808, breaks 20 0 68) ∷ []

pub tick_limits_lem : map (λ e. rule20 (starts_at e.0) no_defaults) tick_limits ≡ map (λ e. e.1) tick_limits
unfolding computed starts_at tick_limits
tick_limits_lem = refl

-- 20: a chunk of no tick, and of one, by the `trex` default
unfoldable pub duration_limits : List (ℕ × Rule)
duration_limits = (0, breaks 20 0 64) ∷ (1, Ok tt) ∷ []

pub duration_limits_lem : map (λ e. rule20 (samples 1) (record { duration = e.0; size = 0; flags = 0 })) duration_limits ≡ map (λ e. e.1) duration_limits
unfolding computed samples duration_limits
duration_limits_lem = refl

-- a bundle of so many empty tracks
unfoldable pub records_of : ℕ → List ℕ
records_of zero = []
records_of (suc n) = (0x53 ∷ 0x57 ∷ in4 0) ++ records_of n

-- 24: 16 records, and 17
unfoldable pub record_limits : List (ℕ × Rule)
record_limits = (16, Ok tt) ∷ (17, breaks 24 16 96) ∷ []

pub record_limits_lem : map (λ e. rule24 (records_of e.0)) record_limits ≡ map (λ e. e.1) record_limits
unfolding computed records_of record_limits
record_limits_lem = refl

-- tracks that break two rules, and the one that comes first
unfoldable pub orders : List (List ℕ × Rule)
orders =
    -- timescale 0, and a handler that doesn't pair with its media header: 10, not 12
    (header_with 0 soun vmhd ++ chunk 0 108 30, breaks 10 0 244)
    -- timescale 0, and the last byte of `moov` cut off: 4, not 10
    ∷ (take 491 (header_with 0 vide vmhd), breaks 4 0 20)
    -- timescale 0, and behind that `mdhd` a `trex` that ends beyond its parent: 4 there, not 10
    ∷ (take 460 (header_with 0 vide vmhd) ++ in4 33 ++ drop 464 (header_with 0 vide vmhd), breaks 4 0 460)
    -- timescale 0, and behind the header a box whose size field is 0: 3 there, not 10
    ∷ (header_with 0 vide vmhd ++ zeros 8, breaks 3 0 492)
    ∷ []

-- the order, by computation
pub order_examples : map (λ e. ruling e.0) orders ≡ map (λ e. e.1) orders
unfolding computed orders
order_examples = refl
