-- Chunks, computed: the player takes a fragment of several in one step, each with its own clock and its own `mdat`; a set of tracks with the same
-- fragments in other chunks; and each source of flags by which a chunk begins a fragment or continues one.
use Rattle.std.specs.Prelude.{ℕ, List, [], ◌∷◌, ◌++◌, map, ◌≡◌, refl, Ok}
use Rattle.rules.specs.Kinds.{trun, moof, mdat}
use Rattle.rules.specs.Bytes.{in4, zeros, boxed, header, run, moof_of, chunk, track_t, flagged_chunk, sync_flags, other_flags, three_chunks, track_u}
use Rattle.rules.specs.Computed.{computed}
use Rattle.rules.specs.Examples.{ends_in_two}
use Rattle.rules.specs.Plays.{moof_by}
use Rattle.rules.specs.Track.{ruling, fragment_count}
use Rattle.rules.specs.Set.{set_ruling}
use Rattle.rules.specs.Player.{Played, stuck, passed, play}
use Rattle.rules.specs.Rules.{Rule, breaks}
use Rattle.player.specs.Switching.{header_v}

-- U's first fragment alone: two chunks, each by its data offset and the payload's length
unfoldable pub in_two : ℕ → ℕ → ℕ → ℕ → List ℕ
in_two offset payload offset' payload' =
    header ++ moof_of 0 (run 0x4 offset (in4 sync_flags)) ++ boxed mdat (zeros payload)
    ++ moof_of 180000 (run 0x4 offset' (in4 other_flags)) ++ boxed mdat (zeros payload')

-- a track, a plan on it, and what the plan comes to
unfoldable pub plans_in_chunks : List (List ℕ × List ℕ × Played)
plans_in_chunks =
    -- U plays through in two steps; there is no third fragment
    (track_u, 0 ∷ 0 ∷ [], passed (0 ∷ 360000 ∷ 540000 ∷ []))
    ∷ (track_u, 0 ∷ 0 ∷ 0 ∷ [], stuck)
    -- its second chunk a tick late: the first step is stuck inside; its first chunk non-sync
    ∷ (three_chunks 180001 sync_flags, 0 ∷ [], stuck)
    ∷ (three_chunks 180000 other_flags, 0 ∷ [], stuck)
    -- a second fragment of two chunks, met with the clock set: in turn, and its last chunk a tick early
    ∷ (ends_in_two 360000, 0 ∷ 0 ∷ [], passed (0 ∷ 180000 ∷ 540000 ∷ []))
    ∷ (ends_in_two 359999, 0 ∷ 0 ∷ [], stuck)
    -- samples of the second chunk that begin a byte before the next byte
    ∷ (in_two 112 30 111 30, 0 ∷ [], stuck)
    -- samples of it that end a byte past its `mdat`, and a byte before its end: the player asks no more
    ∷ (in_two 112 30 112 29, 0 ∷ [], stuck)
    ∷ (in_two 112 30 112 31, 0 ∷ [], passed (0 ∷ 360000 ∷ []))
    -- samples of it in the first one's `mdat`: the same bytes (offset -30), and the bytes next to those
    ∷ (in_two 112 30 4294967266 30, 0 ∷ [], stuck)
    ∷ (in_two 112 60 4294967266 30, 0 ∷ [], stuck)
    -- samples of the first in the second one's `mdat`
    ∷ (in_two 254 30 112 30, 0 ∷ [], stuck)
    ∷ []

-- the plans, by computation
pub plans_in_chunks_lem : map (λ e. play (e.0 ∷ []) e.1) plans_in_chunks ≡ map (λ e. e.2) plans_in_chunks
unfolding computed ends_in_two in_two plans_in_chunks
plans_in_chunks_lem = refl

-- a chunk of one sample of 90,000 ticks and 10 bytes, from a start, with first-sample flags
unfoldable pub half_chunk : ℕ → ℕ → List ℕ
half_chunk start flags =
    moof_of start (boxed trun (in4 0x305 ++ in4 1 ++ in4 104 ++ in4 flags ++ in4 90000 ++ in4 10)) ++ boxed mdat (zeros 10)

-- W: T's fragments, the first in two chunks
unfoldable pub track_w : List ℕ
unfolding half_chunk
track_w = header ++ half_chunk 0 sync_flags ++ half_chunk 90000 other_flags ++ chunk 180000 108 30

-- one fragment of three chunks, by the third one's start
unfoldable pub in_thirds : ℕ → List ℕ
unfolding half_chunk
in_thirds third = header ++ half_chunk 0 sync_flags ++ half_chunk 90000 other_flags ++ half_chunk third other_flags

-- one of two chunks, the second without a data offset: its samples begin at its own `moof`
unfoldable pub bare_second : List ℕ
unfolding half_chunk
bare_second =
    header ++ half_chunk 0 sync_flags
    ++ moof_of 90000 (boxed trun (in4 0x304 ++ in4 1 ++ in4 other_flags ++ in4 90000 ++ in4 10)) ++ boxed mdat (zeros 10)

-- the third chunk in turn, a tick late and a tick early; and the second without an offset
pub three_in_turn : map (λ s. play (s ∷ []) (0 ∷ [])) (in_thirds 180000 ∷ in_thirds 180001 ∷ in_thirds 179999 ∷ bare_second ∷ [])
    ≡ (passed (0 ∷ 270000 ∷ []) ∷ stuck ∷ stuck ∷ stuck ∷ [])
unfolding computed in_thirds bare_second
three_in_turn = refl

-- T and W are an accepted set
pub set_t_w : set_ruling (track_t ∷ track_w ∷ []) ≡ Ok tt
unfolding computed track_w
set_t_w = refl

-- from T to W, and from W to T: both pass the boundaries
pub switches_t_w : map (play (track_t ∷ track_w ∷ [])) ((0 ∷ 1 ∷ []) ∷ (1 ∷ 0 ∷ []) ∷ [])
    ≡ (passed (0 ∷ 180000 ∷ 360000 ∷ []) ∷ passed (0 ∷ 180000 ∷ 360000 ∷ []) ∷ [])
unfolding computed track_w
switches_t_w = refl

-- U beside the same chunks in three fragments: 27, though the chunks and their ticks are the same; from one to the other the player is stuck
unfoldable pub in_three : List ℕ
in_three = header ++ flagged_chunk 0 sync_flags ++ flagged_chunk 180000 sync_flags ++ flagged_chunk 360000 sync_flags

pub chunks_27 : set_ruling (track_u ∷ in_three ∷ []) ≡ breaks 27 1 918
unfolding computed in_three
chunks_27 = refl

-- the two plans of the second half: staying on U is stuck, staying on the other runs
pub stays_27 : map (play (track_u ∷ in_three ∷ [])) ((0 ∷ 0 ∷ 0 ∷ []) ∷ (1 ∷ 1 ∷ 1 ∷ []) ∷ [])
    ≡ (stuck ∷ passed (0 ∷ 180000 ∷ 360000 ∷ 540000 ∷ []) ∷ [])
unfolding computed in_three
stays_27 = refl

pub switch_27 : play (track_u ∷ in_three ∷ []) (0 ∷ 1 ∷ []) ≡ stuck
unfolding computed in_three
switch_27 = refl

-- a run of no samples with an offset and first-sample flags, which touch no sample: 24 bytes
unfoldable pub empty_run : ℕ → ℕ → List ℕ
empty_run offset flags = boxed trun (in4 0x5 ++ in4 0 ++ in4 offset ++ in4 flags)

-- a chunk of one sample of 90,000 ticks and 10 bytes, from a start, by its data offset and the runs before its own; the sample's flags are
-- first-sample flags, the run's own, the `tfhd` default, or those of `trex`
unfoldable pub by_first : ℕ → List ℕ → ℕ → ℕ → List ℕ
by_first offset before start flags =
    moof_by (in4 0x20000 ++ in4 1) start (before ++ boxed trun (in4 0x305 ++ in4 1 ++ in4 offset ++ in4 flags ++ in4 90000 ++ in4 10))
    ++ boxed mdat (zeros 10)

unfoldable pub by_own : ℕ → List ℕ → ℕ → ℕ → List ℕ
by_own offset before start flags =
    moof_by (in4 0x20000 ++ in4 1) start (before ++ boxed trun (in4 0x701 ++ in4 1 ++ in4 offset ++ in4 90000 ++ in4 10 ++ in4 flags))
    ++ boxed mdat (zeros 10)

unfoldable pub by_tfhd : ℕ → List ℕ → ℕ → ℕ → List ℕ
by_tfhd offset before start flags =
    moof_by (in4 0x20020 ++ in4 1 ++ in4 flags) start (before ++ boxed trun (in4 0x301 ++ in4 1 ++ in4 offset ++ in4 90000 ++ in4 10))
    ++ boxed mdat (zeros 10)

unfoldable pub by_trex : ℕ → List ℕ → ℕ → List ℕ
by_trex offset before start =
    moof_by (in4 0x20000 ++ in4 1) start (before ++ boxed trun (in4 0x301 ++ in4 1 ++ in4 offset ++ in4 90000 ++ in4 10))
    ++ boxed mdat (zeros 10)

-- tracks, and for each the number of fragments and what a plan of one step comes to; the `trex` of `header` says sync, that of `header_v` non-sync
unfoldable pub sources : List (List ℕ × (ℕ × Played))
sources =
    -- a second chunk non-sync, each by another source: one fragment
    (header ++ by_trex 100 [] 0 ++ by_first 104 [] 90000 other_flags, (1, passed (0 ∷ 180000 ∷ [])))
    ∷ (header ++ by_first 104 [] 0 sync_flags ++ by_own 104 [] 90000 other_flags, (1, passed (0 ∷ 180000 ∷ [])))
    -- the same with an empty run in front, whose flags say the contrary
    ∷ (header_v ++ by_tfhd 128 (empty_run 128 other_flags) 0 sync_flags ++ by_trex 124 (empty_run 124 sync_flags) 90000, (1, passed (0 ∷ 180000 ∷ [])))
    ∷ (header ++ by_own 128 (empty_run 128 other_flags) 0 sync_flags ++ by_tfhd 128 (empty_run 128 sync_flags) 90000 other_flags, (1, passed (0 ∷ 180000 ∷ [])))
    -- a second chunk sync, each by another source: two fragments
    ∷ (header_v ++ by_own 104 [] 0 sync_flags ++ by_first 128 (empty_run 128 other_flags) 90000 sync_flags, (2, passed (0 ∷ 90000 ∷ [])))
    ∷ (header_v ++ by_first 104 [] 0 sync_flags ++ by_own 104 [] 90000 sync_flags, (2, passed (0 ∷ 90000 ∷ [])))
    ∷ (header_v ++ by_first 104 [] 0 sync_flags ++ by_tfhd 104 [] 90000 sync_flags, (2, passed (0 ∷ 90000 ∷ [])))
    ∷ (header ++ by_tfhd 104 [] 0 sync_flags ++ by_trex 124 (empty_run 124 other_flags) 90000, (2, passed (0 ∷ 90000 ∷ [])))
    -- a first chunk non-sync: it begins a fragment all the same, and the player is stuck on it
    ∷ (header ++ by_own 104 [] 0 other_flags ++ by_trex 100 [] 90000, (2, stuck))
    ∷ (header_v ++ by_trex 124 (empty_run 124 sync_flags) 0 ++ by_tfhd 104 [] 90000 other_flags, (1, stuck))
    ∷ []

-- what each source of flags leads to, by computation
pub flags_of_chunks : map (λ e. (fragment_count e.0, play (e.0 ∷ []) (0 ∷ []))) sources ≡ map (λ e. e.1) sources
unfolding computed moof_by header_v empty_run by_first by_own by_tfhd by_trex sources
flags_of_chunks = refl

-- a chunk of one sample of no ticks and 10 bytes, from a start, with first-sample flags
unfoldable pub no_ticks : ℕ → ℕ → List ℕ
no_ticks start flags =
    moof_of start (boxed trun (in4 0x305 ++ in4 1 ++ in4 104 ++ in4 flags ++ in4 0 ++ in4 10)) ++ boxed mdat (zeros 10)

-- verdicts on two of them: a later chunk may be non-sync, the first may not, which is 21 at its first run; and the order of the rules
unfoldable pub verdicts : List (List ℕ × Rule)
verdicts =
    (header_v ++ by_tfhd 128 (empty_run 128 other_flags) 0 sync_flags ++ by_trex 124 (empty_run 124 sync_flags) 90000, Ok tt)
    ∷ (header ++ by_own 104 [] 0 other_flags ++ by_trex 100 [] 90000, breaks 21 0 556)
    -- 21 before 22 and behind 20; before 19 of the second chunk
    ∷ (header ++ moof_of 0 (run 0x4 111 (in4 other_flags)) ++ boxed mdat (zeros 30), breaks 21 0 556)
    ∷ (header ++ no_ticks 0 other_flags, breaks 20 0 556)
    ∷ (three_chunks 180001 other_flags, breaks 21 0 556)
    -- 22 of the first chunk before 14 of the second; 20 of a chunk that continues a fragment
    ∷ (header ++ chunk 0 107 30 ++ boxed moof [] ++ boxed mdat [], breaks 22 0 556)
    ∷ (header ++ half_chunk 0 sync_flags ++ no_ticks 90000 other_flags, breaks 20 0 670)
    ∷ []

pub verdicts_by_flags : map (λ e. ruling e.0) verdicts ≡ map (λ e. e.1) verdicts
unfolding computed moof_by header_v empty_run by_own by_tfhd by_trex half_chunk no_ticks verdicts
verdicts_by_flags = refl
