-- A set of two different tracks, computed: accepted, and played with a switch at every boundary. Then offsets below 0.
use Rattle.std.specs.Prelude.{ℕ, List, [], ◌∷◌, ◌++◌, map, ◌≡◌, refl, take, Ok}
use Rattle.rules.specs.Kinds.{trun, mdat}
use Rattle.rules.specs.Bytes.{in4, in8, zeros, boxed, header, run, moof_of, chunk, track_t}
use Rattle.rules.specs.Computed.{computed}
use Rattle.rules.specs.Examples.{nines, acceptance, accepted_over}
use Rattle.rules.specs.Plays.{moof_by}
use Rattle.rules.specs.Track.{ruling, boundaries}
use Rattle.rules.specs.Set.{set_ruling, set_outcome}
use Rattle.rules.specs.Player.{stuck, passed, play}
use Rattle.rules.specs.Rules.{Rule, breaks}

-- T's header, but with `trex` default flags that say non-sync
unfoldable pub header_v : List ℕ
header_v = take 488 header ++ in4 0x1010000

-- a chunk from 0: `tfhd` defaults of 60,000 ticks, 7 bytes and sync; a run of three samples with no fields of its own; a long `mdat` header
unfoldable pub first_v : List ℕ
first_v =
    moof_by (in4 0x20038 ++ in4 1 ++ in4 60000 ++ in4 7 ++ in4 0x2000000) 0 (boxed trun (in4 0x1 ++ in4 3 ++ in4 112))
    ++ in4 1 ++ in4 mdat ++ in8 37 ++ zeros 21

-- a chunk from 180,000: an empty run whose first-sample flags say non-sync; a run of one sample, 100,000 ticks and 5 bytes, with no
-- offset and flags that say sync; a run of two samples, 40,000 ticks each and 3 and 4 bytes, with an offset of its own
unfoldable pub second_v : List ℕ
second_v =
    moof_by (in4 0x20000 ++ in4 1) 180000
    (boxed trun (in4 0x5 ++ in4 0 ++ in4 160 ++ in4 0x1010000)
    ++ boxed trun (in4 0x304 ++ in4 1 ++ in4 0x2000000 ++ in4 100000 ++ in4 5)
    ++ boxed trun (in4 0x301 ++ in4 2 ++ in4 165 ++ in4 40000 ++ in4 3 ++ in4 40000 ++ in4 4))
    ++ boxed mdat (zeros 12)

-- V: other samples than T's over the same boundaries
unfoldable pub track_v : List ℕ
unfolding moof_by header_v first_v second_v
track_v = header_v ++ first_v ++ second_v

-- V is accepted by itself, and beside T
pub v_accepted : ruling track_v ≡ Ok tt
unfolding computed track_v
v_accepted = refl

pub set_t_v : set_ruling (track_t ∷ track_v ∷ []) ≡ Ok tt
unfolding computed track_v
set_t_v = refl

-- V has T's boundaries
pub same_boundaries_lem : boundaries track_v ≡ boundaries track_t
unfolding computed track_v
same_boundaries_lem = refl

-- the bundle of T and V
unfoldable pub bundle_tv : List ℕ
bundle_tv = (0x53 ∷ 0x57 ∷ in4 768) ++ track_t ++ (0x53 ∷ 0x57 ∷ in4 797) ++ track_v

-- what a caller sees of it over a table of four nines: what T alone gives
pub bundle_outcome : set_outcome bundle_tv nines ≡ acceptance
unfolding computed accepted_over track_v bundle_tv
bundle_outcome = refl

-- from T to V, and from V to T: both pass the boundaries
pub switches : map (play (track_t ∷ track_v ∷ [])) ((0 ∷ 1 ∷ []) ∷ (1 ∷ 0 ∷ []) ∷ [])
    ≡ (passed (0 ∷ 180000 ∷ 360000 ∷ []) ∷ passed (0 ∷ 180000 ∷ 360000 ∷ []) ∷ [])
unfolding computed track_v
switches = refl

-- a track of one chunk with two runs: one sample of so many bytes, then a run with an offset of its own
unfoldable pub far : ℕ → ℕ → List ℕ
far size offset =
    header ++ moof_of 0 (boxed trun (in4 0x301 ++ in4 1 ++ in4 136 ++ in4 90000 ++ in4 size) ++ run 0 offset [])
    ++ boxed mdat (zeros 30)

-- tracks with an offset below 0, and what rule 22 says of each: 22 at the run that carries it
unfoldable pub negatives : List (List ℕ × Rule)
negatives =
    -- the first run's offset is -1
    (header ++ chunk 0 4294967295 30, breaks 22 0 556)
    -- a later run's is -1, where the sizes before it lead to 4,294,967,295: the same four bytes, read as unsigned
    ∷ (far 4294967159 4294967295, breaks 22 0 584)
    ∷ []

-- offsets below 0 are refused, and the player is stuck on them
pub negatives_refused : map (λ e. ruling e.0) negatives ≡ map (λ e. e.1) negatives
unfolding computed far negatives
negatives_refused = refl

pub negatives_stuck : map (λ e. play (e.0 ∷ []) (0 ∷ [])) negatives ≡ map (λ e. stuck) negatives
unfolding computed far negatives
negatives_stuck = refl
