-- The player computed on small tracks: a later run's offset, a run of no samples, a broken rule ahead of the plan, and a late chunk inside a fragment.
use Rattle.std.specs.Prelude.{ℕ, List, [], ◌∷◌, ◌++◌, map, ◌≡◌, refl}
use Rattle.rules.specs.Kinds.{moof, mfhd, traf, tfhd, tfdt, trun, mdat}
use Rattle.rules.specs.Bytes.{in4, zeros, boxed, header, run, moof_of, chunk, sync_flags, three_chunks, track_u}
use Rattle.rules.specs.Computed.{computed}
use Rattle.rules.specs.Track.{ruling}
use Rattle.rules.specs.Player.{Played, stuck, passed, rules_before_timing, play}
use Rattle.rules.specs.Rules.{breaks}

-- a `moof` from what its `tfhd` holds, a start and its runs
unfoldable pub moof_by : List ℕ → ℕ → List ℕ → List ℕ
moof_by h start rs =
    boxed moof (boxed mfhd (zeros 8) ++ boxed traf (boxed tfhd h ++ boxed tfdt (zeros 4 ++ in4 start) ++ rs))

-- a track of one chunk with two runs, the second with an offset of its own
unfoldable pub two_runs : ℕ → List ℕ
two_runs offset = header ++ moof_of 0 (run 0 144 [] ++ run 0 offset []) ++ boxed mdat (zeros 60)

-- a track of one chunk whose first run has no samples, no offset, and first-sample flags that say non-sync
unfoldable pub empty_first : List ℕ
empty_first =
    header ++ moof_of 0 (boxed trun (in4 0x4 ++ in4 0 ++ in4 0x1010000) ++ run 0 128 []) ++ boxed mdat (zeros 30)

-- T with a spare byte at the end of its first `mdat`, and with a track ID in its second `tfhd`
unfoldable pub spare : ℕ → List ℕ
spare id =
    header ++ chunk 0 108 31 ++ moof_by (in4 0x20000 ++ in4 id) 180000 (run 0 108 []) ++ boxed mdat (zeros 30)

-- tracks, and what a plan of one step comes to on each
unfoldable pub first_steps : List (List ℕ × Played)
first_steps =
    -- a later run's own offset: where the run before ended, and one byte less
    (two_runs 174, passed (0 ∷ 360000 ∷ []))
    ∷ (two_runs 173, stuck)
    -- a run of no samples: its flags touch no sample, and it has none to be stuck at
    ∷ (empty_first, passed (0 ∷ 180000 ∷ []))
    -- 17 broken in a chunk that the plan doesn't come to, and 17 in order: rules 1 to 18 are of the whole track, 22 is not
    ∷ (spare 2, stuck)
    ∷ (spare 1, passed (0 ∷ 180000 ∷ []))
    -- U, whose first fragment has two chunks; and the second of them a tick late
    ∷ (track_u, passed (0 ∷ 360000 ∷ []))
    ∷ (three_chunks 180001 sync_flags, stuck)
    ∷ []

-- the plans of one step, by computation
pub first_steps_lem : map (λ e. play (e.0 ∷ []) (0 ∷ [])) first_steps ≡ map (λ e. e.1) first_steps
unfolding computed moof_by two_runs empty_first spare first_steps
first_steps_lem = refl

-- the verdict on that track is 22 at the first `mdat`, though of rules 1 to 18 it is 17 at the second `tfhd` that stops the player
pub verdict_22_player_17 : (ruling (spare 2) ∷ rules_before_timing (spare 2) ∷ []) ≡ (breaks 22 0 592 ∷ breaks 17 0 663 ∷ [])
unfolding computed moof_by spare
verdict_22_player_17 = refl
