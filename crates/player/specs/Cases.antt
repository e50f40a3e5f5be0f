-- The player computed on small tracks: each reason to be stuck, and beside it the same track without that reason; and verdicts on whole tracks.
use Rattle.std.specs.Prelude.{◌≡◌, refl, List, [], ◌∷◌, ◌++◌, ℕ, length, take, Ok}
use Rattle.rules.specs.Kinds.{mdat, tfdt, trun, vide, soun, vmhd, letters}
use Rattle.rules.specs.Bytes.{in4, zeros, boxed, header_with, header, run, moof_of, moof_of8, chunk, track_t, single, shifted}
use Rattle.rules.specs.Computed.{computed}
use Rattle.rules.specs.Track.{ruling}
use Rattle.rules.specs.Bundle.{tracks}
use Rattle.rules.specs.Set.{set_ruling, set_outcome}
use Rattle.rules.specs.Player.{stuck, passed, play, rules_before_timing}
use Rattle.rules.specs.Rules.{breaks}

-- T plays through: the first start, then the clock after each fragment
pub plays_t : play (track_t ∷ []) (0 ∷ 0 ∷ []) ≡ passed (0 ∷ 180000 ∷ 360000 ∷ [])
unfolding computed
plays_t = refl

-- a third fragment of T: there is none
pub missing_fragment : play (track_t ∷ []) (0 ∷ 0 ∷ 0 ∷ []) ≡ stuck
unfolding computed
missing_fragment = refl

-- a choice that names a track, and one that names none
pub names_track : play (single 0 108 30 ∷ []) (0 ∷ []) ≡ passed (0 ∷ 180000 ∷ [])
unfolding computed single
names_track = refl

pub names_none : play (single 0 108 30 ∷ []) (1 ∷ []) ≡ stuck
unfolding computed single
names_none = refl

-- T's two fragments under another timescale
unfoldable pub other_scale : List ℕ
other_scale = header_with 48000 vide vmhd ++ chunk 0 108 30 ++ chunk 180000 108 30

pub one_timescale : play (track_t ∷ other_scale ∷ []) (1 ∷ 1 ∷ []) ≡ passed (0 ∷ 180000 ∷ 360000 ∷ [])
unfolding computed other_scale
one_timescale = refl

pub other_timescale : play (track_t ∷ other_scale ∷ []) (0 ∷ 1 ∷ []) ≡ stuck
unfolding computed other_scale
other_timescale = refl

-- a track whose first sample has flags of its own
unfoldable pub first_flagged : ℕ → List ℕ
first_flagged flags = header ++ moof_of 0 (run 0x4 112 (in4 flags)) ++ boxed mdat (zeros 30)

pub sync_first : play (first_flagged 0x2000000 ∷ []) (0 ∷ []) ≡ passed (0 ∷ 180000 ∷ [])
unfolding computed first_flagged
sync_first = refl

pub non_sync_first : play (first_flagged 0x1010000 ∷ []) (0 ∷ []) ≡ stuck
unfolding computed first_flagged
non_sync_first = refl

-- an unset clock takes any start; a set clock must be the `tfdt`
pub clock_unset : play (single 7 108 30 ∷ []) (0 ∷ []) ≡ passed (7 ∷ 180007 ∷ [])
unfolding computed single
clock_unset = refl

-- T, its second fragment one tick late
unfoldable pub late : List ℕ
late = header ++ chunk 0 108 30 ++ chunk 180001 108 30

pub clock_is_met : play (track_t ∷ late ∷ []) (1 ∷ 0 ∷ []) ≡ passed (0 ∷ 180000 ∷ 360000 ∷ [])
unfolding computed late
clock_is_met = refl

pub clock_is_missed : play (track_t ∷ late ∷ []) (0 ∷ 1 ∷ []) ≡ stuck
unfolding computed late
clock_is_missed = refl

-- samples that begin a byte before the next byte, a byte after it, and before the track
pub sample_before : play (single 0 107 30 ∷ []) (0 ∷ []) ≡ stuck
unfolding computed single
sample_before = refl

pub sample_after : play (single 0 109 31 ∷ []) (0 ∷ []) ≡ stuck
unfolding computed single
sample_after = refl

pub sample_negative : play (single 0 4294967295 30 ∷ []) (0 ∷ []) ≡ stuck
unfolding computed single
sample_negative = refl

-- samples that end a byte past the data box, and a byte before its end: the player asks no more, rule 22 does
pub sample_past : play (single 0 108 29 ∷ []) (0 ∷ []) ≡ stuck
unfolding computed single
sample_past = refl

pub sample_inside : play (single 0 108 31 ∷ []) (0 ∷ []) ≡ passed (0 ∷ 180000 ∷ [])
unfolding computed single
sample_inside = refl

pub sample_inside_refused : ruling (single 0 108 31) ≡ breaks 22 0 592
unfolding computed single
sample_inside_refused = refl

-- a run without an offset: two samples, sizes 10 and 20
unfoldable pub bare_run : List ℕ
bare_run = boxed trun (in4 0x300 ++ in4 2 ++ in4 90000 ++ in4 10 ++ in4 90000 ++ in4 20)

-- after another run it begins where that one ended; as the first it begins at the `moof` start
pub later_run_bare : play ((header ++ moof_of 0 (run 0 140 [] ++ bare_run) ++ boxed mdat (zeros 60)) ∷ []) (0 ∷ []) ≡ passed (0 ∷ 360000 ∷ [])
unfolding computed bare_run
later_run_bare = refl

pub first_run_bare : play ((header ++ moof_of 0 bare_run ++ boxed mdat (zeros 30)) ∷ []) (0 ∷ []) ≡ stuck
unfolding computed bare_run
first_run_bare = refl

-- tracks that break one of rules 1 to 18: 4 (the last byte cut off), 6 (a box between `moof` and `mdat`), 10 (timescale 0), 12 (handler
-- and media header don't pair), 14 (in a chunk that the plan doesn't come to); none of them plays
unfoldable pub cut : List ℕ
cut = take 629 (single 0 108 30)

unfoldable pub between : List ℕ
between = header ++ moof_of 0 (run 0 108 []) ++ boxed (letters 0x66 0x72 0x65 0x65) [] ++ boxed mdat (zeros 30)

pub breaks_4 : rules_before_timing cut ≡ breaks 4 0 592
unfolding computed single cut
breaks_4 = refl

pub stuck_4 : play (cut ∷ []) (0 ∷ []) ≡ stuck
unfolding computed single cut
stuck_4 = refl

pub breaks_6 : rules_before_timing between ≡ breaks 6 0 592
unfolding computed between
breaks_6 = refl

pub stuck_6 : play (between ∷ []) (0 ∷ []) ≡ stuck
unfolding computed between
stuck_6 = refl

pub stuck_10 : play ((header_with 0 vide vmhd ++ chunk 0 108 30) ∷ []) (0 ∷ []) ≡ stuck
unfolding computed
stuck_10 = refl

pub stuck_12 : play ((header_with 90000 soun vmhd ++ chunk 0 108 30) ∷ []) (0 ∷ []) ≡ stuck
unfolding computed
stuck_12 = refl

-- a track whose second chunk has two `tfdt`: rule 14 there stops the player at the first fragment
unfoldable pub two_starts : List ℕ
two_starts = header ++ chunk 0 108 30 ++ moof_of 180000 (boxed tfdt (zeros 8) ++ run 0 124 []) ++ boxed mdat (zeros 30)

pub breaks_14 : rules_before_timing two_starts ≡ breaks 14 0 694
unfolding computed two_starts
breaks_14 = refl

pub stuck_14_ahead : play (two_starts ∷ []) (0 ∷ []) ≡ stuck
unfolding computed two_starts
stuck_14_ahead = refl

-- T beside itself is an accepted set
pub set_accepted : set_ruling (track_t ∷ track_t ∷ []) ≡ Ok tt
unfolding computed
set_accepted = refl

-- a non-sync first sample of the track's first chunk is refused under 21
pub non_sync_refused : ruling (first_flagged 0x1010000) ≡ breaks 21 0 556
unfolding computed first_flagged
non_sync_refused = refl

-- a track of one fragment that ends at tick 2^63 - 1 is accepted, one that starts a tick later is refused under 20
unfoldable pub ends_late : ℕ → List ℕ
ends_late start = header ++ moof_of8 start (run 0 112 []) ++ boxed mdat (zeros 30)

pub last_tick_accepted : ruling (ends_late 9223372036854595807) ≡ Ok tt
unfolding computed ends_late
last_tick_accepted = refl

pub later_tick_refused : ruling (ends_late 9223372036854595808) ≡ breaks 20 0 560
unfolding computed ends_late
later_tick_refused = refl

-- what a caller sees of the bundle of T twice, over a table of four nines
unfoldable pub twice_t : List ℕ
twice_t = (0x53 ∷ 0x57 ∷ in4 768) ++ track_t ++ (0x53 ∷ 0x57 ∷ in4 768) ++ track_t

pub twice_outcome : set_outcome twice_t (9 ∷ 9 ∷ 9 ∷ 9 ∷ [])
    ≡ record {
      verdict = record { number = 0; track = 0; place = 0; count = 2; timescale = 90000 };
      table = 0 ∷ 180000 ∷ 360000 ∷ 9 ∷ [];
    }
unfolding computed twice_t
twice_outcome = refl

pub twice_tracks : length (tracks twice_t) ≡ 2
unfolding computed twice_t
twice_tracks = refl

-- the plans that tell the two refused sets of `Sets` apart: under 27 staying on T runs and staying on the other is stuck; under 28 both run
pub plans_27 : play (track_t ∷ single 0 108 30 ∷ []) (1 ∷ 1 ∷ []) ≡ stuck
unfolding computed single
plans_27 = refl

pub plans_28 : play (track_t ∷ shifted ∷ []) (1 ∷ 1 ∷ []) ≡ passed (1 ∷ 180001 ∷ 360001 ∷ [])
unfolding computed shifted
plans_28 = refl
