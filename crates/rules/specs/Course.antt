-- One pass: the same rules, taken one box at a time. What a track has come to after some of its boxes is a stage of rule 6, with the rules so far. The
-- header is judged where `moov` is met in order, a chunk where its `mdat` is; after the first broken rule of these no more are judged, but the order
-- goes on; where the order is broken, that decides. A box is judged by its own bytes and those of the `moof` that waits, wherever they are held.
use Rattle.std.specs.Prelude.{ℕ, ◌+◌, ◌-◌, List, [], ◌∷◌, Bool, true, ◌&&◌, length, Option, None, Some, Ok, Err}
use Rattle.numbers.specs.Numbers.{when}
use Rattle.rules.specs.Rules.{◌then◌, moved, Course, Judged, Rule, breaks}
use Rattle.rules.specs.Boxes.{Box, boxes, whole}
use Rattle.rules.specs.Order.{ordered, step6, on_stepped}
use Rattle.rules.specs.Header.{header_rules, ftyp_in, header_in, places_in}
use Rattle.rules.specs.Chunk.{shape, timing, start_of, end_of, sync_in, begins_one}
use Rattle.rules.specs.Track.{header_of, chunks, sync_at, fragment_count, first_tick_of, end_of_track, ruling}
use Rattle.rules.specs.Set.{mdhd_at, hdlr_at}
use Rattle.rules.specs.declared.Reached.{Reached}
use Rattle.rules.specs.declared.Reached.TheVariants.{Start, Typed, Headed, Halved, Paired}
use Rattle.rules.specs.declared.Spot.{Spot}
use Rattle.rules.specs.declared.Stage.{Stage}
use Rattle.rules.specs.declared.Stage.TheVariants as stage
use Rattle.rules.specs.declared.TrackFacts.{TrackFacts}

-- a rule, with what is known where it holds
unfoldable pub judged_by : Rule → TrackFacts → Judged
judged_by (Ok u) f = Ok f
judged_by (Err e) f = Err e

-- what is known by `moov` at a place, by its bytes: no fragment yet
unfoldable pub opened_facts : ℕ → List ℕ → TrackFacts
opened_facts at m =
    record {
      header = header_in m;
      mdhd = at + (places_in m).mdhd;
      hdlr = at + (places_in m).hdlr;
      fragments = 0;
      plain = true;
      start = None;
      end = None;
    }

-- `moov` at a place, by its bytes, after `ftyp`: the header's rules
unfoldable pub opened : Option Bool → ℕ → List ℕ → Judged
opened f at m = judged_by (header_rules at f m) (opened_facts at m)

-- the first start, with one start more
abbrev pub or_tick : Option ℕ → ℕ → Option ℕ
or_tick None a = Some a
or_tick (Some t) a = Some t

-- a track with one chunk more, by the bytes of its `moof`: one fragment more where it begins one
unfoldable pub grown : TrackFacts → List ℕ → TrackFacts
grown f m =
    record {
      header = f.header;
      mdhd = f.mdhd;
      hdlr = f.hdlr;
      fragments = f.fragments + when (begins_one f.end (sync_in m f.header.defaults)) 1 0;
      plain = f.plain && sync_in m f.header.defaults;
      start = or_tick f.start (start_of m);
      end = Some (end_of m f.header.defaults);
    }

-- the chunk whose `moof` stands at x, by its bytes and the header length and the payload of its `mdat`: its rules, unless one was broken before
unfoldable pub joined : Judged → ℕ → List ℕ → ℕ → ℕ → Judged
joined (Ok f) x m head payload =
    judged_by
    (moved x (shape m f.header.id) then moved x (timing m f.header.defaults head payload f.end))
    (grown f m)
joined (Err e) x m head payload = Err e

-- the stage of rule 6 that is reached
abbrev pub stage_of : Reached → Stage
stage_of Start = stage.Start
stage_of (Typed f) = stage.Typed
stage_of (Headed j) = stage.Headed
stage_of (Halved j m) = stage.Halved
stage_of (Paired j) = stage.Paired

-- where a box stands
abbrev pub spot_of : Box → Spot
spot_of x = record { at = x.at; head = x.inner; size = x.size }

-- what the box that a stage awaits brings, by its own bytes and those of the `moof` that waits
unfoldable pub brought : List ℕ → List ℕ → Reached → Spot → Reached
brought own w Start b = Typed (ftyp_in own)
brought own w (Typed f) b = Headed (opened f b.at own)
brought own w (Headed j) b = Halved j b
brought own w (Halved j m) b = Paired (joined j m.at w b.head (b.size - b.head))
brought own w (Paired j) b = Halved j b

-- one box more: rule 6 tells whether it may stand there; of the four types it is the awaited one, any other is passed over
unfoldable pub and_box : List ℕ → List ℕ → Course → Box → Course
and_box own w (Err p) x = Err p
and_box own w (Ok c) x =
    on_stepped (step6 (stage_of c) x.kind) (λ g. Ok (when (ordered x.kind) (brought own w c (spot_of x)) c)) (Err x.at)

-- the bytes of the `moof` that waits for its `mdat`
abbrev pub waiting : List ℕ → Course → List ℕ
waiting s (Ok Start) = []
waiting s (Ok (Typed f)) = []
waiting s (Ok (Headed j)) = []
waiting s (Ok (Halved j m)) = whole s m.at
waiting s (Ok (Paired j)) = []
waiting s (Err p) = []

-- all the boxes of a run, one after the other
unfoldable pub course_from : List ℕ → Course → List Box → Course
course_from s c [] = c
course_from s c (x ∷ xs) = course_from s (and_box (whole s x.at) (waiting s c) c x) xs

-- where a slice of some bytes has no more boxes: after a pair the rules so far decide, anywhere else the order is broken
unfoldable pub course_end : ℕ → Course → Judged
course_end len (Err p) = breaks 6 0 p
course_end len (Ok (Paired j)) = j
course_end len (Ok Start) = breaks 6 0 len
course_end len (Ok (Typed f)) = breaks 6 0 len
course_end len (Ok (Headed j)) = breaks 6 0 len
course_end len (Ok (Halved j m)) = breaks 6 0 len

-- the course over a slice
unfoldable pub course_of : List ℕ → Judged
course_of s = course_end (length s) (course_from s (Ok Start) (boxes s 0))

-- whether the first sample of each chunk is sync
unfoldable pub each_sync : (ℕ → Bool) → List ℕ → Bool
each_sync sync [] = true
each_sync sync (x ∷ xs) = sync x && each_sync sync xs

-- what is known of a track
unfoldable pub facts_of : List ℕ → TrackFacts
facts_of s =
    record {
      header = header_of s;
      mdhd = mdhd_at s;
      hdlr = hdlr_at s;
      fragments = fragment_count s;
      plain = each_sync (sync_at s (header_of s)) (chunks s);
      start = first_tick_of s (chunks s);
      end = end_of_track s;
    }

-- every rule of a track but room, with what is known of it
unfoldable pub judgement : List ℕ → Judged
judgement s = judged_by (ruling s) (facts_of s)

-- the mark of this file: its definitions unfold wherever it does
unfoldable pub computed_course : Unit {0}
unfolding judged_by opened_facts opened grown joined brought and_box course_from course_end course_of each_sync facts_of judgement
computed_course = tt
