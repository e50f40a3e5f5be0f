-- What the lent memory says: the state that its numbers are, which states are sound, and what a track comes to after one.
use Rattle.std.specs.Prelude.{ℕ, ◌+◌, ◌-◌, ◌%◌, Bool, true, false, ◌&&◌, ◌||◌, List, [], ◌++◌, length, take, drop, get_or, leb, ltb, eqb, Option, None, Some, Ok, Err}
use Rattle.std.specs.Option.{unwrap_or}
use Rattle.numbers.specs.Numbers.{when, be4}
use Rattle.rules.specs.Limits.{byte_limit, gather_limit}
use Rattle.rules.specs.Boxes.{head_of, size_of}
use Rattle.rules.specs.Pieces.{accepted_between, refused_as}
use Rattle.rules.specs.declared.Answer.{Answer}
use Rattle.rules.specs.Rules.{Course, Judged, breaks}
use Rattle.rules.specs.declared.Reached.TheVariants.{Start, Typed, Headed, Halved, Paired}
use Rattle.rules.specs.declared.Spot.{Spot}
use Rattle.rules.specs.declared.TrackFacts.{TrackFacts}
use Rattle.pieces.specs.Rest.{rest}
use Rattle.pieces.specs.declared.state.Phase.{Phase}
use Rattle.pieces.specs.declared.state.Phase.TheVariants.{Unstarted, Head, Keep, Skip, Stopped}
use Rattle.pieces.specs.declared.state.Progress.{Progress}

-- a phase by its number and its two values; any other number is no phase
unfoldable pub phase_of : ℕ → ℕ → ℕ → Phase
phase_of t a b =
    when (eqb t 1) (Head a) (when (eqb t 2) (Keep a) (when (eqb t 3) (Skip a b) (when (eqb t 4) (Stopped (record { number = a; place = b })) Unstarted)))

-- a number of 32 bits
abbrev pub low32 : ℕ → ℕ
low32 n = n % 4294967296

-- a tick, the first start or the last end, by whether it is set and its value
unfoldable pub tick_from : ℕ → ℕ → Option ℕ
tick_from t a = when (eqb t 1) (Some a) None

-- what is known of a track, by the numbers
unfoldable pub facts_from : List ℕ → TrackFacts
facts_from ns =
    record {
      header =
          record {
            timescale = low32 (get_or ns 7 0);
            id = low32 (get_or ns 8 0);
            handler = low32 (get_or ns 9 0);
            defaults =
                record { duration = low32 (get_or ns 10 0); size = low32 (get_or ns 11 0); flags = low32 (get_or ns 12 0) };
          };
      mdhd = get_or ns 13 0;
      hdlr = get_or ns 14 0;
      fragments = get_or ns 15 0;
      plain = eqb (get_or ns 23 0) 1;
      start = tick_from (get_or ns 16 0) (get_or ns 17 0);
      end = tick_from (get_or ns 18 0) (get_or ns 19 0);
    }

-- what the rules so far come to, by the numbers
unfoldable pub judged_from : List ℕ → Judged
judged_from ns =
    when (eqb (get_or ns 6 0) 1) (Ok (facts_from ns)) (breaks (get_or ns 7 0) (get_or ns 8 0) (get_or ns 9 0))

-- where the `moof` that waits stood, by the numbers
unfoldable pub spot_from : List ℕ → Spot
spot_from ns = record { at = get_or ns 20 0; head = get_or ns 21 0; size = get_or ns 22 0 }

-- the number of what `ftyp` tells, as a course's case
abbrev pub of_ftyp : Option Bool → ℕ
of_ftyp (Some false) = 1
of_ftyp (Some true) = 2
of_ftyp None = 3

-- what the boxes so far came to, by the number of its case, the rules so far, and the spot of the `moof` that waits
unfoldable pub course_by : ℕ → Judged → Spot → Course
course_by t j m =
    when (eqb t 0) (Ok Start)
    (when (eqb t 1) (Ok (Typed (Some false)))
    (when (eqb t 2) (Ok (Typed (Some true)))
    (when (eqb t 3) (Ok (Typed None))
    (when (eqb t 4) (Ok (Headed j)) (when (eqb t 5) (Ok (Halved j m)) (when (eqb t 6) (Ok (Paired j)) (Err m.at)))))))

-- the state that the numbers are
unfoldable pub state_of : List ℕ → Progress
state_of ns =
    record {
      phase = phase_of (get_or ns 0 0) (get_or ns 1 0) (get_or ns 2 0);
      total = get_or ns 3 0;
      boxes = get_or ns 4 0;
      course = course_by (get_or ns 5 0) (judged_from ns) (spot_from ns);
    }

-- the state that the numbers are, with the phase's first value and the bytes so far anew
unfoldable pub moved_on : List ℕ → ℕ → ℕ → Progress
moved_on ns a total =
    record {
      phase = phase_of (get_or ns 0 0) a (get_or ns 2 0);
      total = total;
      boxes = (state_of ns).boxes;
      course = (state_of ns).course;
    }

-- fragments are no more than the boxes so far
unfoldable pub few_fragments : Judged → ℕ → Bool
few_fragments (Ok f) n = leb f.fragments n
few_fragments (Err e) n = true

-- the bytes of the buffer begin with a whole box of a header length and a size
unfoldable pub kept_box : List ℕ → Spot → Bool
kept_box kept m =
    eqb (head_of kept 0) m.head && eqb (size_of kept 0) m.size && leb m.head m.size && leb m.size gather_limit

-- a course that is sound, after n boxes, with the buffer
unfoldable pub sound_course : Course → ℕ → List ℕ → Bool
sound_course (Ok Start) n kept = true
sound_course (Ok (Typed f)) n kept = true
sound_course (Ok (Headed j)) n kept = few_fragments j n
sound_course (Ok (Halved j m)) n kept = few_fragments j n && leb m.at byte_limit && kept_box kept m
sound_course (Ok (Paired j)) n kept = few_fragments j n
sound_course (Err p) n kept = true

-- a `moof` waits in the buffer
unfoldable pub halved : Course → Bool
halved (Ok Start) = false
halved (Ok (Typed f)) = false
halved (Ok (Headed j)) = false
halved (Ok (Halved j m)) = true
halved (Ok (Paired j)) = false
halved (Err p) = false

-- a header that is not there whole yet, of which so many bytes are
unfoldable pub open_header : List ℕ → ℕ → Bool
open_header head n = ltb n 8 || (ltb n 16 && eqb (be4 head 0) 1)

-- a gathered box that is not there whole yet, of which so many bytes are
unfoldable pub open_box : List ℕ → ℕ → Bool
open_box kept n = leb (head_of kept 0) n && ltb n (size_of kept 0) && leb (size_of kept 0) gather_limit

-- a phase that is sound, with the header's bytes and the buffer
unfoldable pub sound_phase : Phase → Course → ℕ → List ℕ → List ℕ → Bool
sound_phase Unstarted c total head kept = false
sound_phase (Head n) c total head kept = leb n total && open_header head n
sound_phase (Keep n) c total head kept = leb n total && open_box kept n && when (halved c) false true
sound_phase (Skip l p) c total head kept = ltb 0 l
sound_phase (Stopped e) c total head kept = true

-- a state that is sound: one that `start` led to is, and any that is leads nowhere outside the lent memory
unfoldable pub sound : Progress → List ℕ → List ℕ → Bool
sound st head kept = sound_phase st.phase st.course st.total head kept && sound_course st.course st.boxes kept

-- a number that is no verdict's
abbrev pub no_verdict : ℕ
no_verdict = 18446744073709551615

-- the bytes of the `moof` that waits
abbrev pub kept_moof : Course → List ℕ → List ℕ
kept_moof (Ok Start) kept = []
kept_moof (Ok (Typed f)) kept = []
kept_moof (Ok (Headed j)) kept = []
kept_moof (Ok (Halved j m)) kept = take m.size kept
kept_moof (Ok (Paired j)) kept = []
kept_moof (Err p) kept = []

-- what a track comes to if more bytes follow, by the phase: the bytes of a header, or of a gathered box, and then those; so many bytes of
-- them pass by, and without them the box ends beyond its parent; or the first framing refusal stands
unfoldable pub comes_by : Phase → Course → ℕ → ℕ → List ℕ → List ℕ → List ℕ → Judged
comes_by Unstarted c total n head kept more = breaks no_verdict 0 0
comes_by (Head i) c total n head kept more = rest (kept_moof c kept) c (total - i) n (take i head ++ more)
comes_by (Keep i) c total n head kept more = rest [] c (total - i) n (take i kept ++ more)
comes_by (Skip l p) c total n head kept more =
    when (ltb (length more) l) (breaks 4 0 p) (rest (kept_moof c kept) c (total + l) n (drop l more))
comes_by (Stopped e) c total n head kept more = breaks e.number 0 e.place

-- rule 1 comes before all
unfoldable pub comes_to : Progress → List ℕ → List ℕ → List ℕ → Judged
comes_to st head kept more =
    when (ltb byte_limit (st.total + length more)) (breaks 1 0 0)
    (comes_by st.phase st.course st.total st.boxes head kept more)

-- what the form answers where the rules of a track come to this: a first start and a last end are 0 where they are unset
unfoldable pub answer_of : Judged → Answer
answer_of (Ok f) = accepted_between f.fragments f.header.timescale (unwrap_or f.start 0) (unwrap_or f.end 0)
answer_of (Err e) = refused_as e.number e.track e.place

-- what is answered of a state that is not sound
abbrev pub unstarted : Answer
unstarted = refused_as no_verdict 0 0
