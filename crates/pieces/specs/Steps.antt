-- What the functions of one step ask and say, over the state as it is decoded.
use Rattle.std.specs.Prelude.{ℕ, ◌+◌, ◌-◌, ◌≤◌, ◌<◌, true, false, ◌&&◌, List, [], ◌++◌, ◌≡◌, length, take, drop, ltb, Option, None, Some, Ok, Err}
use Rattle.std.proofs.Math.Seq.{paste}
use Rattle.numbers.specs.Numbers.{when}
use Rattle.rules.specs.Limits.{byte_limit, box_limit, gather_limit}
use Rattle.rules.specs.Boxes.{head_of, size_of, kind_of}
use Rattle.rules.specs.Course.{and_box}
use Rattle.rules.specs.Pieces.{gathered}
use Rattle.rules.specs.Rules.{Course, Judged, breaks}
use Rattle.rules.specs.declared.Reached.TheVariants.{Start, Typed, Headed, Halved, Paired}
use Rattle.rules.specs.declared.Misframed.{Misframed}
use Rattle.rules.specs.declared.Spot.{Spot}
use Rattle.track.specs.Course.{box_of}
use Rattle.pieces.specs.Rest.{rest}
use Rattle.pieces.specs.State.{sound, sound_phase, sound_course, open_box, halved, kept_moof, comes_by, comes_to}
use Rattle.pieces.specs.declared.state.Phase.{Phase}
use Rattle.pieces.specs.declared.state.Phase.TheVariants.{Unstarted, Head, Keep, Skip, Stopped}
use Rattle.pieces.specs.declared.state.Progress.{Progress}
use Rattle.pieces.specs.declared.step.Moved.{Moved}

-- the bytes of the `moof` that waits
abbrev pub waits_in : Course → ℕ
waits_in (Ok Start) = 0
waits_in (Ok (Typed f)) = 0
waits_in (Ok (Headed j)) = 0
waits_in (Ok (Halved j m)) = m.size
waits_in (Ok (Paired j)) = 0
waits_in (Err p) = 0

-- a framing refusal
abbrev pub stopped_at : ℕ → Misframed → Progress
stopped_at total e = record { phase = Stopped e; total = total; boxes = 0; course = Err 0 }

-- the course where a box that is gathered begins at a place: if a `moof` waits, that breaks the order
abbrev pub beginning_at : Course → ℕ → Course
beginning_at c at = when (halved c) (Err at) c

-- where a header ends of which n bytes are there: 8, and then, where they say so, 16
abbrev pub header_end : ℕ → ℕ
header_end n = when (ltb n 8) 8 16

-- the phase where so many bytes are left of a box that passes by, which stands at a place
abbrev pub passing_of : ℕ → ℕ → Phase
passing_of l p = when (ltb 0 l) (Skip l p) (Head 0)

-- between two boxes, or in one: not over the byte limit, the buffer as long as it is, the course sound
pub record ReadyFor (c : Course) (total n : ℕ) (kept : List ℕ) : Type 0 where
  pub limit : total ≤ byte_limit
  pub room : length kept ≡ gather_limit
  pub course : sound_course c n kept ≡ true

-- a state means what a judgement says of any bytes that follow
pub record Means (says : List ℕ → Judged) (total : ℕ) (r : Progress) (head kept : List ℕ) : Type 0 where
  pub sum : r.total ≡ total
  pub sound : sound r head kept ≡ true
  pub same : (t : List ℕ) → says t ≡ comes_by r.phase r.course r.total r.boxes head kept t

-- the same, whatever the bytes of the header are
abbrev pub MeansAnyway : (List ℕ → Judged) → ℕ → Progress → List ℕ → Type 0
MeansAnyway says total r kept = (head : List ℕ) → Means says total r head kept

-- a box is gathered whole
pub record Gathered (c : Course) (total n size : ℕ) (kept : List ℕ) : Type 0 where
  pub ready : ReadyFor c total n kept
  pub said : size ≡ size_of kept 0
  pub holds : head_of kept 0 ≤ size
  pub small : size ≤ gather_limit
  pub there : size ≤ total
  pub alone : halved c ≡ false

-- what follows a box that is gathered whole
abbrev pub after_gathered : Course → ℕ → ℕ → ℕ → List ℕ → List ℕ → Judged
after_gathered c total n size kept t = rest [] c (total - size) n (take size kept ++ t)

-- a header of h bytes is there whole
pub record Whole (c : Course) (total n h : ℕ) (head kept : List ℕ) : Type 0 where
  pub ready : ReadyFor c total n kept
  pub bytes : length head ≡ 16
  pub said : h ≡ head_of head 0
  pub there : h ≤ total

-- what follows a header of h bytes
abbrev pub after_header : Course → ℕ → ℕ → ℕ → List ℕ → List ℕ → List ℕ → Judged
after_header c total n h head kept t = rest (kept_moof c kept) c (total - h) n (take h head ++ t)

-- a state means what follows a header of h bytes, with the buffer before and after
abbrev pub MeansHeaded : Course → ℕ → ℕ → ℕ → Progress → List ℕ → List ℕ → List ℕ → Type 0
MeansHeaded c total n h r head kept kept' = Means (after_header c total n h head kept) total r head kept'

-- it is that of a box to gather
pub record Gathers (c : Course) (total n : ℕ) (b : Spot) (head kept : List ℕ) : Type 0 where
  pub whole : Whole c total n b.head head kept
  pub few : n < box_limit
  pub place : b.at ≡ total - b.head
  pub said : b.size ≡ size_of head 0
  pub holds : b.head ≤ b.size
  pub kind : gathered (kind_of head 0) ≡ true

-- it is that of a box that passes by
pub record PassesBy (c : Course) (total n : ℕ) (b : Spot) (k : ℕ) (kept : List ℕ) : Type 0 where
  pub ready : ReadyFor c total n kept
  pub few : n < box_limit
  pub place : b.at + b.head ≡ total
  pub low : 8 ≤ b.head
  pub high : b.head ≤ 16
  pub holds : b.head ≤ b.size
  pub kind : gathered k ≡ false

-- what follows the header of a box that passes by
abbrev pub after_passed : Course → ℕ → Spot → ℕ → List ℕ → List ℕ → Judged
after_passed c n b k kept t =
    let d = and_box [] (kept_moof c kept) c (box_of b k) in
    when (ltb (length t) (b.size - b.head)) (breaks 4 0 b.at) (rest (kept_moof d kept) d (b.at + b.size) (n + 1) (drop (b.size - b.head) t))

-- bytes follow a sound state, some of them and not too many
pub record Follows (p : Phase) (c : Course) (total n : ℕ) (head kept more : List ℕ) : Type 0 where
  pub some : 0 < length more
  pub limit : total + length more ≤ byte_limit
  pub bytes : length head ≡ 16
  pub room : length kept ≡ gather_limit
  pub phase : sound_phase p c total head kept ≡ true
  pub course : sound_course c n kept ≡ true

-- some of them are taken: the state after them comes to the same, whatever follows
pub record TakesSome (p : Phase) (c : Course) (total n : ℕ) (head kept more : List ℕ) (r : Moved) (head' kept' : List ℕ) : Type 0 where
  pub some : 0 < r.used
  pub within : r.used ≤ length more
  pub bytes : length head' ≡ 16
  pub room : length kept' ≡ gather_limit
  pub sum : r.state.total ≡ total + r.used
  pub sound : sound r.state head' kept' ≡ true
  pub same : (t : List ℕ) → comes_by p c total n head kept (more ++ t)
      ≡ comes_by r.state.phase r.state.course r.state.total r.state.boxes head' kept' (drop r.used more ++ t)

-- the same, the memory as it was
abbrev pub TakesAside : Phase → Course → ℕ → ℕ → List ℕ → List ℕ → List ℕ → Moved → Type 0
TakesAside p c total n head kept more r = TakesSome p c total n head kept more r head kept

-- where a box passes by, and behind a framing refusal, no byte is kept: the memory stays as it was
abbrev pub StepsAside : Phase → Course → ℕ → ℕ → List ℕ → List ℕ → List ℕ → Moved → List ℕ → List ℕ → Type 0
StepsAside Unstarted c total n head kept more r head' kept' = Unit {0}
StepsAside (Head i) c total n head kept more r head' kept' = Unit {0}
StepsAside (Keep i) c total n head kept more r head' kept' = Unit {0}
StepsAside (Skip l p) c total n head kept more r head' kept' =
    TakesAside (Skip l p) c total n head kept more r × (head' ≡ head) × (kept' ≡ kept)
StepsAside (Stopped e) c total n head kept more r head' kept' =
    TakesAside (Stopped e) c total n head kept more r × (head' ≡ head) × (kept' ≡ kept)

-- each of a state
abbrev pub FollowsState : Progress → List ℕ → List ℕ → List ℕ → Type 0
FollowsState st head kept more = Follows st.phase st.course st.total st.boxes head kept more

abbrev pub TakesState : Progress → List ℕ → List ℕ → List ℕ → Moved → List ℕ → List ℕ → Type 0
TakesState st head kept more r head' kept' = TakesSome st.phase st.course st.total st.boxes head kept more r head' kept'

abbrev pub StateAside : Progress → List ℕ → List ℕ → List ℕ → Moved → List ℕ → List ℕ → Type 0
StateAside st head kept more r head' kept' = StepsAside st.phase st.course st.total st.boxes head kept more r head' kept'

-- a sound state, in memory as long as it is
pub record Sound (st : Progress) (head kept : List ℕ) : Type 0 where
  pub bytes : length head ≡ 16
  pub room : length kept ≡ gather_limit
  pub sound : sound st head kept ≡ true

-- a piece is taken: the state after it is sound, and comes to the same, whatever follows
pub record ComesSame (st : Progress) (head kept piece : List ℕ) (r : Progress) (head' kept' : List ℕ) : Type 0 where
  pub sound : Sound r head' kept'
  pub same : (t : List ℕ) → comes_to st head kept (piece ++ t) ≡ comes_to r head' kept' t

-- a phase leads by a piece to another: both can have come from `start` or neither, and whatever follows comes to the same
pub record Goes (p p' : Phase) (c : Course) (total n : ℕ) (head kept piece head' kept' : List ℕ) : Type 0 where
  pub sound : (sound_phase p c total head kept && sound_course c n kept)
      ≡ (sound_phase p' c (total + length piece) head' kept' && sound_course c n kept')
  pub same : (t : List ℕ) → comes_by p c total n head kept (piece ++ t) ≡ comes_by p' c (total + length piece) n head' kept' t

-- a phase with its first value anew
abbrev pub first_anew : Phase → ℕ → Phase
first_anew Unstarted a = Unstarted
first_anew (Head i) a = Head a
first_anew (Keep i) a = Keep a
first_anew (Skip l p) a = Skip a p
first_anew (Stopped e) a = Stopped (record { number = a; place = e.place })

-- a phase goes on by a piece with its first value anew, or nothing changes
abbrev pub GoesOn : Option ℕ → Phase → List ℕ → List ℕ → List ℕ → List ℕ → List ℕ → Type 0
GoesOn (Some a) p head kept piece head' kept' = (c : Course) (total n : ℕ) → Goes p (first_anew p a) c total n head kept piece head' kept'
GoesOn None p head kept piece head' kept' = (head' ≡ head) × (kept' ≡ kept)

-- what a piece that ends in the middle changes, and that the rest of the memory stays as it was: of a box that passes by as many bytes fewer are left, and
-- none is kept; of a gathered box, of which its header and more are there, they are kept in the buffer; of a header's first 8 beside it
abbrev pub CountsAside : Option ℕ → Phase → List ℕ → List ℕ → List ℕ → List ℕ → List ℕ → Type 0
CountsAside None p head kept piece head' kept' = Unit {0}
CountsAside (Some a) Unstarted head kept piece head' kept' = Unit {0}
CountsAside (Some a) (Head i) head kept piece head' kept' =
    (i + length piece < 8) × (a ≡ i + length piece) × (head' ≡ paste head i piece (length piece)) × (kept' ≡ kept)
CountsAside (Some a) (Keep i) head kept piece head' kept' =
    (open_box kept i ≡ true) × (length piece < size_of kept 0 - i) × (a ≡ i + length piece) × (kept' ≡ paste kept i piece (length piece)) × (head' ≡ head)
CountsAside (Some a) (Skip l p) head kept piece head' kept' =
    (length piece < l) × (a ≡ l - length piece) × (head' ≡ head) × (kept' ≡ kept)
CountsAside (Some a) (Stopped e) head kept piece head' kept' = Unit {0}
