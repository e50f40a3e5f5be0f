-- What the walk along the top level knows of a course, and of a track that is accepted.
use Rattle.std.specs.Prelude.{ℕ, ◌+◌, ◌≤◌, ◌≡◌, List, Bool, true, false, ◌⊎◌, length, eqb, None, Ok, Err}
use Rattle.rules.specs.Kinds.{ftyp, moov}
use Rattle.rules.specs.Limits.{byte_limit}
use Rattle.rules.specs.Boxes.{Box}
use Rattle.rules.specs.Track.{ruling}
use Rattle.rules.specs.Order.{ordered, step6}
use Rattle.rules.specs.Course.{stage_of, and_box, facts_of}
use Rattle.rules.specs.Rules.{Course, Judged}
use Rattle.rules.specs.declared.Reached.{Reached}
use Rattle.rules.specs.declared.Reached.TheVariants.{Start, Typed, Headed, Halved, Paired}
use Rattle.rules.specs.declared.Refusal.{Refusal}
use Rattle.rules.specs.declared.Spot.{Spot}
use Rattle.rules.specs.declared.TrackFacts.{TrackFacts}
use Rattle.boxes.specs.Stands.{WholeBox}
use Rattle.header.specs.declared.HeaderFault.{HeaderFault}
use Rattle.header.specs.declared.HeaderFault.TheVariants.{FtypBody, NoBrand, OfMoov}

-- the box that stands at a spot, of a type
abbrev pub box_of : Spot → ℕ → Box
box_of b k = record { at = b.at; inner = b.head; size = b.size; kind = k }

-- a box of a type stops a course: the order speaks of it, or it may not stand there
abbrev pub Stops : Course → ℕ → Type 0
Stops (Ok c) k = (ordered k ≡ true) ⊎ (step6 (stage_of c) k ≡ None)
Stops (Err p) k = Unit {0}

-- a box of a type is passed over: wherever it stands, it leaves a course as it is; or it stops it
abbrev pub SaysPasses : Bool → Course → ℕ → Type 0
SaysPasses true c k = (own w : List ℕ) (b : Spot) → and_box own w c (box_of b k) ≡ c
SaysPasses false c k = Stops c k

-- what is known of a track is what its bytes say, and every rule holds
pub record Known (s : List ℕ) (f : TrackFacts) : Type 0 where
  pub holds : ruling s ≡ Ok tt
  pub facts : f ≡ facts_of s

-- fragments so far are no more than the bytes so far
abbrev pub FewFragments : Judged → ℕ → Type 0
FewFragments (Ok f) at = f.fragments ≤ at
FewFragments (Err e) at = Unit {0}

-- a course with the bytes of the `moof` that waits: its fragments are few, and the bytes are that box
abbrev pub CourseFits : List ℕ → Course → Type 0
CourseFits w (Ok Start) = Unit {0}
CourseFits w (Ok (Typed f)) = Unit {0}
CourseFits w (Ok (Headed j)) = FewFragments j byte_limit
CourseFits w (Ok (Halved j m)) = FewFragments j byte_limit × WholeBox w m.head × (length w ≤ byte_limit) × (m.at ≤ byte_limit)
CourseFits w (Ok (Paired j)) = FewFragments j byte_limit
CourseFits w (Err p) = Unit {0}

-- a box of a type, and its own bytes: those of `ftyp` and of `moov` are held whole, of another's none need be
pub record OwnHeld (own : List ℕ) (b : Spot) (k : ℕ) : Type 0 where
  pub place : b.at ≤ byte_limit
  pub low : 8 ≤ b.head
  pub high : b.head ≤ 16
  pub holds : b.head ≤ b.size
  pub small : length own ≤ byte_limit
  pub of_ftyp_lem : eqb k ftyp ≡ true → WholeBox own b.head
  pub of_moov : eqb k moov ≡ true → WholeBox own b.head

-- the box that a stage awaits, and its own bytes: `ftyp` and `moov` are held whole
abbrev pub Brings : List ℕ → Reached → Spot → Type 0
Brings own Start b = WholeBox own b.head
Brings own (Typed f) b = WholeBox own b.head × (length own ≤ byte_limit) × (b.at ≤ byte_limit)
Brings own (Headed j) b = Unit {0}
Brings own (Halved j m) b = (b.head ≤ 16) × (b.head ≤ b.size)
Brings own (Paired j) b = Unit {0}

-- a header's fault in `moov` is at a place up to n
abbrev pub FaultUpTo : HeaderFault → ℕ → Type 0
FaultUpTo FtypBody n = Unit {0}
FaultUpTo NoBrand n = Unit {0}
FaultUpTo (OfMoov e) n = e.place ≤ n

-- the refusal of a header whose `moov` stands at a place
abbrev pub refusal_of : HeaderFault → ℕ → Refusal
refusal_of FtypBody at = record { number = 8; track = 0; place = 0 }
refusal_of NoBrand at = record { number = 9; track = 0; place = 0 }
refusal_of (OfMoov e) at = record { number = e.number; track = e.track; place = at + e.place }

-- where the `moof` that waits before a place begins; the place itself where none waits
abbrev pub waits_from : Course → ℕ → ℕ
waits_from (Ok Start) at = at
waits_from (Ok (Typed f)) at = at
waits_from (Ok (Headed j)) at = at
waits_from (Ok (Halved j m)) at = m.at
waits_from (Ok (Paired j)) at = at
waits_from (Err p) at = at
