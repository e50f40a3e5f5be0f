-- What a sound state says, as facts: `sound` is true where they hold, and only there.
use mathlib.Core.Path.{◌≡◌, refl, ◌∙◌}
use mathlib.Core.Bool.{Bool, true, false, not, ◌&&◌, ◌||◌, false≢true, or-true}
use mathlib.Core.Logic.{◌⊎◌, inl, inr, ⊎_elim}
use mathlib.Core.List.{List}
use Prim.Native.Nat.{ℕ, ◌≤◌, ◌<◌}
use lib.Dec.{leb, ltb, eqb}
use borrow.Author.Tests.{ltb-true, leb-true, eqb-true, not-true, lt-ltb, le-leb, eq-eqb}
use Rattle.numbers.specs.Numbers.{when, be4}
use Rattle.rules.specs.Limits.{byte_limit, gather_limit}
use Rattle.rules.specs.Boxes.{head_of, size_of}
use Rattle.rules.specs.Rules.{Course, Judged}
use Rattle.std.specs.Prelude.{Ok, Err}
use Rattle.rules.specs.declared.Reached.TheVariants.{Start, Typed, Headed, Halved, Paired}
use Rattle.rules.specs.declared.Spot.{Spot}
use Rattle.std.proofs.lemmas.Bool.{and_parts, and_from}
use Rattle.pieces.specs.State.{few_fragments, kept_box, sound_course, halved, open_header, open_box, sound_phase, sound}
use Rattle.pieces.specs.declared.state.Phase.{Phase}
use Rattle.pieces.specs.declared.state.Phase.TheVariants.{Unstarted, Head, Keep, Skip, Stopped}
use Rattle.pieces.specs.declared.state.Progress.{Progress}

-- fragments are no more than the boxes so far
abbrev pub Few : Judged → ℕ → Type 0
Few (Ok f) n = f.fragments ≤ n
Few (Err e) n = Unit {0}

-- the buffer begins with the whole box of a spot
pub record FrontBox (kept : List ℕ) (m : Spot) : Type 0 where
  pub head : head_of kept 0 ≡ m.head
  pub size : size_of kept 0 ≡ m.size
  pub holds : m.head ≤ m.size
  pub small : m.size ≤ gather_limit

-- a `moof` waits in the buffer, beside its rules so far
pub record WaitsInFront (j : Judged) (m : Spot) (n : ℕ) (kept : List ℕ) : Type 0 where
  pub few : Few j n
  pub near : m.at ≤ byte_limit
  pub box : FrontBox kept m

-- what a sound course says
abbrev pub SoundCourse : Course → ℕ → List ℕ → Type 0
SoundCourse (Ok Start) n kept = Unit {0}
SoundCourse (Ok (Typed f)) n kept = Unit {0}
SoundCourse (Ok (Headed j)) n kept = Few j n
SoundCourse (Ok (Halved j m)) n kept = WaitsInFront j m n kept
SoundCourse (Ok (Paired j)) n kept = Few j n
SoundCourse (Err p) n kept = Unit {0}

-- so many bytes are not yet a whole header
abbrev pub PartLength : List ℕ → ℕ → Type 0
PartLength head n = (n < 8) ⊎ ((n < 16) × (be4 head 0 ≡ 1))

-- so many bytes of a header are there, and not the whole
pub record PartHeader (n total : ℕ) (head : List ℕ) : Type 0 where
  pub within : n ≤ total
  pub short : PartLength head n

-- so many bytes of a gathered box are there, its header whole and the box not, and no `moof` waits
pub record PartBox (n total : ℕ) (c : Course) (kept : List ℕ) : Type 0 where
  pub within : n ≤ total
  pub head : head_of kept 0 ≤ n
  pub short : n < size_of kept 0
  pub small : size_of kept 0 ≤ gather_limit
  pub alone : halved c ≡ false

-- what a sound phase says
abbrev pub SoundPhase : Phase → Course → ℕ → List ℕ → List ℕ → Type 0
SoundPhase Unstarted c total head kept = ⊥
SoundPhase (Head n) c total head kept = PartHeader n total head
SoundPhase (Keep n) c total head kept = PartBox n total c kept
SoundPhase (Skip l p) c total head kept = 0 < l
SoundPhase (Stopped e) c total head kept = Unit {0}

-- a case that turns a test round is its negation
pub unless : (b : Bool) → not b ≡ when b false true
unless true = refl
unless false = refl

-- three tests that hold together hold each
all_three : (a b c : Bool) → (a && b && c) ≡ true → (a ≡ true) × (b ≡ true) × (c ≡ true)
all_three a b c e = let h = (and_parts (a && b) c e).0 in ((and_parts a b h).0, (and_parts a b h).1, (and_parts (a && b) c e).1)

-- of two tests of which one holds, the first does or the second does
either : (a b : Bool) → (a || b) ≡ true → (a ≡ true) ⊎ (b ≡ true)
either true b e = inl refl
either false b e = inr e

-- the test of the fragments says so, and is true where it is so
few_says : (j : Judged) (n : ℕ) → few_fragments j n ≡ true → Few j n
unfolding few_fragments
few_says (Ok f) n e = leb-true _ _ e
few_says (Err q) n e = tt

says_few : (j : Judged) (n : ℕ) → Few j n → few_fragments j n ≡ true
unfolding few_fragments
says_few (Ok f) n h = le-leb _ _ h
says_few (Err e) n h = refl

-- the test of the box that waits, both ways
box_says : (kept : List ℕ) (m : Spot) → kept_box kept m ≡ true → FrontBox kept m
unfolding kept_box
box_says kept m e =
    let front = eqb (head_of kept 0) m.head && eqb (size_of kept 0) m.size && leb m.head m.size in
    let t = all_three _ _ _ (and_parts front _ e).0 in
    record {
      head = eqb-true _ _ t.0;
      size = eqb-true _ _ t.1;
      holds = leb-true _ _ t.2;
      small = leb-true _ _ (and_parts front _ e).1;
    }

says_box : (kept : List ℕ) (m : Spot) → FrontBox kept m → kept_box kept m ≡ true
unfolding kept_box
says_box kept m h = rw (eq-eqb _ _ h.head, eq-eqb _ _ h.size, le-leb _ _ h.holds, le-leb _ _ h.small)

-- the test of a course, both ways
pub course_says : (c : Course) (n : ℕ) (kept : List ℕ) → sound_course c n kept ≡ true → SoundCourse c n kept
unfolding sound_course
course_says (Ok Start) n kept e = tt
course_says (Ok (Typed f)) n kept e = tt
course_says (Ok (Headed j)) n kept e = few_says j n e
course_says (Ok (Halved j m)) n kept e =
    let t = all_three _ _ _ e in
    record { few = few_says j n t.0; near = leb-true _ _ t.1; box = box_says kept m t.2 }
course_says (Ok (Paired j)) n kept e = few_says j n e
course_says (Err p) n kept e = tt

pub says_course : (c : Course) (n : ℕ) (kept : List ℕ) → SoundCourse c n kept → sound_course c n kept ≡ true
unfolding sound_course
says_course (Ok Start) n kept h = refl
says_course (Ok (Typed f)) n kept h = refl
says_course (Ok (Headed j)) n kept h = says_few j n h
says_course (Ok (Halved j m)) n kept h = rw (says_few j n h.few, le-leb _ _ h.near, says_box kept m h.box)
says_course (Ok (Paired j)) n kept h = says_few j n h
says_course (Err p) n kept h = refl

-- the test of a header, both ways
short_says : (head : List ℕ) (n : ℕ) → open_header head n ≡ true → PartLength head n
unfolding open_header
short_says head n e =
    ⊎_elim
    (λ a. inl (ltb-true _ _ a))
    (λ b. inr (ltb-true _ _ (and_parts _ _ b).0, eqb-true _ _ (and_parts (ltb n 16) _ b).1))
    (either _ _ e)

says_short : (head : List ℕ) (n : ℕ) → PartLength head n → open_header head n ≡ true
unfolding open_header
says_short head n (inl h) = rw (lt-ltb _ _ h)
says_short head n (inr h) = rw (lt-ltb _ _ h.0, eq-eqb _ _ h.1) (or-true (ltb n 8))

-- the test of a phase, both ways
pub phase_says : (p : Phase) (c : Course) (total : ℕ) (head kept : List ℕ) → sound_phase p c total head kept ≡ true
    → SoundPhase p c total head kept
unfolding sound_phase open_box
phase_says Unstarted c total head kept e = false≢true e
phase_says (Head n) c total head kept e =
    record { within = leb-true _ _ (and_parts _ _ e).0; short = short_says head n (and_parts (leb n total) _ e).1 }
phase_says (Keep n) c total head kept e =
    let t = all_three _ _ _ e in
    let b = all_three _ _ _ t.1 in
    record {
      within = leb-true _ _ t.0;
      head = leb-true _ _ b.0;
      short = ltb-true _ _ b.1;
      small = leb-true _ _ b.2;
      alone = not-true (halved c) (unless (halved c) ∙ t.2);
    }
phase_says (Skip l p) c total head kept e = ltb-true _ _ e
phase_says (Stopped q) c total head kept e = tt

pub says_phase : (p : Phase) (c : Course) (total : ℕ) (head kept : List ℕ) → SoundPhase p c total head kept
    → sound_phase p c total head kept ≡ true
unfolding sound_phase open_box
says_phase Unstarted c total head kept h = absurd h
says_phase (Head n) c total head kept h = rw (le-leb _ _ h.within, says_short head n h.short)
says_phase (Keep n) c total head kept h =
    rw (le-leb _ _ h.within, le-leb _ _ h.head, lt-ltb _ _ h.short, le-leb _ _ h.small, h.alone)
says_phase (Skip l p) c total head kept h = lt-ltb _ _ h
says_phase (Stopped e) c total head kept h = refl

-- a sound state's phase and course say what they say
pub sound_says : (st : Progress) (head kept : List ℕ) → sound st head kept ≡ true
    → SoundPhase st.phase st.course st.total head kept × SoundCourse st.course st.boxes kept
unfolding sound
sound_says st head kept e = (
  phase_says st.phase st.course st.total head kept (and_parts _ _ e).0,
  course_says st.course st.boxes kept (and_parts (sound_phase st.phase st.course st.total head kept) _ e).1,
)

-- a state whose phase and course say so is sound
pub says_sound : (st : Progress) (head kept : List ℕ)
    → SoundPhase st.phase st.course st.total head kept × SoundCourse st.course st.boxes kept → sound st head kept ≡ true
unfolding sound
says_sound st head kept h = and_from _ _ (says_phase st.phase st.course st.total head kept h.0) (says_course st.course st.boxes kept h.1)
