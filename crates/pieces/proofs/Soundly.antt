-- A sound course stays sound after a box that is gathered and after one that passes by, and it fits what the check of a box asks.
use mathlib.Core.Path.{◌≡◌, refl, sym, ap, ◌∙◌}
use mathlib.Core.Bool.{Bool, true, false, true≢false}
use mathlib.Core.List.{List, [], append-nil}
use Prim.Native.Nat.{ℕ, ◌+◌, ◌-◌, ◌≤◌}
use native.Mathlib.Omega.{arith}
use lib.ListN.{length, take}
use lib.Seq.{length-take-le}
use lib.Dec.{eqb}
use borrow.Author.Tests.{le-ltb}
use Rattle.numbers.specs.Numbers.{when}
use Rattle.rules.specs.Kinds.{mdat}
use Rattle.rules.specs.Limits.{byte_limit, gather_limit}
use Rattle.rules.specs.Rules.{◌then◌, moved, Course, Judged, Rule}
use Rattle.rules.specs.Boxes.{Box, head_of, size_of}
use Rattle.rules.specs.Header.{header_rules}
use Rattle.rules.specs.Chunk.{shape, timing}
use Rattle.rules.specs.Order.{ordered, awaits, step6, on_stepped}
use Rattle.rules.specs.Course.{judged_by, opened_facts, opened, grown, joined, spot_of, brought, and_box}
use Rattle.rules.specs.Pieces.{gathered, large}
use Rattle.std.specs.Prelude.{Option, None, Some, Ok, Err}
use Rattle.rules.specs.declared.Reached.{Reached}
use Rattle.rules.specs.declared.Reached.TheVariants.{Start, Typed, Headed, Halved, Paired}
use Rattle.rules.specs.declared.Spot.{Spot}
use Rattle.rules.specs.declared.Stage.{Stage}
use Rattle.rules.specs.declared.Stage.TheVariants as stage
use Rattle.boxes.specs.Stands.{WholeBox}
use Rattle.rules.proofs.OnePass.{grown_few}
use Rattle.track.specs.Course.{FewFragments, CourseFits}
use Rattle.pieces.specs.State.{halved, kept_moof}
use Rattle.pieces.specs.Steps.{waits_in}
use Rattle.pieces.proofs.Soundness.{Few, FrontBox, SoundCourse}
use Rattle.pieces.proofs.Whole.{head_length, head_whole, size_whole}
use Rattle.pieces.proofs.Courses.{NoneOf, by_step, mdat_ordered}

-- a box of at most 32,768 bytes is never too large
pub small_size : (k z : ℕ) → z ≤ gather_limit → large k z ≡ false
unfolding large
small_size k z h = rw (le-ltb gather_limit z h) (by (gathered k))
  where
    by : (t : Bool) → when t false false ≡ false
    by true = refl
    by false = refl

-- fragments stay few
few_later : (j : Judged) (n m : ℕ) → n ≤ m → Few j n → Few j m
few_later (Ok f) n m l h = omega arith
few_later (Err e) n m l h = tt

-- a header brings none
few_opened : (f : Option Bool) (at : ℕ) (m : List ℕ) (n : ℕ) → Few (opened f at m) n
unfolding opened opened_facts judged_by
few_opened f at m n = by (header_rules at f m)
  where
    by : (r : Rule) → Few (judged_by r (opened_facts at m)) n
    by (Ok u) = omega arith
    by (Err e) = tt

-- a chunk brings one more at most
few_joined : (j : Judged) (x : ℕ) (m : List ℕ) (h p n : ℕ) → Few j n → Few (joined j x m h p) (n + 1)
unfolding joined judged_by
few_joined (Err e) x m h p n l = tt
few_joined (Ok f) x m h p n l =
    by (moved x (shape m f.header.id) then moved x (timing m f.header.defaults h p f.end))
  where
    by : (r : Rule) → Few (judged_by r (grown f m)) (n + 1)
    by (Ok u) = omega (arith, grown_few f m)
    by (Err e) = tt

-- after a box that is gathered, where none waited
pub sound_gathered : (own : List ℕ) (c : Course) (x : Box) (kept : List ℕ) (n m : ℕ) → halved c ≡ false → n ≤ m → x.at ≤ byte_limit
    → FrontBox kept (spot_of x) → SoundCourse c n kept → SoundCourse (and_box own [] c x) m kept
unfolding and_box brought halved
sound_gathered own c x kept n m e l a b s = go c e s
  where
    P : Course → Type 0
    P d = SoundCourse d m kept

    go : (c : Course) → halved c ≡ false → SoundCourse c n kept → P (and_box own [] c x)
    go (Ok Start) e s =
        by_step P (step6 stage.Start x.kind) (ordered x.kind) (brought own [] Start (spot_of x)) Start x.at tt tt tt
    go (Ok (Typed f)) e s =
        by_step P (step6 stage.Typed x.kind) (ordered x.kind) (brought own [] (Typed f) (spot_of x)) (Typed f) x.at
        (few_opened f x.at own m) tt tt
    go (Ok (Headed j)) e s =
        by_step P (step6 stage.Headed x.kind) (ordered x.kind) (brought own [] (Headed j) (spot_of x)) (Headed j) x.at
        (record { few = few_later j n m l s; near = a; box = b }) (few_later j n m l s) tt
    go (Ok (Halved j y)) e s = absurd (true≢false e)
    go (Ok (Paired j)) e s =
        by_step P (step6 stage.Paired x.kind) (ordered x.kind) (brought own [] (Paired j) (spot_of x)) (Paired j) x.at
        (record { few = few_later j n m l s; near = a; box = b }) (few_later j n m l s) tt
    go (Err p) e s = tt

-- a box that is none of the three, where a `moof` is awaited
unawaited : (P : Course → Type 0) (o : Bool) (a b : Reached) (g : Stage) (at : ℕ) → P (Ok b) → P (Err at)
    → P (on_stepped (when o None (Some g)) (λ h. Ok (when o a b)) (Err at))
unawaited P true a b g at x y = y
unawaited P false a b g at x y = x

-- after a box that passes by
pub sound_passed : (own w : List ℕ) (c : Course) (x : Box) (kept : List ℕ) (n : ℕ) → NoneOf x.kind → SoundCourse c n kept
    → SoundCourse (and_box own w c x) (n + 1) kept
unfolding and_box step6 awaits brought
sound_passed own w c x kept n g s = go c s
  where
    P : Course → Type 0
    P d = SoundCourse d (n + 1) kept

    later : (j : Judged) → Few j n → Few j (n + 1)
    later j = few_later j n (n + 1) (omega arith)

    go : (c : Course) → SoundCourse c n kept → P (and_box own w c x)
    go (Ok Start) s =
        by_step P (step6 stage.Start x.kind) (ordered x.kind) (brought own w Start (spot_of x)) Start x.at tt tt tt
    go (Ok (Typed f)) s =
        by_step P (step6 stage.Typed x.kind) (ordered x.kind) (brought own w (Typed f) (spot_of x)) (Typed f) x.at
        (few_opened f x.at own (n + 1)) tt tt
    go (Ok (Headed j)) s = rw g.no_moof (unawaited P (ordered x.kind) (Halved j (spot_of x)) (Headed j) stage.Headed x.at (later j s) tt)
    go (Ok (Halved j m)) s = by (eqb x.kind mdat) refl
      where
        by : (t : Bool) → eqb x.kind mdat ≡ t
            → P (on_stepped (when t (Some stage.Paired) None) (λ h. Ok (when (ordered x.kind) (brought own w (Halved j m) (spot_of x)) (Halved j m))) (Err x.at))
        by true e = rw (mdat_ordered x.kind e) (few_joined j m.at w x.inner (x.size - x.inner) n s.few)
        by false e = tt
    go (Ok (Paired j)) s = rw g.no_moof (unawaited P (ordered x.kind) (Halved j (spot_of x)) (Paired j) stage.Paired x.at (later j s) tt)
    go (Err p) s = tt

-- few fragments are below the byte limit
few_bytes : (j : Judged) (n : ℕ) → n ≤ byte_limit → Few j n → FewFragments j byte_limit
few_bytes (Ok f) n l h = omega arith
few_bytes (Err e) n l h = tt

-- what the check of a box asks of a course, where none waits
pub fits_alone : (w : List ℕ) (c : Course) (n : ℕ) (kept : List ℕ) → halved c ≡ false → n ≤ byte_limit → SoundCourse c n kept → CourseFits w c
unfolding halved
fits_alone w (Ok Start) n kept e l s = tt
fits_alone w (Ok (Typed f)) n kept e l s = tt
fits_alone w (Ok (Headed j)) n kept e l s = few_bytes j n l s
fits_alone w (Ok (Halved j m)) n kept e l s = absurd (true≢false e)
fits_alone w (Ok (Paired j)) n kept e l s = few_bytes j n l s
fits_alone w (Err p) n kept e l s = tt

-- the box that waits is whole
front_whole : (kept : List ℕ) (m : Spot) → length kept ≡ gather_limit → FrontBox kept m → WholeBox (take m.size kept) m.head
front_whole kept m r b =
    let l : m.size ≤ length kept = omega (arith, b.small) in
    let e : head_of kept 0 ≤ m.size = omega (arith, b.head, b.holds) in
    let z : length (take m.size kept) ≡ m.size = length-take-le m.size kept l in
    record {
      head = ap (λ (a : List ℕ). head_of a 0) (sym (append-nil (take m.size kept))) ∙ head_whole kept [] m.size l e ∙ b.head;
      size = ap (λ (a : List ℕ). size_of a 0) (sym (append-nil (take m.size kept))) ∙ size_whole kept [] m.size l e ∙ b.size ∙ sym z;
      low = omega (arith, b.head, (head_length kept 0).0);
      high = omega (arith, b.head, (head_length kept 0).1);
      holds = omega (arith, z, b.holds);
      fits = omega arith;
    }

pub fits_kept : (c : Course) (n : ℕ) (kept : List ℕ) → length kept ≡ gather_limit → n ≤ byte_limit → SoundCourse c n kept
    → CourseFits (take (waits_in c) kept) c
fits_kept (Ok Start) n kept r l s = tt
fits_kept (Ok (Typed f)) n kept r l s = tt
fits_kept (Ok (Headed j)) n kept r l s = few_bytes j n l s
fits_kept (Ok (Halved j m)) n kept r l s = (
  few_bytes j n l s.few,
  front_whole kept m r s.box,
  omega (arith, s.box.small, length-take-le m.size kept (omega (arith, s.box.small))),
  s.near,
)
fits_kept (Ok (Paired j)) n kept r l s = few_bytes j n l s
fits_kept (Err p) n kept r l s = tt

-- the bytes that wait are those in the buffer
pub waits_kept : (c : Course) (kept : List ℕ) → take (waits_in c) kept ≡ kept_moof c kept
waits_kept (Ok Start) kept = refl
waits_kept (Ok (Typed f)) kept = refl
waits_kept (Ok (Headed j)) kept = refl
waits_kept (Ok (Halved j m)) kept = refl
waits_kept (Ok (Paired j)) kept = refl
waits_kept (Err p) kept = refl

pub waits_within : (c : Course) (n : ℕ) (kept : List ℕ) → length kept ≡ gather_limit → SoundCourse c n kept → waits_in c ≤ length kept
waits_within (Ok Start) n kept r s = omega arith
waits_within (Ok (Typed f)) n kept r s = omega arith
waits_within (Ok (Headed j)) n kept r s = omega arith
waits_within (Ok (Halved j m)) n kept r s = omega (arith, s.box.small)
waits_within (Ok (Paired j)) n kept r s = omega arith
waits_within (Err p) n kept r s = omega arith
