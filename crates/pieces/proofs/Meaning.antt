-- What the states mean that come after a box that is gathered whole, and after a header that is there whole.
use mathlib.Core.Path.{◌≡◌, refl, sym, ap, subst, ◌∙◌}
use mathlib.Core.Bool.{Bool, true, false, true≢false}
use mathlib.Core.List.{List, [], ◌++◌, append-nil}
use Prim.Native.Nat.{ℕ, ◌+◌, ◌-◌, ◌≤◌, ◌<◌}
use native.Mathlib.Omega.{arith}
use lib.ListN.{length, take}
use lib.Seq.{length-take-le}
use lib.Dec.{leb, ltb}
use borrow.Author.Tests.{le-ltb, leb-false, ltb-false}
use Rattle.numbers.specs.Numbers.{when}
use Rattle.rules.specs.Limits.{box_limit}
use Rattle.rules.specs.Boxes.{sized, look, forest, boxes, head_of, size_of, kind_of}
use Rattle.rules.specs.Framing.{rule5, framing}
use Rattle.rules.specs.Course.{and_box}
use Rattle.rules.specs.Rules.{Course, Framing, unframed}
use Rattle.std.specs.Prelude.{Ok, Err}
use Rattle.rules.specs.declared.Look.TheVariants.{Good}
use Rattle.rules.specs.declared.Path.TheVariants.{Top}
use Rattle.rules.specs.declared.Misframed.{Misframed}
use Rattle.rules.specs.declared.Spot.{Spot}
use Rattle.rules.proofs.Forest.{look_found, look_nothing, never, forest_box, forest_nothing}
use Rattle.boxes.specs.Stands.{WholeBox}
use Rattle.track.specs.Course.{box_of, CourseFits, OwnHeld}
use Rattle.pieces.specs.Rest.{rest}
use Rattle.pieces.specs.State.{sound_course, sound_phase, sound, kept_moof, comes_by}
use Rattle.pieces.specs.Steps.{waits_in, stopped_at, passing_of, Means, MeansAnyway, Gathered, after_gathered, PassesBy, after_passed}
use Rattle.pieces.specs.declared.state.Phase.TheVariants.{Head, Skip}
use Rattle.pieces.proofs.Soundness.{FrontBox, SoundCourse, course_says, says_course}
use Rattle.pieces.proofs.Whole.{head_length, look_whole}
use Rattle.pieces.proofs.Courses.{ungathered}
use Rattle.pieces.proofs.Settled.{counts_up, nothing_there, settled_bad, settled_good}
use Rattle.pieces.proofs.Soundly.{small_size, sound_gathered, sound_passed, fits_alone, fits_kept, waits_kept, waits_within}
use Rattle.pieces.proofs.Taking.{state_by, sound_by, sound_between}

-- a framing refusal means itself
pub stopped_sound : (total : ℕ) (e : Misframed) (head kept : List ℕ) → sound (stopped_at total e) head kept ≡ true
unfolding sound sound_phase sound_course
stopped_sound total e head kept = refl

-- a run of one box that is framed has fewer boxes before it than the limit
under_limit : (own : List ℕ) (at n h z k m : ℕ) → look own 0 ≡ Good h z k → framing (forest Top own 0) at n ≡ Ok m → n < box_limit
unfolding framing rule5
under_limit own at n h z k m e f = by (leb box_limit n) refl _ (rw (forest_box Top own 0 h z k e) at f)
  where
    by : (t : Bool) → leb box_limit n ≡ t → (y : Framing) → when t (unframed 5 (at + 0)) y ≡ Ok m → n < box_limit
    by true q y r = never (cc)
    by false q y r = leb-false box_limit n q

-- a box that is gathered whole
module _ {c : Course} {total n size : ℕ} {kept : List ℕ} (g : Gathered c total n size kept) where
  abbrev own : List ℕ
  own = take size kept

  room : size ≤ length kept
  room = omega (arith, g.small, g.ready.room)

  pub own_length : length own ≡ size
  own_length = length-take-le size kept room

  -- it stands in the buffer
  own_look : look own 0 ≡ Good (head_of kept 0) size (kind_of kept 0)
  unfolding sized
  own_look =
      let e : look (own ++ []) 0 ≡ sized (size + 0) (head_of kept 0) (size_of kept 0) (kind_of kept 0) = look_whole kept [] size room g.holds in
      ap (λ (a : List ℕ). look a 0) (sym (append-nil own)) ∙ e
      ∙ rw (sym g.said, le-ltb size (head_of kept 0) g.holds, le-ltb (size + 0) size (omega arith))

  -- its size and its header length are those that were read
  read_size : {h z k : ℕ} → look own 0 ≡ Good h z k → (h ≡ head_of kept 0) × (z ≡ size)
  read_size e = let q = sym e ∙ own_look in (cc, cc)

  -- no byte stands there: it has some
  pub settled_nothing : {A : Type 0} → framing (forest Top own 0) (total - size) n ≡ Ok n → boxes own 0 ≡ [] → A
  settled_nothing e f =
      let z : ⊥ = omega (arith, nothing_there own (total - size) n e f, own_length, g.holds, (head_length kept 0).0) in absurd z

  -- it is refused
  pub settled_refused : {e : Misframed} → framing (forest Top own 0) (total - size) n ≡ Err e
      → MeansAnyway (after_gathered c total n size kept) total (stopped_at total e) kept
  unfolding comes_by
  settled_refused {e} f head =
      record {
        sum = refl;
        sound = stopped_sound total e head kept;
        same = λ t. settled_bad kept t c (total - size) n (head_of kept 0) size (kind_of kept 0) room own_look (small_size (kind_of kept 0) size g.small) f;
      }

  -- it is framed, and past it
  module _ (h z k m : ℕ) (f : framing (forest Top own 0) (total - size) n ≡ framing (forest Top own (0 + z)) (total - size) m) (e : look own 0 ≡ Good h z k) where
    framed_own : framing (forest Top own 0) (total - size) n ≡ Ok m
    unfolding framing
    framed_own =
        f ∙ ap (λ (a : _). framing a (total - size) m) (forest_nothing Top own (0 + z) (look_nothing own (0 + z) (omega (arith, own_length, (read_size e).1))))

    abbrev spot : Spot
    spot = record { at = total - size; head = h; size = size }

    fewer : n < box_limit
    fewer = under_limit own (total - size) n h z k m e framed_own

    -- what the check of the box asks
    pub settled_fits : CourseFits [] c
    settled_fits = fits_alone [] c n kept g.alone (omega (arith, fewer)) (course_says c n kept g.ready.course)

    whole_own : WholeBox own h
    whole_own =
        let d = look_found own 0 h z k e in
        record {
          head = d.head;
          size = d.size ∙ (read_size e).1 ∙ sym own_length;
          low = d.low;
          high = d.high;
          holds = omega (arith, d.holds, (read_size e).1, own_length);
          fits = omega arith;
        }

    pub settled_held : OwnHeld own spot k
    settled_held =
        let d = look_found own 0 h z k e in
        record {
          place = omega (arith, g.ready.limit);
          low = d.low;
          high = d.high;
          holds = omega (arith, d.holds, (read_size e).1);
          small = omega (arith, own_length, g.small);
          of_ftyp_lem = λ _. whole_own;
          of_moov = λ _. whole_own;
        }

    -- it is taken into the course
    pub settled_past : {d : Course} → d ≡ and_box own [] c (box_of spot k)
        → MeansAnyway (after_gathered c total n size kept) total (state_by (Head 0) d total m) kept
    unfolding comes_by
    settled_past {d} q head =
        rw q
        (record {
          sum = refl;
          sound = sound_by (Head 0) _ total m head kept (sound_between _ total head kept) (says_course _ m kept later);
          same = λ t.
              settled_good kept t c (total - size) n h size k room here (small_size k size g.small) g.alone framed_own
              ∙ ap (λ (a : ℕ). rest (kept_moof (and_box own [] c (box_of spot k)) kept) (and_box own [] c (box_of spot k)) a m t) back;
        })
      where
        here : look own 0 ≡ Good h size k
        here = subst (λ (a : ℕ). look own 0 ≡ Good h a k) (read_size e).1 e

        back : total - size + size ≡ total - 0
        back = omega (arith, g.there)

        front : FrontBox kept spot
        front =
            record {
              head = sym (read_size e).0;
              size = sym g.said;
              holds = omega (arith, (read_size e).0, g.holds);
              small = g.small;
            }

        later : SoundCourse (and_box own [] c (box_of spot k)) m kept
        later =
            sound_gathered own c (box_of spot k) kept n m g.alone (counts_up (forest Top own 0) (total - size) n m framed_own)
            (omega (arith, g.ready.limit)) front (course_says c n kept g.ready.course)

-- the header of a box that passes by
module _ {c : Course} {total n : ℕ} {b : Spot} {k : ℕ} {kept : List ℕ} (g : PassesBy c total n b k kept) where
  -- what the check of the box asks
  pub passed_fits : CourseFits (take (waits_in c) kept) c
  passed_fits = fits_kept c n kept g.ready.room (omega (arith, g.few)) (course_says c n kept g.ready.course)

  pub passed_waits : waits_in c ≡ length (take (waits_in c) kept)
  passed_waits = sym (length-take-le (waits_in c) kept (waits_within c n kept g.ready.room (course_says c n kept g.ready.course)))

  pub passed_held : OwnHeld [] b k
  passed_held =
      record {
        place = omega (arith, g.place, g.ready.limit);
        low = g.low;
        high = g.high;
        holds = g.holds;
        small = omega arith;
        of_ftyp_lem = λ e. absurd (true≢false (sym e ∙ (ungathered k g.kind).no_ftyp));
        of_moov = λ e. absurd (true≢false (sym e ∙ (ungathered k g.kind).no_moov));
      }

  -- it is taken into the course
  pub passed_means : {d : Course} → d ≡ and_box [] (take (waits_in c) kept) c (box_of b k)
      → MeansAnyway (after_passed c n b k kept) total (state_by (passing_of (b.size - b.head) b.at) d total (n + 1)) kept
  unfolding comes_by sound_phase
  passed_means {d} q head = by (ltb 0 (b.size - b.head)) refl
    where
      is : d ≡ and_box [] (kept_moof c kept) c (box_of b k)
      is = q ∙ ap (λ (a : List ℕ). and_box [] a c (box_of b k)) (waits_kept c kept)

      course : sound_course d (n + 1) kept ≡ true
      course =
          says_course d (n + 1) kept
          (subst (λ (a : Course). SoundCourse a (n + 1) kept) (sym is)
          (sound_passed [] (kept_moof c kept) c (box_of b k) kept n (ungathered k g.kind) (course_says c n kept g.ready.course)))

      by : (t : Bool) → ltb 0 (b.size - b.head) ≡ t
          → Means (after_passed c n b k kept) total (state_by (when t (Skip (b.size - b.head) b.at) (Head 0)) d total (n + 1)) head kept
      by true e =
          let sum : b.at + b.size ≡ total + (b.size - b.head) = omega (arith, g.place, g.holds) in
          record {
            sum = refl;
            sound = sound_by _ d total (n + 1) head kept e course;
            same = λ t. rw (← is, sum);
          }
      by false e =
          let none : b.size - b.head ≡ 0 = omega (arith, ltb-false 0 (b.size - b.head) e) in
          let sum : b.at + b.size ≡ total - 0 = omega (arith, g.place, g.holds, none) in
          record {
            sum = refl;
            sound = sound_by (Head 0) d total (n + 1) head kept (sound_between d total head kept) course;
            same = λ t. rw (← is, none, le-ltb (length t) 0 (omega arith), sum);
          }
