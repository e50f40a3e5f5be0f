-- A piece that ends in the middle of what a state is in the middle of: its bytes are kept or counted, and what follows comes to the same.
use mathlib.Core.Path.{◌≡◌, refl, sym, ap, ◌∙◌}
use mathlib.Core.Bool.{Bool, true, false, ◌&&◌}
use mathlib.Core.List.{List, [], ◌++◌, append_assoc}
use Prim.Native.Nat.{ℕ, ◌+◌, ◌-◌, ◌<◌, ◌≤◌}
use native.Mathlib.Omega.{arith}
use lib.ListN.{length, take, drop, get_or, length-append}
use lib.Seq.{paste, take-paste, take-length, drop-append-add}
use lib.Dec.{leb, ltb, eqb}
use borrow.Author.Tests.{ltb-true, ltb-false, leb-true, leb-false, lt-ltb, le-ltb, le-leb, lt-leb}
use Rattle.numbers.specs.Numbers.{when}
use Rattle.rules.specs.Limits.{gather_limit}
use Rattle.rules.specs.Boxes.{head_of, size_of}
use Rattle.rules.specs.Rules.{Course, breaks}
use Rattle.std.specs.Prelude.{Ok, Err, Some}
use Rattle.rules.specs.declared.Reached.TheVariants.{Start, Typed, Headed, Halved, Paired}
use Rattle.std.proofs.lemmas.Bool.{and_parts}
use Rattle.pieces.specs.Rest.{rest}
use Rattle.pieces.specs.State.{phase_of, state_of, moved_on, sound_course, halved, open_header, open_box, sound_phase, sound}
use Rattle.pieces.specs.State.{kept_moof, comes_by, comes_to, answer_of, unstarted}
use Rattle.pieces.specs.Form.{resume, FeedsFrom, QuickAside, Amid}
use Rattle.pieces.specs.Steps.{Goes, first_anew, CountsAside}
use Rattle.pieces.specs.declared.state.Phase.{Phase}
use Rattle.pieces.specs.declared.state.Phase.TheVariants.{Unstarted, Head, Keep, Skip, Stopped}
use Rattle.pieces.specs.declared.state.Progress.{Progress}
use Rattle.pieces.proofs.Whole.{head_whole, size_whole}

-- a number more on both sides changes no comparison
leb_both : (a b n : ℕ) → leb (a + n) (b + n) ≡ leb a b
leb_both a b n = by (leb a b) refl
  where
    by : (t : Bool) → leb a b ≡ t → leb (a + n) (b + n) ≡ t
    by true e = le-leb (a + n) (b + n) (omega (arith, leb-true a b e))
    by false e = lt-leb (a + n) (b + n) (omega (arith, leb-false a b e))

-- a number taken from one side, or added to the other
ltb_less : (a b n : ℕ) → n < b → ltb (n + a) b ≡ ltb a (b - n)
ltb_less a b n h = by (ltb a (b - n)) refl
  where
    by : (t : Bool) → ltb a (b - n) ≡ t → ltb (n + a) b ≡ t
    by true e = lt-ltb (n + a) b (omega (arith, ltb-true a (b - n) e))
    by false e = le-ltb (n + a) b (omega (arith, ltb-false a (b - n) e))

-- the bytes of a buffer up to a place, with a piece copied there
fronted : (d : List ℕ) (a : ℕ) (piece t : List ℕ) → a ≤ length d
    → take a d ++ (piece ++ t) ≡ take (a + length piece) (paste d a piece (length piece)) ++ t
fronted d a piece t h =
    sym (append_assoc (take a d) piece t)
    ∙ ap (λ (l : List ℕ). take a d ++ l ++ t) (sym (take-length piece))
    ∙ ap (λ (l : List ℕ). l ++ t) (sym (take-paste d a piece (length piece) h (omega arith)))

-- what a box says of which so many bytes are there, and not all
pub open_says : (kept : List ℕ) (a : ℕ) → open_box kept a ≡ true → (head_of kept 0 ≤ a) × (a < size_of kept 0) × (size_of kept 0 ≤ gather_limit)
unfolding open_box
open_says kept a o =
    let f = leb (head_of kept 0) a && ltb a (size_of kept 0) in (
      leb-true _ _ (and_parts _ _ (and_parts f _ o).0).0,
      ltb-true _ _ (and_parts (leb (head_of kept 0) a) _ (and_parts f _ o).0).1,
      leb-true _ _ (and_parts f _ o).1,
    )

module _ (c : Course) (total n : ℕ) (head kept piece : List ℕ) where
  -- a box that passes by, and does not end
  pub passes_on : (a p : ℕ) → length piece < a → Goes (Skip a p) (Skip (a - length piece) p) c total n head kept piece head kept
  unfolding sound_phase comes_by
  passes_on a p h =
      record {
        sound = rw (lt-ltb 0 a (omega arith), lt-ltb 0 (a - length piece) (omega arith));
        same = λ t. on t;
      }
    where
      on : (t : List ℕ)
          → when (ltb (length (piece ++ t)) a) (breaks 4 0 p) (rest (kept_moof c kept) c (total + a) n (drop a (piece ++ t)))
          ≡ when (ltb (length t) (a - length piece)) (breaks 4 0 p)
          (rest (kept_moof c kept) c (total + length piece + (a - length piece)) n (drop (a - length piece) t))
      on t =
          let whole : a ≡ length piece + (a - length piece) = omega arith in
          let cut : drop a (piece ++ t) ≡ drop (a - length piece) t =
          ap (λ (i : ℕ). drop i (piece ++ t)) whole ∙ drop-append-add piece t (a - length piece)
          in
          let place : total + length piece + (a - length piece) ≡ total + a = omega arith in
          rw (length-append piece t, ltb_less (length t) a (length piece) h, cut, place)

  -- a header of which fewer than 8 bytes are there
  pub heads_on : (a : ℕ) → length head ≡ 16 → a + length piece < 8
      → Goes (Head a) (Head (a + length piece)) c total n head kept piece (paste head a piece (length piece)) kept
  unfolding sound_phase open_header comes_by
  heads_on a e h =
      record {
        sound = rw (lt-ltb a 8 (omega arith), lt-ltb (a + length piece) 8 h, leb_both a total (length piece));
        same = λ t. on t;
      }
    where
      on : (t : List ℕ)
          → rest (kept_moof c kept) c (total - a) n (take a head ++ (piece ++ t))
          ≡ rest (kept_moof c kept) c (total + length piece - (a + length piece)) n (take (a + length piece) (paste head a piece (length piece)) ++ t)
      on t =
          let place : total + length piece - (a + length piece) ≡ total - a = omega arith in
          rw place (ap (λ (l : List ℕ). rest (kept_moof c kept) c (total - a) n l) (fronted head a piece t (omega arith)))

  -- a box of which its header and more are there, and not all
  module _ (a : ℕ) (e : length kept ≡ gather_limit) (o : open_box kept a ≡ true) (h : length piece < size_of kept 0 - a) where
    within : a ≤ length kept
    within = omega (arith, (open_says kept a o).1, (open_says kept a o).2)

    parts : paste kept a piece (length piece) ≡ take a kept ++ (take (length piece) piece ++ drop (a + length piece) kept)
    parts = append_assoc (take a kept) (take (length piece) piece) (drop (a + length piece) kept)

    head_same : head_of (paste kept a piece (length piece)) 0 ≡ head_of kept 0
    head_same = ap (λ (l : List ℕ). head_of l 0) parts ∙ head_whole kept _ a within (open_says kept a o).0

    size_same : size_of (paste kept a piece (length piece)) 0 ≡ size_of kept 0
    size_same = ap (λ (l : List ℕ). size_of l 0) parts ∙ size_whole kept _ a within (open_says kept a o).0

    -- it stays so with a piece that is shorter than what is left of it
    open_after : open_box (paste kept a piece (length piece)) (a + length piece) ≡ true
    unfolding open_box
    open_after =
        let s = open_says kept a o in
        rw (
          head_same,
          size_same,
          le-leb (head_of kept 0) (a + length piece) (omega (arith, s.0)),
          lt-ltb (a + length piece) (size_of kept 0) (omega arith),
          le-leb (size_of kept 0) gather_limit s.2,
        )

    -- and where no `moof` waits the course does not ask for the buffer
    course_same : (d : Course) (t : Bool)
        → (t && true && when (halved d) false true && sound_course d n kept)
        ≡ (t && true && when (halved d) false true && sound_course d n (paste kept a piece (length piece)))
    unfolding halved sound_course
    course_same (Ok Start) t = refl
    course_same (Ok (Typed f)) t = refl
    course_same (Ok (Headed j)) t = refl
    course_same (Ok (Halved j m)) true = refl
    course_same (Ok (Halved j m)) false = refl
    course_same (Ok (Paired j)) t = refl
    course_same (Err p) t = refl

    pub keeps_on : Goes (Keep a) (Keep (a + length piece)) c total n head kept piece head (paste kept a piece (length piece))
    unfolding sound_phase comes_by
    keeps_on =
        record {
          sound = rw (o, open_after, leb_both a total (length piece)) (course_same c (leb a total));
          same = λ t. on t;
        }
      where
        on : (t : List ℕ)
            → rest [] c (total - a) n (take a kept ++ (piece ++ t))
            ≡ rest [] c (total + length piece - (a + length piece)) n (take (a + length piece) (paste kept a piece (length piece)) ++ t)
        on t =
            let place : total + length piece - (a + length piece) ≡ total - a = omega arith in
            rw place (ap (λ (l : List ℕ). rest [] c (total - a) n l) (fronted kept a piece t within))

-- a state as it is, and with a number of bytes and a phase anew
abbrev state_at : Phase → Course → ℕ → ℕ → Progress
state_at p c total n = record { phase = p; total = total; boxes = n; course = c }

-- where a phase leads to another the answer is the same
goes_on : (p p' : Phase) (c : Course) (total n : ℕ) (head kept piece head' kept' : List ℕ) → Goes p p' c total n head kept piece head' kept'
    → (t : List ℕ)
    → when (sound (state_at p c total n) head kept) (answer_of (comes_to (state_at p c total n) head kept (piece ++ t))) unstarted
    ≡ when (sound (state_at p' c (total + length piece) n) head' kept')
    (answer_of (comes_to (state_at p' c (total + length piece) n) head' kept' t)) unstarted
unfolding sound comes_to
goes_on p p' c total n head kept piece head' kept' g t =
    let sum : total + length (piece ++ t) ≡ total + length piece + length t = omega (arith, length-append piece t) in
    rw (sum, g.sound, g.same t)

-- the state that numbers are, and as it is moved on, by their phases
before_move : (ns : List ℕ) (p : Phase) → phase_of (get_or ns 0 0) (get_or ns 1 0) (get_or ns 2 0) ≡ p
    → state_of ns ≡ state_at p (state_of ns).course (get_or ns 3 0) (state_of ns).boxes
unfolding state_of
before_move ns p e = rw e

after_move : (ns : List ℕ) (a total sum : ℕ) (p : Phase) → phase_of (get_or ns 0 0) a (get_or ns 2 0) ≡ p → total ≡ sum
    → moved_on ns a total ≡ state_at p (state_of ns).course sum (state_of ns).boxes
unfolding moved_on
after_move ns a total sum p e s = rw (e, s)

-- a phase by its numbers with the first value anew
phase_anew : (t x a b : ℕ) → phase_of t a b ≡ first_anew (phase_of t x b) a
unfolding phase_of
phase_anew t x a b = by (eqb t 1) (eqb t 2) (eqb t 3) (eqb t 4)
  where
    by : (h k s o : Bool) →
        when h (Head a) (when k (Keep a) (when s (Skip a b) (when o (Stopped (record { number = a; place = b })) Unstarted)))
        ≡ first_anew (when h (Head x) (when k (Keep x) (when s (Skip x b) (when o (Stopped (record { number = x; place = b })) Unstarted)))) a
    by true k s o = refl
    by false true s o = refl
    by false false true o = refl
    by false false false true = refl
    by false false false false = refl

-- numbers that are moved on, where their phase goes on with its first value anew
pub goes_feeds : (ns ns' head kept piece head' kept' : List ℕ) (a total : ℕ) → state_of ns' ≡ moved_on ns a total → total ≡ get_or ns 3 0 + length piece
    → ((c : Course) (total n : ℕ) →
    Goes (phase_of (get_or ns 0 0) (get_or ns 1 0) (get_or ns 2 0)) (first_anew (phase_of (get_or ns 0 0) (get_or ns 1 0) (get_or ns 2 0)) a) c total n head kept piece head' kept')
    → FeedsFrom ns head kept piece ns' head' kept'
unfolding resume
goes_feeds ns ns' head kept piece head' kept' a total moved s g t =
    let p = phase_of (get_or ns 0 0) (get_or ns 1 0) (get_or ns 2 0) in
    let after : state_of ns' ≡ state_at (first_anew p a) (state_of ns).course (get_or ns 3 0 + length piece) (state_of ns).boxes =
    moved ∙ after_move ns a total (get_or ns 3 0 + length piece) (first_anew p a) (phase_anew (get_or ns 0 0) (get_or ns 1 0) a (get_or ns 2 0)) s
    in
    by p (state_of ns) (state_of ns') (before_move ns p refl) after (g (state_of ns).course (get_or ns 3 0) (state_of ns).boxes)
  where
    by : (p : Phase) (st st' : Progress) → st ≡ state_at p (state_of ns).course (get_or ns 3 0) (state_of ns).boxes
        → st' ≡ state_at (first_anew p a) (state_of ns).course (get_or ns 3 0 + length piece) (state_of ns).boxes
        → Goes p (first_anew p a) (state_of ns).course (get_or ns 3 0) (state_of ns).boxes head kept piece head' kept'
        → when (sound st head kept) (answer_of (comes_to st head kept (piece ++ t))) unstarted
        ≡ when (sound st' head' kept') (answer_of (comes_to st' head' kept' t)) unstarted
    by p st st' u u' g =
        rw (u, u') (goes_on p (first_anew p a) (state_of ns).course (get_or ns 3 0) (state_of ns).boxes head kept piece head' kept' g t)

-- the same by the phase's number
module _ (ns ns' piece : List ℕ) (a total : ℕ) (moved : state_of ns' ≡ moved_on ns a total) where
  -- a box passes by
  pub passed_feeds : (head kept : List ℕ) → Amid 3 ns piece total → length piece < get_or ns 1 0 → a ≡ get_or ns 1 0 - length piece
      → FeedsFrom ns head kept piece ns' head kept
  unfolding phase_of
  passed_feeds head kept m h e =
      goes_feeds ns ns' head kept piece head kept a total moved m.sum
      (λ c t n. rw (m.phase, e) (passes_on c t n head kept piece (get_or ns 1 0) (get_or ns 2 0) h))

  -- a header's first bytes
  pub headed_feeds : (head kept head' : List ℕ) → Amid 1 ns piece total → length head ≡ 16 → get_or ns 1 0 + length piece < 8
      → a ≡ get_or ns 1 0 + length piece → head' ≡ paste head (get_or ns 1 0) piece (length piece) → FeedsFrom ns head kept piece ns' head' kept
  unfolding phase_of
  headed_feeds head kept head' m l h e w =
      goes_feeds ns ns' head kept piece head' kept a total moved m.sum
      (λ c t n. rw (m.phase, e, w) (heads_on c t n head kept piece (get_or ns 1 0) l h))

  -- a gathered box
  pub kept_feeds : (head kept kept' : List ℕ) → Amid 2 ns piece total → length kept ≡ gather_limit → open_box kept (get_or ns 1 0) ≡ true
      → length piece < size_of kept 0 - get_or ns 1 0 → a ≡ get_or ns 1 0 + length piece
      → kept' ≡ paste kept (get_or ns 1 0) piece (length piece) → FeedsFrom ns head kept piece ns' head kept'
  unfolding phase_of
  kept_feeds head kept kept' m l o h e w =
      goes_feeds ns ns' head kept piece head kept' a total moved m.sum
      (λ c t n. rw (m.phase, e, w) (keeps_on c t n head kept piece (get_or ns 1 0) l o h))

-- numbers that are moved on, where the piece changes no more than its phase lets it
pub quick_aside : (ns ns' head kept piece head' kept' : List ℕ) (a total : ℕ) → state_of ns' ≡ moved_on ns a total → total ≡ get_or ns 3 0 + length piece
    → length head ≡ 16 → length kept ≡ gather_limit
    → CountsAside (Some a) (phase_of (get_or ns 0 0) (get_or ns 1 0) (get_or ns 2 0)) head kept piece head' kept'
    → QuickAside true ns head kept piece ns' head' kept'
unfolding phase_of
quick_aside ns ns' head kept piece head' kept' a total moved s lh lk g = (
  λ t.
      let k = rw t at g in
      (λ h d. passed_feeds ns ns' piece a total moved h d (record { phase = t; sum = s }) k.0 k.1, k.2, k.3),
  λ t.
      let k = rw t at g in
      (λ h. kept_feeds ns ns' piece a total moved h kept kept' (record { phase = t; sum = s }) lk k.0 k.1 k.2 k.3, k.4),
  λ t.
      let k = rw t at g in
      (λ d. headed_feeds ns ns' piece a total moved head d head' (record { phase = t; sum = s }) lh k.0 k.1 k.2, k.3),
)
