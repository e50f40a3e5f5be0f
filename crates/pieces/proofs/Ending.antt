-- What a track comes to where no byte follows a sound state: by the phase, the boxes run out or the first framing refusal is there.
use mathlib.Core.Path.{◌≡◌, refl, sym, ap, ◌∙◌}
use mathlib.Core.Bool.{Bool, true, false}
use mathlib.Core.Logic.{inl, inr}
use mathlib.Core.List.{List, [], ◌++◌}
use Prim.Native.Nat.{ℕ, ◌+◌, ◌-◌, ◌<◌, ◌≤◌}
use native.Mathlib.Nat.{add-zero}
use native.Mathlib.Omega.{arith}
use lib.ListN.{length, take, length-append}
use lib.Seq.{length-take-le}
use lib.Dec.{leb, ltb, eqb}
use borrow.Author.Tests.{ltb-false, lt-ltb, le-ltb, ne_eqb}
use Rattle.numbers.specs.Numbers.{be4, be8, when}
use Rattle.numbers.proofs.Bounds.{reads4}
use Rattle.rules.specs.Limits.{byte_limit, box_limit, gather_limit}
use Rattle.rules.specs.Boxes.{sized, look_at, look, head_of, size_of, kind_of}
use Rattle.rules.specs.Course.{course_end}
use Rattle.rules.specs.Pieces.{gathered, large}
use Rattle.rules.specs.Rules.{Course, breaks}
use Rattle.rules.specs.declared.Look.TheVariants.{Short, Beyond}
use Rattle.rules.specs.declared.Misframed.{Misframed}
use Rattle.pieces.specs.State.{kept_moof, comes_by, comes_to, no_verdict}
use Rattle.pieces.specs.Steps.{Sound}
use Rattle.pieces.specs.declared.state.Phase.{Phase}
use Rattle.pieces.specs.declared.state.Phase.TheVariants.{Unstarted, Head, Keep, Skip, Stopped}
use Rattle.pieces.specs.declared.state.Progress.{Progress}
use Rattle.pieces.proofs.Unfolding.{rest_by_lem, rest_end}
use Rattle.pieces.proofs.Whole.{front_reads, size_whole, look_whole}
use Rattle.pieces.proofs.Soundness.{PartLength, PartHeader, PartBox, SoundPhase, sound_says}

-- rule 1 comes before all
pub ends_over : (st : Progress) (head kept : List ℕ) → byte_limit < st.total → breaks 1 0 0 ≡ comes_to st head kept []
unfolding comes_to
ends_over st head kept h = rw (add-zero st.total, lt-ltb byte_limit st.total h)

-- so many bytes of a header, and not the whole: a short one
short_part : (n : ℕ) (head : List ℕ) → length head ≡ 16 → 0 < n → PartLength head n → look (take n head ++ []) 0 ≡ Short
unfolding look look_at
short_part n head e p s = rw (left s, ne_eqb n 0 (λ x. let f : ⊥ = omega arith in f)) (by (ltb n 8) refl s)
  where
    within : PartLength head n → n ≤ 16
    within (inl h) = omega arith
    within (inr h) = omega arith

    left : PartLength head n → length (take n head ++ []) - 0 ≡ n
    left s =
        let w : n ≤ 16 = within s in
        omega (arith, length-append (take n head) [], length-take-le n head (omega arith))

    by : (t : Bool) → ltb n 8 ≡ t → PartLength head n
        → when t Short
        (when (eqb (be4 (take n head ++ []) 0) 1)
        (when (ltb n 16) Short (sized n 16 (be8 (take n head ++ []) (0 + 8)) (be4 (take n head ++ []) (0 + 4))))
        (sized n 8 (be4 (take n head ++ []) 0) (be4 (take n head ++ []) (0 + 4))))
        ≡ Short
    by true y s = refl
    by false y (inl h) = let f : ⊥ = omega (arith, ltb-false n 8 y) in absurd f
    by false y (inr h) =
        let l : 8 ≤ n = ltb-false n 8 y in
        let u : n ≤ 16 = omega arith in
        let one : be4 (take n head ++ []) 0 ≡ 1 = front_reads reads4 head [] n 0 (omega arith) (omega arith) ∙ h.1 in
        rw (one, lt-ltb n 16 h.0)

module _ (c : Course) (total n b : ℕ) (head kept : List ℕ) where
  -- between two boxes: the boxes have run out
  pub ends_between : n ≡ 0 → course_end total c ≡ comes_by (Head n) c total b head kept []
  unfolding comes_by
  ends_between e =
      let same : total - n ≡ total = omega arith in
      rw (same, e) (sym (rest_end (kept_moof c kept) c total b))

  -- in the middle of a header: 2, or 5
  pub ends_header : length head ≡ 16 → (n ≡ 0 → ⊥) → PartHeader n total head
      → breaks (when (leb box_limit b) 5 2) 0 (total - n) ≡ comes_by (Head n) c total b head kept []
  unfolding comes_by
  ends_header e p h =
      sym (rest_by_lem (kept_moof c kept) c (total - n) b (take n head ++ []) Short (short_part n head e (omega arith) h.short))

  -- in the middle of a gathered box: 4, or 5
  pub ends_box : length kept ≡ gather_limit → PartBox n total c kept
      → breaks (when (leb box_limit b) 5 4) 0 (total - n) ≡ comes_by (Keep n) c total b head kept []
  unfolding comes_by large sized
  ends_box e h =
      sym (rest_by_lem [] c (total - n) b (take n kept ++ []) Beyond beyond
      ∙ ap (λ (t : Bool). breaks (when (leb box_limit b) 5 (when t 29 4)) 0 (total - n)) small)
    where
      there : n ≤ length kept
      there = omega (arith, h.short, h.small)

      beyond : look (take n kept ++ []) 0 ≡ Beyond
      beyond =
          look_whole kept [] n there h.head
          ∙ rw (le-ltb (size_of kept 0) (head_of kept 0) (omega (arith, h.head, h.short)), add-zero n, lt-ltb n (size_of kept 0) h.short)

      never : (t : Bool) → when t false false ≡ false
      never true = refl
      never false = refl

      small : large (kind_of (take n kept ++ []) 0) (size_of (take n kept ++ []) 0) ≡ false
      small =
          rw (size_whole kept [] n there h.head, le-ltb gather_limit (size_of kept 0) h.small)
          (never (gathered (kind_of (take n kept ++ []) 0)))

  -- in the middle of a box that passes by
  pub ends_passing : (l p : ℕ) → 0 < l → breaks 4 0 p ≡ comes_by (Skip l p) c total b head kept []
  unfolding comes_by
  ends_passing l p h = rw (lt-ltb 0 l h)

-- a sound state at which no byte follows
module _ (st : Progress) (head kept : List ℕ) (s : Sound st head kept) where
  -- what its phase says
  says : (p : Phase) → st.phase ≡ p → SoundPhase p st.course st.total head kept
  says p e = rw e at (sound_says st head kept s.sound).0

  -- so many bytes of a header, or of a box, are no more than all
  pub header_within : (n : ℕ) → st.phase ≡ Head n → n ≤ st.total
  header_within n e = (says (Head n) e).within

  pub box_within : (n : ℕ) → st.phase ≡ Keep n → n ≤ st.total
  box_within n e = (says (Keep n) e).within

  -- where rule 1 holds the phase decides
  module _ (l : st.total ≤ byte_limit) where
    by_phase : (p : Phase) → st.phase ≡ p → comes_by p st.course st.total st.boxes head kept [] ≡ comes_to st head kept []
    unfolding comes_to
    by_phase p e = rw (add-zero st.total, le-ltb byte_limit st.total l, e)

    pub ended_between : (n : ℕ) → st.phase ≡ Head n → n ≡ 0 → course_end st.total st.course ≡ comes_to st head kept []
    ended_between n e z = ends_between st.course st.total n st.boxes head kept z ∙ by_phase (Head n) e

    pub ended_header : (n : ℕ) → st.phase ≡ Head n → (n ≡ 0 → ⊥)
        → breaks (when (leb box_limit st.boxes) 5 2) 0 (st.total - n) ≡ comes_to st head kept []
    ended_header n e z =
        ends_header st.course st.total n st.boxes head kept s.bytes z (says (Head n) e) ∙ by_phase (Head n) e

    pub ended_box : (n : ℕ) → st.phase ≡ Keep n → breaks (when (leb box_limit st.boxes) 5 4) 0 (st.total - n) ≡ comes_to st head kept []
    ended_box n e = ends_box st.course st.total n st.boxes head kept s.room (says (Keep n) e) ∙ by_phase (Keep n) e

    pub ended_passing : (k p : ℕ) → st.phase ≡ Skip k p → breaks 4 0 p ≡ comes_to st head kept []
    ended_passing k p e = ends_passing st.course st.total 0 st.boxes head kept k p (says (Skip k p) e) ∙ by_phase (Skip k p) e

    pub ended_stopped : (b : Misframed) → st.phase ≡ Stopped b → breaks b.number 0 b.place ≡ comes_to st head kept []
    unfolding comes_by
    ended_stopped b e = by_phase (Stopped b) e

    pub ended_unstarted : st.phase ≡ Unstarted → breaks no_verdict 0 0 ≡ comes_to st head kept []
    unfolding comes_by
    ended_unstarted e = by_phase Unstarted e
