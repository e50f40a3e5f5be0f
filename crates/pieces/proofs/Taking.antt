-- Laws of one step: bytes that pass by, bytes that are counted alone, and bytes that are held in a buffer.
use mathlib.Core.Path.{◌≡◌, refl, sym, ap, ap₂, ◌∙◌}
use mathlib.Core.Bool.{Bool, true, false}
use mathlib.Core.List.{List, ◌++◌, append_assoc}
use Prim.Native.Nat.{ℕ, ◌+◌, ◌-◌, ◌≤◌, ◌<◌, min}
use native.Mathlib.Omega.{arith}
use lib.ListN.{length, take, drop, length-append, take-append-drop}
use lib.Seq.{paste, take-length, length-take-le, take-paste, drop-length, drop-append-le, drop-append-add}
use lib.Dec.{ltb}
use borrow.Author.Tests.{lt-ltb, le-ltb, le-leb, ltb-true, ltb-false}
use Rattle.numbers.specs.Numbers.{when}
use Rattle.rules.specs.Rules.{Course, breaks}
use Rattle.pieces.specs.Rest.{rest}
use Rattle.rules.specs.declared.Misframed.{Misframed}
use Rattle.pieces.specs.State.{sound_phase, sound_course, sound, kept_moof, comes_by, open_header}
use Rattle.pieces.specs.Steps.{passing_of, Follows, TakesSome}
use Rattle.pieces.specs.declared.state.Phase.{Phase}
use Rattle.pieces.specs.declared.state.Phase.TheVariants.{Head, Skip, Stopped}
use Rattle.pieces.specs.declared.state.Progress.{Progress}
use Rattle.pieces.proofs.Soundness.{phase_says}

-- a state by its parts
abbrev pub state_by : Phase → Course → ℕ → ℕ → Progress
state_by p c total n = record { phase = p; total = total; boxes = n; course = c }

-- it is sound where phase and course are
pub sound_by : (p : Phase) (c : Course) (total n : ℕ) (head kept : List ℕ) → sound_phase p c total head kept ≡ true → sound_course c n kept ≡ true
    → sound (state_by p c total n) head kept ≡ true
unfolding sound
sound_by p c total n head kept e f = rw (e, f)

-- between two boxes any phase is sound
pub sound_between : (c : Course) (total : ℕ) (head kept : List ℕ) → sound_phase (Head 0) c total head kept ≡ true
unfolding sound_phase open_header
sound_between c total head kept = rw (le-leb 0 total (omega arith))

-- two tests that say the same
same_test : (a b c d : ℕ) → (a < b → c < d) → (b ≤ a → d ≤ c) → ltb a b ≡ ltb c d
same_test a b c d f g = by (ltb a b) refl
  where
    by : (t : Bool) → ltb a b ≡ t → t ≡ ltb c d
    by true e = sym (lt-ltb c d (f (ltb-true a b e)))
    by false e = sym (le-ltb c d (g (ltb-false a b e)))

-- bytes that follow a state, some of which are taken
module _ {c : Course} {total n : ℕ} {head kept more : List ℕ} where
  -- all of them are counted alone
  pub counted_alone : {e : Misframed} → Follows (Stopped e) c total n head kept more
      → TakesSome (Stopped e) c total n head kept more
      (record { state = state_by (Stopped e) c (total + length more) n; used = length more }) head kept
  unfolding comes_by sound_phase
  counted_alone f =
      record {
        some = f.some;
        within = omega arith;
        bytes = f.bytes;
        room = f.room;
        sum = refl;
        sound = sound_by _ c _ n head kept refl f.course;
        same = λ t. refl;
      }

  -- all of them pass by, and more are left
  pub passed_some : {l p : ℕ} → Follows (Skip l p) c total n head kept more → length more < l
      → TakesSome (Skip l p) c total n head kept more
      (record { state = state_by (Skip (l - length more) p) c (total + length more) n; used = length more }) head kept
  unfolding comes_by sound_phase
  passed_some {l} {p} f h =
      record {
        some = f.some;
        within = omega arith;
        bytes = f.bytes;
        room = f.room;
        sum = refl;
        sound = sound_by _ c _ n head kept (lt-ltb 0 (l - length more) (omega arith)) f.course;
        same = same;
      }
    where
      w : List ℕ
      w = kept_moof c kept

      same : (t : List ℕ)
          → when (ltb (length (more ++ t)) l) (breaks 4 0 p) (rest w c (total + l) n (drop l (more ++ t)))
          ≡ when (ltb (length (drop (length more) more ++ t)) (l - length more)) (breaks 4 0 p)
          (rest w c (total + length more + (l - length more)) n (drop (l - length more) (drop (length more) more ++ t)))
      same t =
          let left : l ≡ length more + (l - length more) = omega arith in
          let sum : total + l ≡ total + length more + (l - length more) = omega arith in
          let test : ltb (length (more ++ t)) l ≡ ltb (length t) (l - length more) =
          same_test (length (more ++ t)) l (length t) (l - length more) (λ x. omega (arith, x, length-append more t)) (λ x. omega (arith, x, length-append more t)) in
          let rest_of : drop l (more ++ t) ≡ drop (l - length more) t =
          ap (λ (i : ℕ). drop i (more ++ t)) left ∙ drop-append-add more t (l - length more) in
          rw (drop-length more, test, rest_of, sum)

  -- the last of the box pass by
  pub passed_last : {l p : ℕ} → Follows (Skip l p) c total n head kept more → l ≤ length more
      → TakesSome (Skip l p) c total n head kept more (record { state = state_by (Head 0) c (total + l) n; used = l }) head kept
  unfolding comes_by
  passed_last {l} {p} f h =
      record {
        some = phase_says (Skip l p) c total head kept f.phase;
        within = h;
        bytes = f.bytes;
        room = f.room;
        sum = refl;
        sound = sound_by (Head 0) c (total + l) n head kept (sound_between c (total + l) head kept) f.course;
        same = same;
      }
    where
      w : List ℕ
      w = kept_moof c kept

      same : (t : List ℕ)
          → when (ltb (length (more ++ t)) l) (breaks 4 0 p) (rest w c (total + l) n (drop l (more ++ t)))
          ≡ rest w c (total + l - 0) n (drop l more ++ t)
      same t =
          let sum : total + l - 0 ≡ total + l = omega arith in
          rw (le-ltb (length (more ++ t)) l (omega (arith, length-append more t)), drop-append-le l more t, sum)

  -- as many pass by as are there and are left
  pub passed : {l p used : ℕ} → Follows (Skip l p) c total n head kept more → used ≡ min (length more) l
      → TakesSome (Skip l p) c total n head kept more (record { state = state_by (passing_of (l - used) p) c (total + used) n; used = used }) head kept
  passed {l} {p} {used} f u = by (ltb 0 (l - used)) refl
    where
      by : (t : Bool) → ltb 0 (l - used) ≡ t
          → TakesSome (Skip l p) c total n head kept more
          (record { state = state_by (when t (Skip (l - used) p) (Head 0)) c (total + used) n; used = used }) head kept
      by true e =
          let all : used ≡ length more = omega (arith, u, ltb-true 0 (l - used) e) in
          rw all (passed_some f (omega (arith, u, ltb-true 0 (l - used) e)))
      by false e =
          let all : used ≡ l = omega (arith, u, ltb-false 0 (l - used) e) in
          rw all (passed_last f (omega (arith, u, ltb-false 0 (l - used) e)))

-- the first n bytes of some, copied to a place of a buffer
pub copied : (to : List ℕ) (at : ℕ) (from : List ℕ) (n : ℕ) {r : List ℕ} → r ≡ paste to at (take n from) (length (take n from)) → n ≤ length from → r ≡ paste to at from n
copied to at from n e l =
    e
    ∙ ap (λ (a : List ℕ). take at to ++ a ++ drop (at + length (take n from)) to) (take-length (take n from))
    ∙ ap (λ (i : ℕ). take at to ++ take n from ++ drop (at + i) to) (length-take-le n from l)

-- bytes that are copied into a buffer behind those that it holds
module _ (buf more : List ℕ) (i used : ℕ) (l : i ≤ length buf) (m : used ≤ length more) where
  -- what it holds then, and what follows
  pub moved_in : (t : List ℕ) → take (i + used) (paste buf i more used) ++ (drop used more ++ t) ≡ take i buf ++ (more ++ t)
  moved_in t =
      ap (λ (a : List ℕ). a ++ (drop used more ++ t)) (take-paste buf i more used l m)
      ∙ append_assoc (take i buf) (take used more) (drop used more ++ t)
      ∙ ap (λ (a : List ℕ). take i buf ++ a) (sym (append_assoc (take used more) (drop used more) t))
      ∙ ap (λ (a : List ℕ). take i buf ++ (a ++ t)) (take-append-drop used more)

  -- what the rest comes to stays what it is
  pub held_on : (w : List ℕ) (c : Course) (total n : ℕ) (t : List ℕ)
      → rest w c (total - i) n (take i buf ++ (more ++ t))
      ≡ rest w c (total + used - (i + used)) n (take (i + used) (paste buf i more used) ++ (drop used more ++ t))
  held_on w c total n t =
      let at : total - i ≡ total + used - (i + used) = omega arith in
      ap₂ (λ (a : ℕ) (b : List ℕ). rest w c a n b) at (sym (moved_in t))
