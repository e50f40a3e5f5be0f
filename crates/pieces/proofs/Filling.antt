-- Bytes that are held: of a header that is not whole, and of a box that is gathered.
use mathlib.Core.Path.{◌≡◌, refl, sym, ap, ◌∙◌}
use mathlib.Core.Bool.{Bool, true, false, true≢false, ◌&&◌, ◌||◌}
use mathlib.Core.Logic.{◌⊎◌, inl, inr, ⊎_elim}
use mathlib.Core.List.{List, [], ◌++◌, append_assoc}
use Prim.Native.Nat.{ℕ, ◌+◌, ◌-◌, ◌≤◌, ◌<◌, min}
use native.Mathlib.Omega.{arith}
use lib.ListN.{length, take, drop}
use lib.Seq.{paste, length-paste, length-take-le}
use lib.Dec.{ltb, eqb}
use borrow.Author.Tests.{lt-ltb, le-leb, ltb-true, ltb-false, eq-eqb}
use Rattle.numbers.specs.Numbers.{be4, when}
use Rattle.numbers.proofs.Bounds.{reads4}
use Rattle.rules.specs.Limits.{gather_limit}
use Rattle.rules.specs.Boxes.{head_of, size_of}
use Rattle.rules.specs.Rules.{Course}
use Rattle.pieces.specs.Rest.{rest}
use Rattle.pieces.specs.State.{sound_phase, open_header, kept_moof, comes_by}
use Rattle.pieces.specs.Steps.{header_end, MeansAnyway, MeansHeaded, Gathered, after_gathered, Whole, Follows, TakesSome}
use Rattle.pieces.specs.declared.state.Phase.TheVariants.{Head, Keep}
use Rattle.pieces.specs.declared.state.Progress.{Progress}
use Rattle.pieces.proofs.Soundness.{PartHeader, PartBox, phase_says, says_phase}
use Rattle.pieces.proofs.Whole.{front_reads, head_whole, size_whole}
use Rattle.pieces.proofs.Taking.{state_by, sound_by, held_on}
use Rattle.pieces.proofs.Heading.{alone_sound}

-- what is taken of a number of bytes that are wanted
pub record Used (wanted there used : ℕ) : Type 0 where
  pub wants : used ≤ wanted
  pub within : used ≤ there
  pub most : (used ≡ wanted) ⊎ (used ≡ there)

pub used_of : {wanted there used : ℕ} → used ≡ min there wanted → Used wanted there used
used_of {wanted} {there} {used} e = record { wants = omega (arith, e); within = omega (arith, e); most = by (ltb there wanted) refl }
  where
    by : (t : Bool) → ltb there wanted ≡ t → (used ≡ wanted) ⊎ (used ≡ there)
    by true q = inr (omega (arith, e, ltb-true there wanted q))
    by false q = inl (omega (arith, e, ltb-false there wanted q))

-- of some that are wanted and some that are there, some are taken
used_some : {wanted there used : ℕ} → Used wanted there used → 0 < wanted → 0 < there → 0 < used
used_some u w t = ⊎_elim (λ e. omega (arith, e)) (λ e. omega (arith, e)) u.most

-- a buffer with bytes copied behind its first i begins with these
copied_front : (buf more : List ℕ) (i used : ℕ) → paste buf i more used ≡ take i buf ++ (take used more ++ drop (i + used) buf)
copied_front buf more i used = append_assoc (take i buf) (take used more) (drop (i + used) buf)

-- a header that is not open: neither below 8 bytes, nor below 16 where 16 are said
open_not : (head : List ℕ) (n : ℕ) → open_header head n ≡ false → (8 ≤ n) × ((n < 16) → eqb (be4 head 0) 1 ≡ false)
unfolding open_header
open_not head n = by (ltb n 8) refl (ltb n 16) refl (eqb (be4 head 0) 1) refl
  where
    by : (a : Bool) → ltb n 8 ≡ a → (b : Bool) → ltb n 16 ≡ b → (d : Bool) → eqb (be4 head 0) 1 ≡ d → (a || (b && d)) ≡ false
        → (8 ≤ n) × ((n < 16) → eqb (be4 head 0) 1 ≡ false)
    by true p b q d r e = absurd (true≢false e)
    by false p true q true r e = absurd (true≢false e)
    by false p true q false r e = (ltb-false n 8 p, λ _. r)
    by false p false q d r e = (ltb-false n 8 p, λ l. let z : ⊥ = omega (arith, l, ltb-false n 16 q) in absurd z)

-- a header ends behind the bytes that are there, and within 16
pub header_ends : {c : Course} {total n i : ℕ} {head kept more : List ℕ} → Follows (Head i) c total n head kept more
    → (i < header_end i) × (header_end i ≤ 16)
header_ends {c} {total} {n} {i} {head} {kept} f =
    ⊎_elim (λ l. rw (lt-ltb i 8 l) (l, omega arith)) (λ l. by (ltb i 8) refl l.0) (phase_says (Head i) c total head kept f.phase).short
  where
    by : (t : Bool) → ltb i 8 ≡ t → i < 16 → (i < when t 8 16) × (when t 8 16 ≤ 16)
    by true e l = (ltb-true i 8 e, omega arith)
    by false e l = (l, omega arith)

-- a box ends behind the bytes that are there
pub box_ends : {c : Course} {total n i : ℕ} {head kept more : List ℕ} → Follows (Keep i) c total n head kept more → i < size_of kept 0
box_ends {c} {total} {n} {i} {head} {kept} f = (phase_says (Keep i) c total head kept f.phase).short

-- some bytes of a header
module _ {c : Course} {total n i used : ℕ} {head kept more : List ℕ} (f : Follows (Head i) c total n head kept more)
    (u : Used (header_end i - i) (length more) used) where
  said : PartHeader i total head
  said = phase_says (Head i) c total head kept f.phase

  ends : (i < header_end i) × (header_end i ≤ 16)
  ends = header_ends f

  abbrev held : List ℕ
  held = paste head i more used

  fits : i + used ≤ length head
  fits = omega (arith, ends, u.wants, f.bytes)

  pub held_bytes : length held ≡ 16
  held_bytes = length-paste head i more used fits u.within ∙ f.bytes

  pub held_copies : i + length (take used more) ≤ length head
  held_copies = omega (arith, fits, length-take-le used more u.within)

  -- it is not whole yet
  pub header_on : open_header held (i + used) ≡ true
      → TakesSome (Head i) c total n head kept more (record { state = state_by (Head (i + used)) c (total + used) n; used = used }) held kept
  unfolding comes_by sound_phase
  header_on e =
      record {
        some = used_some u (omega (arith, ends)) f.some;
        within = u.within;
        bytes = held_bytes;
        room = f.room;
        sum = refl;
        sound = sound_by (Head (i + used)) c (total + used) n held kept (rw (le-leb (i + used) (total + used) (omega (arith, said.within)), e)) f.course;
        same = λ t. held_on head more i used (omega (arith, fits)) u.within (kept_moof c kept) c total n t;
      }

  -- it is whole
  short_same : 8 ≤ i → be4 held 0 ≡ be4 head 0
  short_same l =
      ap (λ (a : List ℕ). be4 a 0) (copied_front head more i used)
      ∙ front_reads reads4 head (take used more ++ drop (i + used) head) i 0 (omega (arith, fits)) (omega (arith, l))

  length_said : open_header held (i + used) ≡ false → i + used ≡ head_of held 0
  unfolding head_of
  length_said e = by (ltb i 8) refl
    where
      o : (8 ≤ i + used) × ((i + used < 16) → eqb (be4 held 0) 1 ≡ false)
      o = open_not held (i + used) e

      long : be4 head 0 ≡ 1 → 8 ≤ i → i + used ≡ when (eqb (be4 held 0) 1) 16 8
      long q l =
          let b : eqb (be4 held 0) 1 ≡ true = eq-eqb (be4 held 0) 1 (short_same l ∙ q) in
          rw b (by_limit (ltb (i + used) 16) refl b)
        where
          by_limit : (t : Bool) → ltb (i + used) 16 ≡ t → eqb (be4 held 0) 1 ≡ true → i + used ≡ 16
          by_limit true p b = absurd (true≢false (sym b ∙ o.1 (ltb-true (i + used) 16 p)))
          by_limit false p b = omega (arith, ltb-false (i + used) 16 p, fits, f.bytes)

      by : (t : Bool) → ltb i 8 ≡ t → i + used ≡ when (eqb (be4 held 0) 1) 16 8
      by true p =
          let w : used ≤ 8 - i = rw p at u.wants in
          let b : eqb (be4 held 0) 1 ≡ false = o.1 (omega (arith, w, ltb-true i 8 p)) in
          rw b (omega (arith, w, o.0, ltb-true i 8 p))
      by false p =
          ⊎_elim (λ l. let z : ⊥ = omega (arith, l, ltb-false i 8 p) in absurd z) (λ l. long l.1 (ltb-false i 8 p)) said.short

  pub header_whole : open_header held (i + used) ≡ false → Whole c (total + used) n (i + used) held kept
  header_whole e =
      record {
        ready = record { limit = omega (arith, f.limit, u.within); room = f.room; course = f.course };
        bytes = held_bytes;
        said = length_said e;
        there = omega (arith, said.within);
      }

  pub header_taken : {r : Progress} {kept' : List ℕ} → MeansHeaded c (total + used) n (i + used) r held kept kept' → length kept' ≡ length kept
      → TakesSome (Head i) c total n head kept more (record { state = r; used = used }) held kept'
  unfolding comes_by
  header_taken a l =
      record {
        some = used_some u (omega (arith, ends)) f.some;
        within = u.within;
        bytes = held_bytes;
        room = l ∙ f.room;
        sum = a.sum;
        sound = a.sound;
        same = λ t. held_on head more i used (omega (arith, fits)) u.within (kept_moof c kept) c total n t ∙ a.same (drop used more ++ t);
      }

-- some bytes of a box that is gathered
module _ {c : Course} {total n i used : ℕ} {head kept more : List ℕ} (f : Follows (Keep i) c total n head kept more)
    (u : Used (size_of kept 0 - i) (length more) used) where
  told : PartBox i total c kept
  told = phase_says (Keep i) c total head kept f.phase

  abbrev filled : List ℕ
  filled = paste kept i more used

  fills : i + used ≤ length kept
  fills = omega (arith, told.short, told.small, u.wants, f.room)

  pub filled_copies : i + length (take used more) ≤ length kept
  filled_copies = omega (arith, fills, length-take-le used more u.within)

  filled_room : length filled ≡ gather_limit
  filled_room = length-paste kept i more used fills u.within ∙ f.room

  -- its header is the same
  filled_head : head_of filled 0 ≡ head_of kept 0
  filled_head =
      ap (λ (a : List ℕ). head_of a 0) (copied_front kept more i used)
      ∙ head_whole kept (take used more ++ drop (i + used) kept) i (omega (arith, fills)) told.head

  filled_size : size_of filled 0 ≡ size_of kept 0
  filled_size =
      ap (λ (a : List ℕ). size_of a 0) (copied_front kept more i used)
      ∙ size_whole kept (take used more ++ drop (i + used) kept) i (omega (arith, fills)) told.head

  -- it is not whole yet
  pub box_on_lem : i + used < size_of kept 0
      → TakesSome (Keep i) c total n head kept more (record { state = state_by (Keep (i + used)) c (total + used) n; used = used }) head filled
  unfolding comes_by
  box_on_lem l =
      record {
        some = used_some u (omega (arith, told.short)) f.some;
        within = u.within;
        bytes = f.bytes;
        room = filled_room;
        sum = refl;
        sound =
            sound_by (Keep (i + used)) c (total + used) n head filled
            (says_phase (Keep (i + used)) c (total + used) head filled
            (record {
              within = omega (arith, told.within);
              head = omega (arith, filled_head, told.head);
              short = omega (arith, filled_size, l);
              small = omega (arith, filled_size, told.small);
              alone = told.alone;
            }))
            (alone_sound c n kept filled told.alone f.course);
        same = λ t. held_on kept more i used (omega (arith, fills)) u.within [] c total n t;
      }

  -- it is whole: no more are taken than to its end
  box_reached : size_of kept 0 ≤ i + used → i + used ≡ size_of kept 0
  box_reached b = omega (arith, b, u.wants, told.short)

  pub box_whole : size_of kept 0 ≤ i + used → Gathered c (total + used) n (size_of kept 0) filled
  box_whole b = let e = box_reached b in
      record {
        ready =
            record {
              limit = omega (arith, f.limit, u.within);
              room = filled_room;
              course = alone_sound c n kept filled told.alone f.course;
            };
        said = sym filled_size;
        holds = omega (arith, filled_head, told.head, told.short);
        small = told.small;
        there = omega (arith, e, told.within);
        alone = told.alone;
      }

  pub box_taken : size_of kept 0 ≤ i + used → {r : Progress} → MeansAnyway (after_gathered c (total + used) n (size_of kept 0) filled) (total + used) r filled
      → TakesSome (Keep i) c total n head kept more (record { state = r; used = used }) head filled
  unfolding comes_by
  box_taken b a = let e = box_reached b in
      record {
        some = used_some u (omega (arith, told.short)) f.some;
        within = u.within;
        bytes = f.bytes;
        room = filled_room;
        sum = (a head).sum;
        sound = (a head).sound;
        same = λ t.
            held_on kept more i used (omega (arith, fills)) u.within [] c total n t
            ∙ ap (λ (z : ℕ). rest [] c (total + used - z) n (take z filled ++ (drop used more ++ t))) e
            ∙ (a head).same (drop used more ++ t);
      }
