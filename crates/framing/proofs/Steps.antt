-- Laws of a step along a run: at the end, at the limit, at a broken header, past a leaf and past a container.
use mathlib.Core.Path.{◌≡◌, refl, sym, ap, ◌∙◌, subst, subst⁻¹}
use mathlib.Core.List.{List, []}
use mathlib.Core.Bool.{Bool, true, false}
use Prim.Native.Nat.{ℕ, ◌+◌, ◌-◌, ◌<◌, ◌≤◌}
use native.Mathlib.Omega.{arith}
use lib.ListN.{length, take, drop, length-take, length-drop}
use lib.Dec.{leb, ltb}
use borrow.Author.Tests.{le-leb, lt-leb, leb-true, leb-false, ltb-true, ltb-false}
use Rattle.numbers.specs.Numbers.{when}
use Rattle.rules.specs.Limits.{box_limit}
use Rattle.rules.specs.Boxes.{part, look, inside, within, forest, boxes, Forest, end, bad, node}
use Rattle.rules.specs.Framing.{rule5, framing, on_framing}
use Rattle.rules.proofs.Forest.{never, look_nothing, nothing_left, look_found, FoundBox, forest_by, forest_nothing, forest_short, forest_small, forest_beyond, forest_box, boxes_nothing}
use Rattle.rules.specs.declared.Path.{Path}
use Rattle.rules.specs.Rules.{Framing, unframed}
use Rattle.rules.specs.declared.Misframed.{Misframed}
use Rattle.std.specs.Prelude.{Option, None, Some, Result, Ok, Err, IsErrAnd}
use Rattle.rules.specs.declared.Look.{Look}
use Rattle.rules.specs.declared.Look.TheVariants.{Nothing, Short, Small, Beyond, Good}
use Rattle.framing.specs.declared.Past.{Past}
use Rattle.framing.specs.Steps.{Step, past_header, Read}

-- what `?` passes up
pub passed_up : {A E : Type 0} {e : E} (r : Result A E) → IsErrAnd r (λ y. y ≡ e) → r ≡ Err e
passed_up (Ok x) d = absurd d
passed_up (Err y) d = ap Err d

-- what a header that was read tells
pub told : {s : List ℕ} {at : ℕ} {l : Look} {h z k : ℕ} → l ≡ look s at → l ≡ Good h z k → FoundBox s at h z k
told {s} {at} {l} {h} {z} {k} e g = look_found s at h z k (sym e ∙ g)

-- the part of a slice that is a framed box's body
abbrev pub body_at : List ℕ → ℕ → ℕ → ℕ → List ℕ
body_at s at h z = take (at + z - (at + h)) (drop (at + h) s)

pub body_length : {s : List ℕ} {at h z k : ℕ} → FoundBox s at h z k → length (body_at s at h z) ≡ z - h
body_length {s} {at} {h} {z} f = simp (length-take, length-drop) (omega (arith, f))

-- a box of a run, what is inside it and what follows it
abbrev pub box_at : Path → List ℕ → ℕ → ℕ → ℕ → ℕ → Forest → Forest
box_at path s at h z k i = node (record { at = at; inner = h; size = z; kind = k }) i (forest path s (at + z))

-- the forest where a header and its type were read: of a leaf, and of a container
module _ (path : Path) (s : List ℕ) (at : ℕ) {h z k : ℕ} {l : Look} {i : Option Path} (e : l ≡ look s at) (g : l ≡ Good h z k) (w : i ≡ inside path k) where
  by_inside : (j : Option Path) → i ≡ j → forest path s at ≡ box_at path s at h z k (within (λ q t. forest q t 0) j (part s (at + h) (z - h)))
  by_inside j m =
      forest_box path s at h z k (sym e ∙ g)
      ∙ ap (λ x. box_at path s at h z k (within (λ q t. forest q t 0) x (part s (at + h) (z - h)))) (sym w ∙ m)

  pub leaf : i ≡ None → forest path s at ≡ box_at path s at h z k end
  leaf = by_inside None

  pub container : {q : Path} → i ≡ Some q → forest path s at ≡ box_at path s at h z k (forest q (body_at s at h z) 0)
  container {q} m =
      let n : z - h ≡ at + z - (at + h) = omega (arith, told e g) in
      by_inside (Some q) m ∙ ap (λ x. box_at path s at h z k (forest q (take x (drop (at + h) s)) 0)) n

-- a step whose variant is known
pub known : {r q : Step} (s : List ℕ) (at : ℕ) (path : Path) (base n : ℕ) → r ≡ q → Read r s at path base n → Read q s at path base n
known s at path base n e h = subst (λ (x : Step). Read x s at path base n) e h

module _ (path : Path) (s : List ℕ) (at base n : ℕ) where
  -- no byte is left
  none : look s at ≡ Nothing → (framing (forest path s at) base n ≡ Ok n) × (boxes s at ≡ [])
  unfolding framing
  none e = (ap (λ f. framing f base n) (forest_nothing path s at e), boxes_nothing s at e)

  pub at_end : length s ≤ at → (framing (forest path s at) base n ≡ Ok n) × (boxes s at ≡ [])
  at_end h = none (look_nothing s at h)

  -- 5 is tried first where bytes remain
  pub at_limit : at < length s → box_limit ≤ n → framing (forest path s at) base n ≡ unframed 5 (base + at)
  unfolding framing rule5
  at_limit h m = by (look s at) refl
    where
      full : leb box_limit n ≡ true
      full = le-leb box_limit n m

      by : (l : Look) → look s at ≡ l → framing (forest path s at) base n ≡ unframed 5 (base + at)
      by Nothing e = let f : ⊥ = omega (arith, nothing_left s at e) in absurd f
      by Short e = ap (λ f. framing f base n) (forest_by path s at Short e) ∙ simp full
      by Small e = ap (λ f. framing f base n) (forest_by path s at Small e) ∙ simp full
      by Beyond e = ap (λ f. framing f base n) (forest_by path s at Beyond e) ∙ simp full
      by (Good x z k) e = ap (λ f. framing f base n) (forest_by path s at (Good x z k) e) ∙ simp full

  -- rule 5 holds below the limit
  below : n < box_limit → (p : ℕ) (r : Framing) → rule5 n p r ≡ r
  unfolding rule5
  below h p r = simp (lt-leb box_limit n h)

  -- a broken header, with its number
  at_bad : (k : ℕ) → n < box_limit → forest path s at ≡ bad k at → framing (forest path s at) base n ≡ unframed k (base + at)
  unfolding framing
  at_bad k h e = ap (λ f. framing f base n) e ∙ below h (base + at) (unframed k (base + at))

  -- a box, by how what is inside it is framed
  at_box :
      (h z k : ℕ) (i : Forest) → n < box_limit → forest path s at ≡ box_at path s at h z k i →
      framing (forest path s at) base n
      ≡ on_framing (framing i (base + at + h) (n + 1)) (λ m. framing (forest path s (at + z)) base m) (λ k p. unframed k p)
  unfolding framing
  at_box h z k i b e = ap (λ f. framing f base n) e ∙ below b (base + at) _

  -- bytes are left where something stands
  some_left : {l : Look} → look s at ≡ l → (l ≡ Nothing → ⊥) → at < length s
  some_left e o = by (ltb at (length s)) refl
    where
      by : (b : Bool) → ltb at (length s) ≡ b → at < length s
      by true q = ltb-true at (length s) q
      by false q = absurd (o (sym e ∙ look_nothing s at (ltb-false at (length s) q)))

  -- 5 is refused where it is met, and bytes are left
  pub limit_met : at < length s → box_limit ≤ n → Err (record { number = 5; place = base + at }) ≡ past_header (look s at) (base + at) n
  limit_met h m = by (look s at) refl
    where
      full : (r : Step) → Err (record { number = 5; place = base + at }) ≡ when (leb box_limit n) (Err (record { number = 5; place = base + at })) r
      full r = rw (le-leb box_limit n m) refl

      by : (l : Look) → look s at ≡ l → Err (record { number = 5; place = base + at }) ≡ past_header l (base + at) n
      by Nothing e = let f : ⊥ = omega (arith, nothing_left s at e) in absurd f
      by Short e = full _
      by Small e = full _
      by Beyond e = full _
      by (Good x z k) e = full _

  -- what a step past a header says: past a box, what stands there, and that the limit is not met; else what any step says
  abbrev pub HeaderRead : Step → Type 0
  HeaderRead (Ok (Some b)) = (look s at ≡ Good b.head b.size b.kind) × (b.boxes ≡ n + 1) × (n < box_limit)
  HeaderRead (Ok None) = (framing (forest path s at) base n ≡ Ok n) × (boxes s at ≡ [])
  HeaderRead (Err e) = framing (forest path s at) base n ≡ Err e

  by_limit : (x y : Step) → (box_limit ≤ n → HeaderRead x) → (n < box_limit → HeaderRead y) → HeaderRead (when (leb box_limit n) x y)
  by_limit x y f g = by (leb box_limit n) refl
    where
      by : (b : Bool) → leb box_limit n ≡ b → HeaderRead (when b x y)
      by true q = f (leb-true box_limit n q)
      by false q = g (leb-false box_limit n q)

  pub by_header : {r : Step} → r ≡ past_header (look s at) (base + at) n → HeaderRead r
  by_header e = subst⁻¹ HeaderRead e (by (look s at) refl)
    where
      by : (l : Look) → look s at ≡ l → HeaderRead (past_header l (base + at) n)
      by Nothing e = none e
      by Short e = by_limit _ _ (at_limit (some_left e (λ q. never (cc)))) (λ h. at_bad 2 h (forest_short path s at e))
      by Small e = by_limit _ _ (at_limit (some_left e (λ q. never (cc)))) (λ h. at_bad 3 h (forest_small path s at e))
      by Beyond e = by_limit _ _ (at_limit (some_left e (λ q. never (cc)))) (λ h. at_bad 4 h (forest_beyond path s at e))
      by (Good h z k) e = by_limit _ _ (at_limit (some_left e (λ q. never (cc)))) (λ m. (e, refl, m))

  -- the same of a step that went well, by what it has
  pub by_past : {o q : Option Past} → o ≡ q → Ok o ≡ past_header (look s at) (base + at) n → HeaderRead (Ok q)
  by_past m e = by_header (sym (ap Ok m) ∙ e)

  -- where it is passed up it says the same
  pub reads_up : {x : Misframed} → framing (forest path s at) base n ≡ Err x → (r : Step) → IsErrAnd r (λ y. y ≡ x) → Read r s at path base n
  reads_up e r d = rw (passed_up r d) e

  module _ {b : Past} {i : Option Path} (g : HeaderRead (Ok (Some b))) (w : i ≡ inside path b.kind) where
    -- past a leaf
    pub reads_leaf : i ≡ None → Read (Ok (Some b)) s at path base n
    unfolding framing
    reads_leaf o =
        (at_box b.head b.size b.kind end g.2 (leaf path s at refl g.0 w o) ∙ ap (framing (forest path s (at + b.size)) base) (sym g.1), g.0)

    -- past a container, or where its run is broken
    module _ {q : Path} {f : Framing} (o : i ≡ Some q) (a : f ≡ framing (forest q (body_at s at b.head b.size) 0) (base + at + b.head) b.boxes) where
      on_run :
          {x : Framing} → f ≡ x →
          framing (forest path s at) base n ≡ on_framing x (λ m. framing (forest path s (at + b.size)) base m) (λ k p. unframed k p)
      on_run c =
          at_box b.head b.size b.kind (forest q (body_at s at b.head b.size) 0) g.2 (container path s at refl g.0 w o)
          ∙ ap (λ (x : Framing). on_framing x (λ m. framing (forest path s (at + b.size)) base m) (λ k p. unframed k p))
          (ap (framing (forest q (body_at s at b.head b.size) 0) (base + at + b.head)) (sym g.1) ∙ sym a ∙ c)

      pub reads_container :
          {m : ℕ} → f ≡ Ok m → Read (Ok (Some (record { head = b.head; size = b.size; kind = b.kind; boxes = m }))) s at path base n
      reads_container c = (on_run c, g.0)

      pub reads_inner : {x : Misframed} → f ≡ Err x → (r : Step) → IsErrAnd r (λ y. y ≡ x) → Read r s at path base n
      reads_inner c = reads_up (on_run c)
