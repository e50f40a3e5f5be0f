-- Laws of appending: the boxes of a slice that ends on a box, and then those of what is appended, moved to where they stand.
use mathlib.Core.Path.{◌≡◌, refl, sym, ap, ap₂, subst, ◌∙◌}
use mathlib.Core.List.{List, [], ◌∷◌, ◌++◌, map}
use Prim.Native.Nat.{ℕ, zero, suc, ◌+◌, ◌-◌, ◌≤◌}
use native.Mathlib.Omega.{arith}
use lib.ListN.{length}
use Rattle.rules.specs.Boxes.{Box, Forest, end, bad, node, part, look, inside, within, forest, tops, boxes}
use Rattle.rules.specs.declared.Path.{Path}
use Rattle.rules.specs.declared.Path.TheVariants.{Top, Flat}
use Rattle.rules.specs.declared.Look.{Look}
use Rattle.rules.specs.declared.Look.TheVariants.{Nothing, Short, Small, Beyond, Good}
use Rattle.rules.proofs.Forest.{FoundBox, look_found, look_nothing, nothing_left, forest_by, forest_nothing}
use Rattle.appending.proofs.Front.{part_front, part_behind, look_front, look_behind}

-- a box so many places on; a forest's boxes so, and what is inside them as it is
abbrev pub box_on : ℕ → Box → Box
box_on n x = record { at = n + x.at; inner = x.inner; size = x.size; kind = x.kind }

unfoldable pub forest_on : ℕ → Forest → Forest
forest_on n end = end
forest_on n (bad k p) = bad k (n + p)
forest_on n (node x i r) = node (box_on n x) i (forest_on n r)

-- a forest, and another behind it where it ends on a box
unfoldable pub joined_forest : Forest → Forest → Forest
joined_forest end g = g
joined_forest (bad k p) g = bad k p
joined_forest (node x i r) g = node x i (joined_forest r g)

-- a forest that ends on a box: no broken header among its boxes, whatever is inside them
abbrev pub Closed : Forest → Type 0
Closed end = Unit {0}
Closed (bad k p) = ⊥
Closed (node x i r) = Closed r

-- a slice whose boxes from a place on tile it to its end, and one whose top level does
abbrev pub ClosedFrom : Path → List ℕ → ℕ → Type 0
ClosedFrom p s at = Closed (forest p s at)

abbrev pub EndsOnBox : List ℕ → Type 0
EndsOnBox s = ClosedFrom Top s 0

module _ (a b : List ℕ) where
  -- behind the front, by what stands there and the forest behind that
  behind_step :
      (p : Path) (at : ℕ) →
      ((h z k : ℕ) → FoundBox b at h z k → forest p (a ++ b) (length a + (at + z)) ≡ forest_on (length a) (forest p b (at + z))) →
      (l : Look) → look b at ≡ l → forest p (a ++ b) (length a + at) ≡ forest_on (length a) (forest p b at)
  unfolding forest_on
  behind_step p at more Nothing e =
      forest_by p (a ++ b) (length a + at) Nothing (look_behind a b at ∙ e) ∙ sym (ap (forest_on (length a)) (forest_by p b at Nothing e))
  behind_step p at more Short e =
      forest_by p (a ++ b) (length a + at) Short (look_behind a b at ∙ e) ∙ sym (ap (forest_on (length a)) (forest_by p b at Short e))
  behind_step p at more Small e =
      forest_by p (a ++ b) (length a + at) Small (look_behind a b at ∙ e) ∙ sym (ap (forest_on (length a)) (forest_by p b at Small e))
  behind_step p at more Beyond e =
      forest_by p (a ++ b) (length a + at) Beyond (look_behind a b at ∙ e) ∙ sym (ap (forest_on (length a)) (forest_by p b at Beyond e))
  behind_step p at more (Good h z k) e =
      let x : Box = record { at = length a + at; inner = h; size = z; kind = k } in
      let behind-head : length a + at + h ≡ length a + (at + h) = omega arith in
      let into : part (a ++ b) (length a + at + h) (z - h) ≡ part b (at + h) (z - h) =
      ap (λ (n : ℕ). part (a ++ b) n (z - h)) behind-head ∙ part_behind a b (at + h) (z - h) in
      let on : length a + at + z ≡ length a + (at + z) = omega arith in
      let after : forest p (a ++ b) (length a + at + z) ≡ forest_on (length a) (forest p b (at + z)) =
      ap (forest p (a ++ b)) on ∙ more h z k (look_found b at h z k e) in
      forest_by p (a ++ b) (length a + at) (Good h z k) (look_behind a b at ∙ e)
      ∙ ap₂ {C = Forest} (λ (t : List ℕ) (r : Forest). node x (within (λ q t. forest q t 0) (inside p k) t) r) into after
      ∙ sym (ap (forest_on (length a)) (forest_by p b at (Good h z k) e))

  behind_left : (f : ℕ) (p : Path) (at : ℕ) → length b - at ≤ f
      → forest p (a ++ b) (length a + at) ≡ forest_on (length a) (forest p b at)
  behind_left zero p at few = behind_step p at (λ h z k d. absurd (omega (arith, d.inner))) (look b at) refl
  behind_left (suc f) p at few =
      behind_step p at (λ h z k d. behind_left f p (at + z) (omega (arith, d.low, d.holds, d.inner))) (look b at) refl

  -- the forest behind the front is that of the rest, moved
  pub forest_behind : (p : Path) (at : ℕ) → forest p (a ++ b) (length a + at) ≡ forest_on (length a) (forest p b at)
  forest_behind p at = behind_left (length b) p at (omega arith)

  -- in the front, by what stands there and the forest behind that
  front_step :
      (p : Path) (at : ℕ) → at ≤ length a →
      ((h z k : ℕ) → FoundBox a at h z k → ClosedFrom p a (at + z)
      → forest p (a ++ b) (at + z) ≡ joined_forest (forest p a (at + z)) (forest_on (length a) (forest p b 0))) →
      (l : Look) → look a at ≡ l → ClosedFrom p a at
      → forest p (a ++ b) at ≡ joined_forest (forest p a at) (forest_on (length a) (forest p b 0))
  unfolding joined_forest
  front_step p at u more Nothing e c =
      let n : at ≡ length a + 0 = omega (arith, nothing_left a at e) in
      ap (forest p (a ++ b)) n
      ∙ forest_behind p 0
      ∙ sym (ap (λ (f : Forest). joined_forest f (forest_on (length a) (forest p b 0))) (forest_by p a at Nothing e))
  front_step p at u more Short e c = absurd (subst Closed (forest_by p a at Short e) c)
  front_step p at u more Small e c = absurd (subst Closed (forest_by p a at Small e) c)
  front_step p at u more Beyond e c = absurd (subst Closed (forest_by p a at Beyond e) c)
  front_step p at u more (Good h z k) e c =
      let d = look_found a at h z k e in
      let x : Box = record { at = at; inner = h; size = z; kind = k } in
      let into = part_front a b (at + h) (z - h) (omega (arith, d.holds, d.fits)) in
      let after = more h z k d (subst Closed (forest_by p a at (Good h z k) e) c) in
      forest_by p (a ++ b) at (Good h z k) (look_front a b at h z k d)
      ∙ ap₂ {C = Forest} (λ (t : List ℕ) (r : Forest). node x (within (λ q t. forest q t 0) (inside p k) t) r) into after
      ∙ sym (ap (λ (f : Forest). joined_forest f (forest_on (length a) (forest p b 0))) (forest_by p a at (Good h z k) e))

  front_left : (f : ℕ) (p : Path) (at : ℕ) → at ≤ length a → length a - at ≤ f → ClosedFrom p a at
      → forest p (a ++ b) at ≡ joined_forest (forest p a at) (forest_on (length a) (forest p b 0))
  front_left zero p at u few = front_step p at u (λ h z k d. absurd (omega (arith, d.inner))) (look a at) refl
  front_left (suc f) p at u few =
      front_step p at u (λ h z k d. front_left f p (at + z) d.fits (omega (arith, d.low, d.holds, d.inner))) (look a at) refl

  -- the forest of the whole is that of the front, and behind it that of the rest, moved
  pub forest_append : (p : Path) (at : ℕ) → at ≤ length a → ClosedFrom p a at
      → forest p (a ++ b) at ≡ joined_forest (forest p a at) (forest_on (length a) (forest p b 0))
  forest_append p at u c = front_left (length a) p at u (omega arith) c

-- a forest's boxes alone
unfoldable pub bare_forest : Forest → Forest
bare_forest end = end
bare_forest (bad k p) = bad k p
bare_forest (node x i r) = node x end (bare_forest r)

pub tops_bare : (f : Forest) → tops (bare_forest f) ≡ tops f
unfolding bare_forest tops
tops_bare end = refl
tops_bare (bad k p) = refl
tops_bare (node x i r) = ap (λ (xs : List Box). x ∷ xs) (tops_bare r)

pub closed_bare : (f : Forest) → Closed f → Closed (bare_forest f)
unfolding bare_forest
closed_bare end c = c
closed_bare (bad k p) c = c
closed_bare (node x i r) c = closed_bare r c

-- the boxes alone are the forest on the path that holds no containers: they are one run on every path
bare_step :
    (p : Path) (s : List ℕ) (at : ℕ) → ((h z k : ℕ) → FoundBox s at h z k → bare_forest (forest p s (at + z)) ≡ forest Flat s (at + z)) →
    (l : Look) → look s at ≡ l → bare_forest (forest p s at) ≡ forest Flat s at
unfolding bare_forest inside
bare_step p s at more Nothing e = ap bare_forest (forest_by p s at Nothing e) ∙ sym (forest_by Flat s at Nothing e)
bare_step p s at more Short e = ap bare_forest (forest_by p s at Short e) ∙ sym (forest_by Flat s at Short e)
bare_step p s at more Small e = ap bare_forest (forest_by p s at Small e) ∙ sym (forest_by Flat s at Small e)
bare_step p s at more Beyond e = ap bare_forest (forest_by p s at Beyond e) ∙ sym (forest_by Flat s at Beyond e)
bare_step p s at more (Good h z k) e =
    let x : Box = record { at = at; inner = h; size = z; kind = k } in
    ap bare_forest (forest_by p s at (Good h z k) e)
    ∙ ap {B = Forest} (node x end) (more h z k (look_found s at h z k e))
    ∙ sym (forest_by Flat s at (Good h z k) e)

bare_left : (f : ℕ) (p : Path) (s : List ℕ) (at : ℕ) → length s - at ≤ f → bare_forest (forest p s at) ≡ forest Flat s at
bare_left zero p s at few = bare_step p s at (λ h z k d. absurd (omega (arith, d.inner))) (look s at) refl
bare_left (suc f) p s at few =
    bare_step p s at (λ h z k d. bare_left f p s (at + z) (omega (arith, d.low, d.holds, d.inner))) (look s at) refl

pub bare_flat : (p : Path) (s : List ℕ) (at : ℕ) → bare_forest (forest p s at) ≡ forest Flat s at
bare_flat p s at = bare_left (length s) p s at (omega arith)

pub closed_flat : (p : Path) (s : List ℕ) (at : ℕ) → ClosedFrom p s at → ClosedFrom Flat s at
closed_flat p s at c = subst Closed (bare_flat p s at) (closed_bare (forest p s at) c)

-- the boxes of forests moved, and joined
pub tops_on : (n : ℕ) (f : Forest) → tops (forest_on n f) ≡ map (box_on n) (tops f)
unfolding tops forest_on
tops_on n end = refl
tops_on n (bad k p) = refl
tops_on n (node x i r) = ap (λ (xs : List Box). box_on n x ∷ xs) (tops_on n r)

pub tops_joined : (f g : Forest) → Closed f → tops (joined_forest f g) ≡ tops f ++ tops g
unfolding tops joined_forest
tops_joined end g c = refl
tops_joined (bad k p) g c = absurd c
tops_joined (node x i r) g c = ap (λ (xs : List Box). x ∷ xs) (tops_joined r g c)

-- the boxes behind the front, and those of the whole
pub boxes_behind : (a b : List ℕ) (at : ℕ) → boxes (a ++ b) (length a + at) ≡ map (box_on (length a)) (boxes b at)
unfolding boxes
boxes_behind a b at = ap tops (forest_behind a b Flat at) ∙ tops_on (length a) (forest Flat b at)

pub boxes_append : (a b : List ℕ) → EndsOnBox a → boxes (a ++ b) 0 ≡ boxes a 0 ++ map (box_on (length a)) (boxes b 0)
unfolding boxes
boxes_append a b c =
    let d = closed_flat Top a 0 c in
    ap tops (forest_append a b Flat 0 (omega arith) d)
    ∙ tops_joined (forest Flat a 0) (forest_on (length a) (forest Flat b 0)) d
    ∙ ap (λ (xs : List Box). boxes a 0 ++ xs) (tops_on (length a) (forest Flat b 0))

-- a slice that ends on a box, appended to one that does, makes one that does; and the empty one does
closed_on : (n : ℕ) (f : Forest) → Closed f → Closed (forest_on n f)
unfolding forest_on
closed_on n end c = c
closed_on n (bad k p) c = c
closed_on n (node x i r) c = closed_on n r c

closed_joined : (f g : Forest) → Closed f → Closed g → Closed (joined_forest f g)
unfolding joined_forest
closed_joined end g c d = d
closed_joined (bad k p) g c d = c
closed_joined (node x i r) g c d = closed_joined r g c d

pub ends_append : (a b : List ℕ) → EndsOnBox a → EndsOnBox b → EndsOnBox (a ++ b)
ends_append a b c d =
    subst Closed (sym (forest_append a b Top 0 (omega arith) c))
    (closed_joined (forest Top a 0) (forest_on (length a) (forest Top b 0)) c (closed_on (length a) (forest Top b 0) d))

pub ends_empty : EndsOnBox []
ends_empty = subst Closed (sym (forest_nothing Top [] 0 (look_nothing [] 0 (omega arith)))) tt
