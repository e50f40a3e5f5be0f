-- Laws of boxes in bytes: what one header tells, the forest and the run of siblings box by box. Fuel is dealt with here; beside it only
-- two inductions over a forest, in Walk and in Unframed, see it.
use mathlib.Core.Path.{◌≡◌, refl, sym, ap, ◌∙◌}
use mathlib.Core.List.{List, [], ◌∷◌}
use mathlib.Core.Bool.{Bool, true, false}
use Prim.Native.Nat.{ℕ, zero, suc, ◌+◌, ◌-◌, ◌<◌, ◌≤◌}
use native.Mathlib.Omega.{arith}
use lib.ListN.{length, length-take, length-drop}
use lib.Dec.{ltb, eqb}
use borrow.Author.Tests.{ltb-false, eq-eqb, eqb-true}
use Rattle.numbers.specs.Numbers.{be4, be8, when}
use Rattle.rules.specs.Counts.{wanted, again, seen_from}
use Rattle.rules.specs.declared.Entry.{Entry}
use Rattle.rules.specs.Boxes.{part, sized, look_at, look, on_look, inside, Forest, end, bad, node, within, grow, forest, tops, boxes, places_of, head_of, size_of, kind_of}
use Rattle.rules.specs.declared.Path.{Path}
use Rattle.rules.specs.declared.Path.TheVariants.{Flat}
use Rattle.std.specs.Prelude.{Option, None, Some}
use Rattle.rules.specs.declared.Look.{Look}
use Rattle.rules.specs.declared.Look.TheVariants.{Nothing, Short, Small, Beyond, Good}
use Rattle.rules.specs.declared.Seen.{Seen}

-- what a framed header of h bytes, size z and type k at a place tells
pub record FoundBox (s : List ℕ) (at h z k : ℕ) : Type 0 where
  pub head : head_of s at ≡ h
  pub size : size_of s at ≡ z
  pub kind : kind_of s at ≡ k
  pub low : 8 ≤ h
  pub high : h ≤ 16
  pub holds : h ≤ z
  pub fits : at + z ≤ length s
  pub inner : at < length s

-- a header that is neither too small nor beyond its parent
record Sized (left h z k h' z' k' : ℕ) : Type 0 where
  head : h ≡ h'
  size : z ≡ z'
  kind : k ≡ k'
  holds : h ≤ z
  fits : z ≤ left

-- two constructors are never equal
pub never : {A : Type 0} → ◌≡◌ {A = ℕ} 0 1 → A
never e = let f : ⊥ = omega arith in absurd f

sized_good : (left h z k h' z' k' : ℕ) → sized left h z k ≡ Good h' z' k' → Sized left h z k h' z' k'
unfolding sized
sized_good left h z k h' z' k' = by (ltb z h) (ltb left z) refl refl
  where
    by : (t u : Bool) → ltb z h ≡ t → ltb left z ≡ u → when t Small (when u Beyond (Good h z k)) ≡ Good h' z' k' → Sized left h z k h' z' k'
    by true u p q e = never (cc)
    by false true p q e = never (cc)
    by false false p q e =
        record { head = cc; size = cc; kind = cc; holds = ltb-false z h p; fits = ltb-false left z q }

pub look_found : (s : List ℕ) (at h z k : ℕ) → look s at ≡ Good h z k → FoundBox s at h z k
unfolding look look_at head_of size_of
look_found s at h z k = by (eqb left 0) (ltb left 8) (eqb (be4 s at) 1) (ltb left 16) refl refl refl refl
  where
    left : ℕ
    left = length s - at

    by :
        (a b o w : Bool) → eqb left 0 ≡ a → ltb left 8 ≡ b → eqb (be4 s at) 1 ≡ o → ltb left 16 ≡ w →
        when a Nothing (when b Short (when o (when w Short (sized left 16 (be8 s (at + 8)) (be4 s (at + 4)))) (sized left 8 (be4 s at) (be4 s (at + 4)))))
        ≡ Good h z k →
        FoundBox s at h z k
    by true b o w pa pb po pw e = never (cc)
    by false true o w pa pb po pw e = never (cc)
    by false false true true pa pb po pw e = never (cc)
    by false false true false pa pb po pw e =
        let g : Sized left 16 (be8 s (at + 8)) (be4 s (at + 4)) h z k = sized_good left 16 (be8 s (at + 8)) (be4 s (at + 4)) h z k e in
        record {
          head = simp po g.head;
          size = simp po g.size;
          kind = g.kind;
          low = omega arith;
          high = omega arith;
          holds = omega arith;
          fits = omega (arith, ltb-false left 16 pw);
          inner = omega (arith, ltb-false left 16 pw);
        }
    by false false false w pa pb po pw e =
        let g : Sized left 8 (be4 s at) (be4 s (at + 4)) h z k = sized_good left 8 (be4 s at) (be4 s (at + 4)) h z k e in
        record {
          head = simp po g.head;
          size = simp po g.size;
          kind = g.kind;
          low = omega arith;
          high = omega arith;
          holds = omega arith;
          fits = omega (arith, ltb-false left 8 pb);
          inner = omega (arith, ltb-false left 8 pb);
        }

-- at the end there is nothing
pub look_nothing : (s : List ℕ) (at : ℕ) → length s ≤ at → look s at ≡ Nothing
unfolding look look_at
look_nothing s at h = simp (eq-eqb (length s - at) 0 (omega arith))

-- a header that says a size is never nothing
sized_some : (left h z k : ℕ) → sized left h z k ≡ Nothing → ⊥
unfolding sized
sized_some left h z k = by (ltb z h) (ltb left z)
  where
    by : (t u : Bool) → when t Small (when u Beyond (Good h z k)) ≡ Nothing → ⊥
    by true u e = never (cc)
    by false true e = never (cc)
    by false false e = never (cc)

-- where bytes remain something stands
pub nothing_left : (s : List ℕ) (at : ℕ) → look s at ≡ Nothing → length s ≤ at
unfolding look look_at
nothing_left s at = by (eqb left 0) (ltb left 8) (eqb (be4 s at) 1) (ltb left 16) refl
  where
    left : ℕ
    left = length s - at

    by :
        (a b o w : Bool) → eqb left 0 ≡ a →
        when a Nothing (when b Short (when o (when w Short (sized left 16 (be8 s (at + 8)) (be4 s (at + 4)))) (sized left 8 (be4 s at) (be4 s (at + 4)))))
        ≡ Nothing →
        length s ≤ at
    by true b o w p e = omega (arith, eqb-true left 0 p)
    by false true o w p e = never (cc)
    by false false true true p e = never (cc)
    by false false true false p e = absurd (sized_some left 16 (be8 s (at + 8)) (be4 s (at + 4)) e)
    by false false false w p e = absurd (sized_some left 8 (be4 s at) (be4 s (at + 4)) e)

-- a part is at most as long as what is left
part_left : (s : List ℕ) (a n : ℕ) → length (part s a n) ≤ length s - a
part_left s a n = simp (length-take, length-drop) (omega arith)

-- what grows where l stands, from the forests inside and the forest after
abbrev pub sprout : (Path → List ℕ → Forest) → (ℕ → Forest) → Path → List ℕ → ℕ → Look → Forest
sprout g r p s at l =
    on_look l end (λ n. bad n at)
    (λ h z k.
    node (record { at = at; inner = h; size = z; kind = k })
    (within g (inside p k) (part s (at + h) (z - h)))
    (r (at + z)))

-- equal insides, whichever way they are grown
within_same : (g r : Path → List ℕ → Forest) (i : Option Path) (t : List ℕ) → ((q : Path) → g q t ≡ r q t) → within g i t ≡ within r i t
within_same g r None t e = refl
within_same g r (Some q) t e = e q

-- forests that agree on what is inside a box and on what is after it make equal forests
sprout_same :
    (g r : Path → List ℕ → Forest) (a b : ℕ → Forest) (p : Path) (s : List ℕ) (at : ℕ) →
    ((q : Path) (t : List ℕ) → length t < length s - at → g q t ≡ r q t) →
    ((n : ℕ) → at < n → n ≤ length s → a n ≡ b n) →
    (l : Look) → look s at ≡ l → sprout g a p s at l ≡ sprout r b p s at l
sprout_same g r a b p s at i n Nothing e = refl
sprout_same g r a b p s at i n Short e = refl
sprout_same g r a b p s at i n Small e = refl
sprout_same g r a b p s at i n Beyond e = refl
sprout_same g r a b p s at i n (Good h z k) e =
    let d : FoundBox s at h z k = look_found s at h z k e in
    let t : List ℕ = part s (at + h) (z - h) in
    let x : within g (inside p k) t ≡ within r (inside p k) t =
    within_same g r (inside p k) t (λ q. i q t (omega (arith, part_left s (at + h) (z - h)))) in
    let y : a (at + z) ≡ b (at + z) = n (at + z) (omega arith) (omega arith) in
    cc

-- nothing grows from nothing
grow_end : (g : ℕ) (p : Path) (s : List ℕ) (at : ℕ) → length s - at ≤ 0 → grow g p s at ≡ end
unfolding grow
grow_end zero p s at h = refl
grow_end (suc g) p s at h = simp (look_nothing s at (omega arith))

-- any fuel that is enough gives one forest
grow_same : (f g : ℕ) (p : Path) (s : List ℕ) (at : ℕ) → length s - at ≤ f → length s - at ≤ g → grow f p s at ≡ grow g p s at
unfolding grow
grow_same zero g p s at u v = sym (grow_end g p s at u)
grow_same (suc f) zero p s at u v = grow_end (suc f) p s at v
grow_same (suc f) (suc g) p s at u v =
    sprout_same (λ q t. grow f q t 0) (λ q t. grow g q t 0) (grow f p s) (grow g p s) p s at
    (λ q t h. grow_same f g q t 0 (omega arith) (omega arith))
    (λ n h k. grow_same f g p s n (omega arith) (omega arith))
    (look s at) refl

pub grow_forest : (f : ℕ) (p : Path) (s : List ℕ) (at : ℕ) → length s - at ≤ f → grow f p s at ≡ forest p s at
unfolding forest
grow_forest f p s at h = grow_same f (length s - at) p s at h (omega arith)

-- the forest by what stands at the place, with no fuel
pub forest_by : (p : Path) (s : List ℕ) (at : ℕ) (l : Look) → look s at ≡ l → forest p s at ≡ sprout (λ q t. forest q t 0) (forest p s) p s at l
unfolding grow
forest_by p s at l e =
    sym (grow_forest (suc (length s)) p s at (omega arith))
    ∙ ap (sprout (λ q t. grow (length s) q t 0) (grow (length s) p s) p s at) e
    ∙ sprout_same (λ q t. grow (length s) q t 0) (λ q t. forest q t 0) (grow (length s) p s) (forest p s) p s at
    (λ q t h. grow_forest (length s) q t 0 (omega arith))
    (λ n h k. grow_forest (length s) p s n (omega arith))
    l e

module _ (p : Path) (s : List ℕ) (at : ℕ) where
  pub forest_nothing : look s at ≡ Nothing → forest p s at ≡ end
  forest_nothing = forest_by p s at Nothing

  pub forest_short : look s at ≡ Short → forest p s at ≡ bad 2 at
  forest_short = forest_by p s at Short

  pub forest_small : look s at ≡ Small → forest p s at ≡ bad 3 at
  forest_small = forest_by p s at Small

  pub forest_beyond : look s at ≡ Beyond → forest p s at ≡ bad 4 at
  forest_beyond = forest_by p s at Beyond

  pub forest_box :
      (h z k : ℕ) → look s at ≡ Good h z k →
      forest p s at
      ≡ node (record { at = at; inner = h; size = z; kind = k })
      (within (λ q t. forest q t 0) (inside p k) (part s (at + h) (z - h)))
      (forest p s (at + z))
  forest_box h z k = forest_by p s at (Good h z k)

-- the sibling boxes by what stands at the place
pub boxes_by : (s : List ℕ) (at : ℕ) (l : Look) → look s at ≡ l → boxes s at ≡ on_look l [] (λ n. []) (λ h z k. record { at = at; inner = h; size = z; kind = k } ∷ boxes s (at + z))
unfolding boxes tops
boxes_by s at Nothing e = ap tops (forest_by Flat s at Nothing e)
boxes_by s at Short e = ap tops (forest_by Flat s at Short e)
boxes_by s at Small e = ap tops (forest_by Flat s at Small e)
boxes_by s at Beyond e = ap tops (forest_by Flat s at Beyond e)
boxes_by s at (Good h z k) e = ap tops (forest_by Flat s at (Good h z k) e)

module _ (s : List ℕ) (at : ℕ) where
  pub boxes_nothing : look s at ≡ Nothing → boxes s at ≡ []
  boxes_nothing = boxes_by s at Nothing

  pub boxes_short : look s at ≡ Short → boxes s at ≡ []
  boxes_short = boxes_by s at Short

  pub boxes_small : look s at ≡ Small → boxes s at ≡ []
  boxes_small = boxes_by s at Small

  pub boxes_beyond : look s at ≡ Beyond → boxes s at ≡ []
  boxes_beyond = boxes_by s at Beyond

  pub boxes_box : (h z k : ℕ) → look s at ≡ Good h z k → boxes s at ≡ record { at = at; inner = h; size = z; kind = k } ∷ boxes s (at + z)
  boxes_box h z k = boxes_by s at (Good h z k)

  -- a box that is wanted, and one that is not, among the places of a type
  pub places_hit : (h z k : ℕ) → look s at ≡ Good h z k → places_of k (boxes s at) ≡ at ∷ places_of k (boxes s (at + z))
  unfolding places_of
  places_hit h z k e = ap (places_of k) (boxes_box h z k e) ∙ simp (eq-eqb k k refl)

  pub places_miss : (w h z k : ℕ) → look s at ≡ Good h z k → eqb k w ≡ false → places_of w (boxes s at) ≡ places_of w (boxes s (at + z))
  unfolding places_of
  places_miss w h z k e n = ap (places_of w) (boxes_box h z k e) ∙ simp n

  pub places_end : (w : ℕ) → boxes s at ≡ [] → places_of w (boxes s at) ≡ []
  unfolding places_of
  places_end w = ap (places_of w)

  -- one box more seen
  pub seen_box :
      (v : Seen) (w : Entry) (h z k : ℕ) → look s at ≡ Good h z k →
      seen_from v w (boxes s at) ≡ seen_from (when (wanted w k) (again at v) v) w (boxes s (at + z))
  unfolding seen_from
  seen_box v w h z k e = ap (seen_from v w) (boxes_box h z k e)

  -- all of them seen
  pub seen_end : (v : Seen) (w : Entry) → boxes s at ≡ [] → seen_from v w (boxes s at) ≡ v
  unfolding seen_from
  seen_end v w = ap (seen_from v w)
