-- What the rest of a track comes to, where its first box is there whole: what is inside it, what it brings, and what follows it.
use mathlib.Core.Path.{◌≡◌, refl, sym, ap, ap₂, ◌∙◌}
use mathlib.Core.Bool.{Bool, true, false}
use mathlib.Core.List.{List, [], ◌++◌}
use Prim.Native.Nat.{ℕ, ◌+◌, ◌-◌, ◌≤◌}
use native.Mathlib.Omega.{arith}
use lib.ListN.{length, take}
use lib.Seq.{length-take-le, take_at, drop_at}
use lib.Dec.{leb}
use Rattle.numbers.specs.Numbers.{when}
use Rattle.rules.specs.Limits.{box_limit}
use Rattle.rules.specs.Boxes.{Box, Forest, end, bad, node, part, look, inside, within, forest, boxes}
use Rattle.rules.specs.Framing.{on_framing, rule5, framing}
use Rattle.rules.specs.Course.{and_box}
use Rattle.rules.specs.Pieces.{large}
use Rattle.rules.specs.declared.Path.TheVariants.{Top}
use Rattle.rules.specs.Rules.{Course, Framing, breaks, unframed}
use Rattle.std.specs.Prelude.{Ok, Err}
use Rattle.rules.specs.declared.Look.{Look}
use Rattle.rules.specs.declared.Look.TheVariants.{Nothing, Short, Small, Beyond, Good}
use Rattle.rules.proofs.Forest.{look_found, look_nothing, nothing_left, never, forest_box, forest_nothing, forest_short, forest_small, forest_beyond, boxes_box}
use Rattle.appending.proofs.Front.{look_front, part_front}
use Rattle.pieces.specs.Rest.{box_framing, waits_after, rest}
use Rattle.pieces.specs.State.{halved, kept_moof}
use Rattle.pieces.proofs.Unfolding.{after_box, rest_by_lem}
use Rattle.pieces.proofs.Courses.{waits_itself}

-- boxes are counted up
pub counts_up : (f : Forest) (base n m : ℕ) → framing f base n ≡ Ok m → n ≤ m
unfolding framing rule5
counts_up end base n m e = let q : n ≡ m = cc in omega arith
counts_up (bad k p) base n m e = by (leb box_limit n) e
  where
    by : (t : Bool) → when t (unframed 5 (base + p)) (unframed k (base + p)) ≡ Ok m → n ≤ m
    by true e = never (cc)
    by false e = never (cc)
counts_up (node x i r) base n m e =
    by (leb box_limit n) (framing i (base + x.at + x.inner) (n + 1)) refl (counts_up i (base + x.at + x.inner) (n + 1)) (counts_up r base) e
  where
    by : (t : Bool) (y : Framing) → framing i (base + x.at + x.inner) (n + 1) ≡ y
        → ((j : ℕ) → framing i (base + x.at + x.inner) (n + 1) ≡ Ok j → n + 1 ≤ j)
        → ((j q : ℕ) → framing r base j ≡ Ok q → j ≤ q)
        → when t (unframed 5 (base + x.at)) (on_framing y (λ m. framing r base m) (λ k p. unframed k p)) ≡ Ok m → n ≤ m
    by true y q f g e = never (cc)
    by false (Ok j) q f g e = omega (arith, f j q, g j m e)
    by false (Err b) q f g e = never (cc)

-- a run that is framed with no box in it has no byte
pub nothing_there : (own : List ℕ) (at n : ℕ) → framing (forest Top own 0) at n ≡ Ok n → boxes own 0 ≡ [] → length own ≤ 0
unfolding framing rule5
nothing_there own at n e f = by (look own 0) refl
  where
    broken : (t : Bool) (k : ℕ) → when t (unframed 5 (at + 0)) (unframed k (at + 0)) ≡ Ok n → length own ≤ 0
    broken true k e = never (cc)
    broken false k e = never (cc)

    by : (l : Look) → look own 0 ≡ l → length own ≤ 0
    by Nothing q = nothing_left own 0 q
    by Short q = broken (leb box_limit n) 2 (rw (forest_short Top own 0 q) at e)
    by Small q = broken (leb box_limit n) 3 (rw (forest_small Top own 0 q) at e)
    by Beyond q = broken (leb box_limit n) 4 (rw (forest_beyond Top own 0 q) at e)
    by (Good h z k) q = let y = sym (boxes_box own 0 h z k q) ∙ f in never (cc)

-- a whole box at the front of the buffer, with the bytes u behind it
module _ (kept u : List ℕ) (c : Course) (at n h z k : ℕ) (l : z ≤ length kept) (e : look (take z kept) 0 ≡ Good h z k) where
  abbrev own : List ℕ
  own = take z kept

  own_length : length own ≡ z
  own_length = length-take-le z kept l

  abbrev x : Box
  x = record { at = at; inner = h; size = z; kind = k }

  stood : look (own ++ u) 0 ≡ Good h z k
  stood = look_front own u 0 h z k (look_found own 0 h z k e)

  inner_same : part (own ++ u) h (z - h) ≡ part own (0 + h) (z - h)
  inner_same =
      let f : h ≡ 0 + h = omega arith in
      part_front own u h (z - h) (omega (arith, own_length, (look_found own 0 h z k e).holds)) ∙ ap (λ (i : ℕ). part own i (z - h)) f

  -- the framing of the box by itself
  pub framing_own : large k z ≡ false → framing (forest Top own 0) at n ≡ box_framing (own ++ u) at n h z k
  unfolding framing box_framing
  framing_own g =
      rw (forest_box Top own 0 h z k e, forest_nothing Top own (0 + z) (look_nothing own (0 + z) (omega (arith, own_length))), g, inner_same)
      (by (at + 0) (omega arith))
    where
      alone : (r : Framing) → on_framing r (λ m. Ok m) (λ i p. unframed i p) ≡ r
      alone (Ok m) = refl
      alone (Err e) = refl

      by : (q : ℕ) → q ≡ at
          → rule5 n q
          (on_framing (framing (within (λ q t. forest q t 0) (inside Top k) (part own (0 + h) (z - h))) (q + h) (n + 1)) (λ m. Ok m) (λ i p. unframed i p))
          ≡ rule5 n at (framing (within (λ q t. forest q t 0) (inside Top k) (part own (0 + h) (z - h))) (at + h) (n + 1))
      by q f = rw f (ap (rule5 n at) (alone _))

  -- it is refused
  pub settled_bad : large k z ≡ false → {i p : ℕ} → framing (forest Top own 0) at n ≡ unframed i p → rest [] c at n (own ++ u) ≡ breaks i 0 p
  settled_bad g f =
      rest_by_lem [] c at n (own ++ u) (Good h z k) stood
      ∙ ap (λ (r : Framing). on_framing r (after_box rest [] c at (own ++ u) h z k) (λ i p. breaks i 0 p)) (sym (framing_own g) ∙ f)

  -- it is taken into the course
  pub settled_good : large k z ≡ false → halved c ≡ false → {m : ℕ} → framing (forest Top own 0) at n ≡ Ok m
      → rest [] c at n (own ++ u) ≡ rest (kept_moof (and_box own [] c x) kept) (and_box own [] c x) (at + z) m u
  settled_good g y {m} f =
      rest_by_lem [] c at n (own ++ u) (Good h z k) stood
      ∙ ap (λ (r : Framing). on_framing r (after_box rest [] c at (own ++ u) h z k) (λ i p. breaks i 0 p)) (sym (framing_own g) ∙ f)
      ∙ ap₂ (λ (o v : List ℕ). rest (waits_after (and_box o [] c x) o) (and_box o [] c x) (at + z) m v) (take_at own u z own_length) (drop_at own u z own_length)
      ∙ ap (λ (w : List ℕ). rest w (and_box own [] c x) (at + z) m u) (waits_itself own [] c x kept y refl)
