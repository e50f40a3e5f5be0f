-- General laws: tests joined, and elements of lists by their number.
use mathlib.Core.Path.{◌≡◌, refl, sym, ap, subst, ◌∙◌}
use mathlib.Core.Bool.{Bool, true, false, ◌&&◌, ◌||◌, true≢false}
use mathlib.Core.Option.{Option, none, some, none-ne-some, some-injective}
use mathlib.Core.List.{List, [], ◌∷◌, ◌++◌, map, nil≢cons, head-eq_of_cons-eq, tail-eq_of_cons-eq}
use Prim.Native.Nat.{ℕ, zero, suc, ◌+◌, ◌≤◌, ◌<◌}
use native.Mathlib.Nat.{not-suc-le-zero, le_of_suc-le-suc}
use native.Mathlib.Omega.{arith}
use lib.ListN.{length, get_elem?, drop}
use lib.Seq.{sets}
use Rattle.std.proofs.lemmas.Bool.{and_parts}
use Rattle.rules.specs.Plans.{All}

-- the second of two tests
pub or_second : (a b : Bool) → a ≡ false → (a || b) ≡ true → b ≡ true
or_second true b h k = absurd (true≢false h)
or_second false b h k = k

-- four tests joined: they hold where each does, and each does where they hold
module _ (a b c d : Bool) where
  pub all_on : a ≡ true → b ≡ true → c ≡ true → d ≡ true → (a && b && c && d) ≡ true
  all_on h₁ h₂ h₃ h₄ = rw (h₁, h₂, h₃, h₄)

  pub each_on : (a && b && c && d) ≡ true → (a ≡ true) × (b ≡ true) × (c ≡ true) × (d ≡ true)
  each_on h =
      let (h₃, k₄) = and_parts (a && b && c) d h in
      let (h₂, k₃) = and_parts (a && b) c h₃ in
      let (k₁, k₂) = and_parts a b h₂ in
      (k₁, k₂, k₃, k₄)

module _ {A : Type 0} where
  -- a property of every element is one of the i-th
  pub all_at : (P : A → Type 0) (xs : List A) (i : ℕ) (x : A) → All P xs → get_elem? xs i ≡ some x → P x
  all_at P [] i x a e = absurd (none-ne-some x e)
  all_at P (y ∷ ys) zero x a e = subst P (some-injective y x e) a.0
  all_at P (y ∷ ys) (suc i) x a e = all_at P ys i x a.1 e

  -- a property that follows from another
  pub all_map : (P Q : A → Type 0) (xs : List A) → ((x : A) → P x → Q x) → All P xs → All Q xs
  all_map P Q [] f a = tt
  all_map P Q (x ∷ xs) f a = (f x a.0, all_map P Q xs f a.1)

  -- a number below the length has its element, and no other has
  pub below : (xs : List A) (i : ℕ) → i < length xs → (x : A) × (get_elem? xs i ≡ some x)
  below [] i h = absurd (not-suc-le-zero h)
  below (x ∷ xs) zero h = (x, refl)
  below (x ∷ xs) (suc i) h = below xs i (le_of_suc-le-suc h)

  pub beyond : (xs : List A) (i : ℕ) → length xs ≤ i → get_elem? xs i ≡ none
  beyond [] i h = refl
  beyond (x ∷ xs) zero h = absurd (not-suc-le-zero h)
  beyond (x ∷ xs) (suc i) h = beyond xs i (le_of_suc-le-suc h)

  -- the element after the first k, and the rest
  pub drop_first : (xs : List A) (k : ℕ) (y : A) (ys : List A) → drop k xs ≡ y ∷ ys → get_elem? xs k ≡ some y
  drop_first [] zero y ys e = absurd (nil≢cons e)
  drop_first [] (suc k) y ys e = absurd (nil≢cons e)
  drop_first (x ∷ xs) zero y ys e = ap {B = Option A} some (head-eq_of_cons-eq e)
  drop_first (x ∷ xs) (suc k) y ys e = drop_first xs k y ys e

  pub drop_rest : (xs : List A) (k : ℕ) (y : A) (ys : List A) → drop k xs ≡ y ∷ ys → drop (suc k) xs ≡ ys
  drop_rest [] zero y ys e = absurd (nil≢cons e)
  drop_rest [] (suc k) y ys e = absurd (nil≢cons e)
  drop_rest (x ∷ xs) zero y ys e = tail-eq_of_cons-eq e
  drop_rest (x ∷ xs) (suc k) y ys e = drop_rest xs k y ys e

module _ {A B : Type 0} (f : A → B) where
  -- an element of a list made by a function
  pub map_at : (xs : List A) (i : ℕ) (x : A) → get_elem? xs i ≡ some x → get_elem? (map f xs) i ≡ some (f x)
  map_at [] i x e = absurd (none-ne-some x e)
  map_at (y ∷ ys) zero x e = ap {B = Option B} (λ (z : A). some (f z)) (some-injective y x e)
  map_at (y ∷ ys) (suc i) x e = map_at ys i x e

  pub map_none : (xs : List A) (i : ℕ) → get_elem? xs i ≡ none → get_elem? (map f xs) i ≡ none
  map_none [] i e = refl
  map_none (y ∷ ys) zero e = absurd (none-ne-some y (sym e))
  map_none (y ∷ ys) (suc i) e = map_none ys i e

-- a number that has its element is below the length
pub is_below : {A : Type 0} (xs : List A) (i : ℕ) (x : A) → get_elem? xs i ≡ some x → i < length xs
is_below [] i x e = absurd (none-ne-some x e)
is_below (y ∷ ys) zero x e = omega arith
is_below (y ∷ ys) (suc i) x e = let h = is_below ys i x e in omega (arith, h)

-- a run of stores, in two parts
pub sets_append : (t : List ℕ) (i : ℕ) (xs ys : List ℕ) → sets t i (xs ++ ys) ≡ sets (sets t i xs) (i + length xs) ys
sets_append t i [] ys = ap (λ n. sets t n ys) (omega arith)
sets_append t i (x ∷ xs) ys = sets_append (sets t i (x ∷ [])) (suc i) xs ys ∙ ap (λ n. sets (sets t i (x ∷ xs)) n ys) (omega arith)
