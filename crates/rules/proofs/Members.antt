-- Laws of lists of numbers: a member of a list, where the list is among another or apart from it.
use Prim.Native.Nat.{ℕ}
use mathlib.Core.Path.{◌≡◌, refl, sym, ap, ◌∙◌}
use mathlib.Core.Bool.{Bool, true, false, not, ◌&&◌, ◌||◌, false≢true}
use mathlib.Core.List.{List, [], ◌∷◌}
use lib.Dec.{eqb}
use borrow.Author.Tests.{eqb-true}
use Rattle.rules.specs.Refusals.{member, among, apart}
use Rattle.std.proofs.lemmas.Bool.{and_parts, not-true}

-- what holds of every number of a list, as a test, holds of a member
pub member_by : (f : ℕ → Bool) (g : List ℕ → Bool) → ((x : ℕ) (xs : List ℕ) → g (x ∷ xs) ≡ (f x && g xs))
    → (n : ℕ) (xs : List ℕ) → member n xs ≡ true → g xs ≡ true → f n ≡ true
unfolding member
member_by f g e n [] h k = absurd (false≢true h)
member_by f g e n (x ∷ xs) h k = go (eqb n x) refl h (λ y. member_by f g e n xs y (and_parts (f x) (g xs) both).1)
  where
    both : (f x && g xs) ≡ true
    both = sym (e x xs) ∙ k

    go : (b : Bool) → eqb n x ≡ b → (b || member n xs) ≡ true → (member n xs ≡ true → f n ≡ true) → f n ≡ true
    go true q y r = ap f (eqb-true n x q) ∙ (and_parts (f x) (g xs) both).0
    go false q y r = r y

-- a member of a list that is among another is one of that, and of one that is apart from it is not
pub member_among : (n : ℕ) (xs ys : List ℕ) → member n xs ≡ true → among xs ys ≡ true → member n ys ≡ true
unfolding among
member_among n xs ys h k = member_by (λ x. member x ys) (λ zs. among zs ys) (λ x zs. refl) n xs h k

pub member_apart : (n : ℕ) (xs ys : List ℕ) → member n xs ≡ true → apart xs ys ≡ true → member n ys ≡ false
unfolding apart
member_apart n xs ys h k = not-true (member n ys) (member_by (λ x. not (member x ys)) (λ zs. apart zs ys) (λ x zs. refl) n xs h k)

-- a number that is one of a list is not one of a list that it isn't in
pub not_both_lem : (n : ℕ) (xs : List ℕ) → member n xs ≡ true → member n xs ≡ false → ⊥
not_both_lem n xs h k = false≢true (sym k ∙ h)
