-- Laws of counts in a container: those that end with entries that want nothing, and counts in two walks.
use mathlib.Core.Path.{◌≡◌, refl, ap, ◌∙◌}
use mathlib.Core.List.{List, [], ◌∷◌, ◌++◌}
use Prim.Native.Nat.{ℕ}
use Rattle.rules.specs.Rules.{◌then◌, Rule}
use Rattle.rules.specs.Boxes.{kids}
use Rattle.rules.specs.Counts.{seen, counted, counts}
use Rattle.rules.specs.declared.Entry.{Entry}
use Rattle.rules.specs.declared.Entry.TheVariants.{Nothing}
use Rattle.rules.proofs.Then.{then_assoc}

-- entries that want nothing, at the end of two and of one; and entries counted in two walks
module _ (n : ℕ) (m : List ℕ) (at : ℕ) where
  pub counts_2 : (a b : Entry) → counts n m at (a ∷ b ∷ Nothing ∷ []) ≡ counts n m at (a ∷ b ∷ [])
  unfolding counts counted ◌then◌
  counts_2 a b = refl

  pub counts_1 : (a : Entry) → counts n m at (a ∷ Nothing ∷ Nothing ∷ []) ≡ counts n m at (a ∷ [])
  unfolding counts counted ◌then◌
  counts_1 a = refl

  pub counts_join : (es fs : List Entry) → (counts n m at es then counts n m at fs) ≡ counts n m at (es ++ fs)
  unfolding counts ◌then◌
  counts_join [] fs = refl
  counts_join (e ∷ es) fs =
      then_assoc (counted n at e (seen e (kids m at))) (counts n m at es) (counts n m at fs)
      ∙ ap (λ (r : Rule). counted n at e (seen e (kids m at)) then r) (counts_join es fs)
