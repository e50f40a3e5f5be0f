-- The rules of one track by itself name none: where they break, they break with track 0. How that passes through the ways in which they are put together.
use mathlib.Core.Path.{◌≡◌, refl, ap, subst, ◌∙◌}
use mathlib.Core.Bool.{Bool, true, false}
use mathlib.Core.List.{List, [], ◌∷◌}
use Prim.Native.Nat.{ℕ, ◌≤◌}
use Rattle.rules.specs.Rules.{◌then◌, must, PlacedUpTo, Rule, breaks}
use Rattle.rules.specs.Boxes.{kids}
use Rattle.rules.specs.Counts.{seen, one_of, at_most_one_of, some_of, counted, counts}
use Rattle.rules.specs.Chunk.{rule16runs, rule16, rule17, rule18, rule19, rule21, rule22runs, rule22}
use Rattle.rules.specs.declared.Entry.{Entry}
use Rattle.rules.specs.declared.Entry.TheVariants.{Nothing, One, AtMostOne, OneOrMore, OneInAll}
use Rattle.rules.specs.declared.Seen.{Seen}
use Rattle.rules.specs.declared.Seen.TheVariants.{Never, Once, Twice}
use Rattle.rules.specs.declared.Defaults.{Defaults}
use Rattle.std.specs.Prelude.{Option, Ok, Err}

-- a rule that holds, or breaks with track 0
abbrev pub Untracked : Rule → Type 0
Untracked (Ok u) = Unit {0}
Untracked (Err e) = e.track ≡ 0

-- what is so of rules is so of the first broken one; and what is so where a test holds and where it breaks is so of it
module _ (P : Rule → Type 0) where
  pub then_is : (r q : Rule) → P r → P q → P (r then q)
  unfolding ◌then◌
  then_is (Ok u) q h k = k
  then_is (Err e) q h k = h

  pub must_is : (b : Bool) (n p : ℕ) → P (Ok tt) → P (breaks n 0 p) → P (must b n p)
  unfolding must
  must_is true n p h k = h
  must_is false n p h k = k

-- a broken one, at a place up to n
pub breaks_at_0 : (n : ℕ) {r : Rule} {k t p : ℕ} → Untracked r → PlacedUpTo n r → r ≡ breaks k t p → (r ≡ breaks k 0 p) × (p ≤ n)
breaks_at_0 n {r} {k} {t} {p} u low e = (e ∙ ap (λ (i : ℕ). breaks k i p) (subst Untracked e u), subst (PlacedUpTo n) e low)

-- a test, and one before other rules
test : (b : Bool) (n p : ℕ) → Untracked (must b n p)
test b n p = must_is Untracked b n p tt refl

next : (b : Bool) (n p : ℕ) (q : Rule) → Untracked q → Untracked (must b n p then q)
next b n p q u = then_is Untracked _ q (test b n p) u

-- counts
counted_untracked : (n c : ℕ) (e : Entry) (v : Seen) → Untracked (counted n c e v)
unfolding counted one_of at_most_one_of some_of
counted_untracked n c Nothing v = tt
counted_untracked n c (One w) Never = refl
counted_untracked n c (One w) (Once a) = tt
counted_untracked n c (One w) (Twice a b) = refl
counted_untracked n c (AtMostOne w) Never = tt
counted_untracked n c (AtMostOne w) (Once a) = tt
counted_untracked n c (AtMostOne w) (Twice a b) = refl
counted_untracked n c (OneOrMore w) Never = refl
counted_untracked n c (OneOrMore w) (Once a) = tt
counted_untracked n c (OneOrMore w) (Twice a b) = tt
counted_untracked n c (OneInAll u x w) Never = refl
counted_untracked n c (OneInAll u x w) (Once a) = tt
counted_untracked n c (OneInAll u x w) (Twice a b) = refl

pub counts_untracked : (n : ℕ) (m : List ℕ) (at : ℕ) (es : List Entry) → Untracked (counts n m at es)
unfolding counts
counts_untracked n m at [] = tt
counts_untracked n m at (e ∷ es) = then_is Untracked _ _ (counted_untracked n at e (seen e (kids m at))) (counts_untracked n m at es)

-- a chunk: rules 16 to 19, and 21 and 22
module _ (m : List ℕ) where
  runs_16 : (rs : List ℕ) → Untracked (rule16runs m rs)
  unfolding rule16runs
  runs_16 [] = tt
  runs_16 (r ∷ rs) = next _ 16 r _ (runs_16 rs)

  pub before_sums_untracked : (id : ℕ) (prev : Option ℕ) → Untracked (rule16 m then rule17 m id then rule18 m then rule19 m prev)
  unfolding rule16 rule17 rule18 rule19
  before_sums_untracked id prev = then_is Untracked _ _ (next _ 16 _ _ (runs_16 _)) (next _ 17 _ _ (next _ 18 _ _ (test _ 19 _)))

  runs_22 : (d : Defaults) (first : Bool) (e : ℕ) (rs : List ℕ) → Untracked (rule22runs m d first e rs)
  unfolding rule22runs
  runs_22 d first e [] = tt
  runs_22 d first e (r ∷ rs) = next _ 22 r _ (runs_22 d false _ rs)

  pub of_sums_untracked : (d : Defaults) (head payload : ℕ) (prev : Option ℕ) → Untracked (rule21 m d prev then rule22 m d head payload)
  unfolding rule21 rule22
  of_sums_untracked d head payload prev = next _ 21 _ _ (then_is Untracked _ _ (runs_22 _ true _ _) (test _ 22 _))
