-- Laws of counts by how many boxes are seen: no count asks where the first box stands.
use mathlib.Core.Path.{◌≡◌, refl}
use mathlib.Core.List.{List}
use Prim.Native.Nat.{ℕ}
use Rattle.rules.specs.Rules.{breaks}
use Rattle.rules.specs.Counts.{one_of, at_most_one_of, some_of, counted, counts, counts_if}
use Rattle.rules.specs.declared.Entry.{Entry}
use Rattle.rules.specs.declared.Entry.TheVariants.{Nothing, One, AtMostOne, OneOrMore, OneInAll}
use Rattle.std.specs.Prelude.{Ok}
use Rattle.counts.specs.Sights.{seen_by}
use Rattle.counts.specs.declared.Times.{Times}
use Rattle.counts.specs.declared.Times.TheVariants.{Unseen, Single, Several}

-- a count is the same wherever the first box stands
module _ (n a b : ℕ) where
  pub most_any : (t : Times) → at_most_one_of n (seen_by t a) ≡ at_most_one_of n (seen_by t b)
  unfolding at_most_one_of
  most_any Unseen = refl
  most_any Single = refl
  most_any (Several p) = refl

module _ (n at a b : ℕ) where
  one_any : (t : Times) → one_of n at (seen_by t a) ≡ one_of n at (seen_by t b)
  unfolding one_of
  one_any Unseen = refl
  one_any Single = refl
  one_any (Several p) = refl

  pub some_any : (t : Times) → some_of n at (seen_by t a) ≡ some_of n at (seen_by t b)
  unfolding some_of
  some_any Unseen = refl
  some_any Single = refl
  some_any (Several p) = refl

  pub counted_any : (e : Entry) (t : Times) → counted n at e (seen_by t a) ≡ counted n at e (seen_by t b)
  unfolding counted
  counted_any Nothing t = refl
  counted_any (One w) t = one_any t
  counted_any (AtMostOne w) t = most_any n a b t
  counted_any (OneOrMore w) t = some_any t
  counted_any (OneInAll u v w) t = one_any t

-- at most one, by whether there are several
pub at_most_one : (n a : ℕ) (t : Times) → ((p : ℕ) → t ≡ Several p → ⊥) → Ok tt ≡ at_most_one_of n (seen_by t a)
unfolding at_most_one_of
at_most_one n a Unseen h = refl
at_most_one n a Single h = refl
at_most_one n a (Several p) h = absurd (h p refl)

pub many : (n a p : ℕ) → breaks n 0 p ≡ at_most_one_of n (seen_by (Several p) a)
unfolding at_most_one_of
many n a p = refl

-- where something is seen
pub some : (n at a : ℕ) (t : Times) → (t ≡ Unseen → ⊥) → Ok tt ≡ some_of n at (seen_by t a)
unfolding some_of
some n at a Unseen h = absurd (h refl)
some n at a Single h = refl
some n at a (Several p) h = refl

pub if_some : (n : ℕ) (m : List ℕ) (es : List Entry) (a : ℕ) (t : Times) → (t ≡ Unseen → ⊥) → counts n m a es ≡ counts_if n m (seen_by t a) es
unfolding counts_if
if_some n m es a Unseen h = absurd (h refl)
if_some n m es a Single h = refl
if_some n m es a (Several p) h = refl

pub if_none : (n : ℕ) (m : List ℕ) (es : List Entry) (a : ℕ) → Ok tt ≡ counts_if n m (seen_by Unseen a) es
unfolding counts_if
if_none n m es a = refl
