-- Laws of a container's counts: what its walk has seen, judged entry by entry, and where a rule can break.
use mathlib.Core.Path.{◌≡◌, refl, ap, ◌∙◌}
use mathlib.Core.List.{List}
use mathlib.Core.Logic.{⊎_elim}
use Prim.Native.Nat.{ℕ, ◌+◌, ◌≤◌}
use native.Mathlib.Omega.{arith}
use lib.ListN.{length, take, length-take}
use Rattle.rules.specs.Boxes.{kind_of, kids}
use Rattle.rules.specs.Rules.{◌then◌, PlacedUpTo, Rule}
use Rattle.rules.specs.Counts.{seen, first_of, first_in, one_of, at_most_one_of, some_of, counted, counts}
use Rattle.rules.specs.declared.Entry.{Entry}
use Rattle.rules.specs.declared.Entry.TheVariants.{Nothing, One, AtMostOne, OneOrMore, OneInAll}
use Rattle.std.specs.Prelude.{Ok, Err}
use Rattle.rules.proofs.Then.{then_last}
use Rattle.rules.proofs.Forest.{FoundBox}
use Rattle.boxes.specs.Stands.{Stands}
use Rattle.rules.specs.declared.Spot.{Spot}
use Rattle.boxes.proofs.Stands.{stands}
use Rattle.counts.specs.Sights.{seen_by, seen_of, SecondUpTo, StandsIn, Keeps, Saw, Tallied, Sighted, Counts}
use Rattle.counts.specs.declared.Three.{Three}
use Rattle.counts.specs.declared.Sight.{Sight}
use Rattle.counts.specs.declared.Times.{Times}
use Rattle.counts.specs.declared.Times.TheVariants.{Unseen, Single, Several}

-- a second box's place up to n is up to any greater number
second_low : {n l : ℕ} (t : Times) → n ≤ l → SecondUpTo n t → SecondUpTo l t
second_low Unseen h k = tt
second_low Single h k = tt
second_low (Several p) h k = omega (arith, h, k)

-- a box that stands in a front stands in the whole
module _ (m s : List ℕ) (e : s ≡ take (length s) m) where
  stands_whole : (b : Spot) → Stands s b → Stands m b
  stands_whole b h =
      let d : FoundBox s b.at b.head b.size (kind_of s b.at) =
      record {
        head = h.head;
        size = h.size;
        kind = refl;
        low = h.low;
        high = h.high;
        holds = h.holds;
        fits = h.fits;
        inner = omega (arith, h.low, h.holds, h.fits);
      } in
      stands m s e d

  keeps_whole : {k : Spot} (v : Sight) → Stands m k → length s ≤ length m → Keeps s k v → StandsIn m v
  keeps_whole v h l g = (⊎_elim (λ q. rw q h) (stands_whole v.first) g.stands, second_low v.times l g.second)

-- where a rule of what is seen can break
then_low : (n : ℕ) (r q : Rule) → PlacedUpTo n r → PlacedUpTo n q → PlacedUpTo n (r then q)
unfolding ◌then◌
then_low n (Ok u) q h k = k
then_low n (Err e) q h k = h

module _ (n l at a : ℕ) (h : at ≤ l) where
  one_low : (t : Times) → SecondUpTo l t → PlacedUpTo l (one_of n at (seen_by t a))
  unfolding one_of
  one_low Unseen k = h
  one_low Single k = tt
  one_low (Several p) k = k

  most_low : (t : Times) → SecondUpTo l t → PlacedUpTo l (at_most_one_of n (seen_by t a))
  unfolding at_most_one_of
  most_low Unseen k = tt
  most_low Single k = tt
  most_low (Several p) k = k

  some_low : (t : Times) → PlacedUpTo l (some_of n at (seen_by t a))
  unfolding some_of
  some_low Unseen = h
  some_low Single = tt
  some_low (Several p) = tt

  counted_low : (e : Entry) (t : Times) → SecondUpTo l t → PlacedUpTo l (counted n at e (seen_by t a))
  unfolding counted
  counted_low Nothing t k = tt
  counted_low (One w) t k = one_low t k
  counted_low (AtMostOne w) t k = most_low t k
  counted_low (OneOrMore w) t k = some_low t
  counted_low (OneInAll u v w) t k = one_low t k

-- what a walk over the boxes of the container that stands there has seen
module _ (m : List ℕ) (x : Spot) (h : Stands m x) where
  front : length (take (x.at + x.size) m) ≡ x.at + x.size
  front = length-take (x.at + x.size) m ∙ omega (arith, h.fits)

  -- the container's boxes begin in its front
  pub begins : x.at + x.head ≤ length (take (x.at + x.size) m)
  begins = omega (arith, front, h.holds)

  sighted : {e : Entry} {v : Sight} → Saw (take (x.at + x.size) m) x (x.at + x.head) e v → Sighted m x.at e v
  unfolding first_in kids
  sighted {e} {v} g =
      let all : seen_of v ≡ seen e (kids m x.at) = rw (h.head, h.size) g.all in
      record {
        all = all;
        first = g.keeps.first ∙ ap (first_of x.at) all;
        stands = keeps_whole m (take (x.at + x.size) m) (rw front refl) v h (omega (arith, front, h.fits)) g.keeps;
      }

  -- judged entry by entry
  pub judged :
      (n : ℕ) {u v w : Entry} {t : Three} {r₁ r₂ r₃ q₂ q₁ : Rule} → Tallied (take (x.at + x.size) m) x (x.at + x.head) u v w t →
      r₂ ≡ counted n x.at v (seen_of t.b) → r₃ ≡ counted n x.at w (seen_of t.c) → q₂ ≡ (r₂ then r₃) →
      r₁ ≡ counted n x.at u (seen_of t.a) → q₁ ≡ (r₁ then q₂) →
      Counts n m x.at u v w (record { rule = q₁; a = t.a; b = t.b; c = t.c })
  unfolding counts
  judged n {u} {v} {w} {t} g e₂ e₃ f₂ e₁ f₁ =
      let a = sighted g.a in
      let b = sighted g.b in
      let c = sighted g.c in
      let low : (i : Entry) (k : Sight) → StandsIn m k → PlacedUpTo (length m) (counted n x.at i (seen_of k)) =
      λ i k s. counted_low n (length m) x.at k.first.at (omega (arith, h.fits)) i k.times s.1 in
      record {
        rule = rw (f₁, f₂, e₁, e₂, e₃, a.all, b.all, c.all, then_last) refl;
        low =
            rw (f₁, f₂, e₁, e₂, e₃)
            (then_low _ _ _ (low u t.a a.stands)
            (then_low _ _ _ (low v t.b b.stands) (low w t.c c.stands)));
        a = a;
        b = b;
        c = c;
      }
