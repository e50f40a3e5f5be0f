-- Laws of one walk over sibling boxes: what is seen of an entry, a box at a time.
use mathlib.Core.Path.{◌≡◌, refl, sym, ap, ◌∙◌}
use mathlib.Core.List.{List, []}
use mathlib.Core.Bool.{Bool, true, false}
use mathlib.Core.Logic.{inl, inr}
use Prim.Native.Nat.{ℕ}
use native.Mathlib.Omega.{arith}
use Rattle.numbers.specs.Numbers.{when}
use Rattle.rules.specs.Boxes.{boxes}
use Rattle.rules.specs.Counts.{wanted, again, seen, seen_from}
use Rattle.rules.specs.declared.Entry.{Entry}
use Rattle.rules.proofs.Forest.{seen_end}
use Rattle.boxes.specs.Stands.{Stands}
use Rattle.rules.specs.declared.Spot.{Spot}
use Rattle.boxes.specs.Siblings.{FirstOf}
use Rattle.boxes.specs.declared.Sibling.{Sibling}
use Rattle.counts.specs.Sights.{seen_by, seen_of, again_by, again_at, Keeps, Saw}
use Rattle.counts.specs.declared.Times.{Times}
use Rattle.counts.specs.declared.Times.TheVariants.{Unseen, Single, Several}
use Rattle.counts.specs.declared.Sight.{Sight}

-- one box more: what is seen, and what is kept of it
module _ (x b : Spot) where
  pub seen_again : (t : Times) → seen_of (again_by x t b) ≡ again x.at (seen_by t b.at)
  seen_again Unseen = refl
  seen_again Single = refl
  seen_again (Several p) = refl

  pub keeps_again : {s : List ℕ} {k : Spot} (t : Times) → Stands s x → Keeps s k (record { first = b; times = t }) → Keeps s k (again_by x t b)
  keeps_again Unseen h g = record { first = refl; stands = inr h; second = tt }
  keeps_again Single h g = record { first = refl; stands = g.stands; second = omega (arith, h.fits) }
  keeps_again (Several p) h g = record { first = refl; stands = g.stands; second = g.second }

-- what is seen of an entry from a place on is v and what is seen from `at` on
pub record SeenTo (s : List ℕ) (k : Spot) (from at : ℕ) (e : Entry) (v : Sight) : Type 0 where
  pub all : seen e (boxes s from) ≡ seen_from (seen_of v) e (boxes s at)
  pub keeps : Keeps s k v

-- from there on, before the first box
pub going_none : (s : List ℕ) (k : Spot) (from : ℕ) (e : Entry) → SeenTo s k from from e (record { first = k; times = Unseen })
going_none s k from e = record { all = refl; keeps = record { first = refl; stands = inl refl; second = tt } }

pub going_all : {s : List ℕ} {k : Spot} {from at : ℕ} {e : Entry} {v : Sight} → SeenTo s k from at e v → boxes s at ≡ [] → Saw s k from e v
going_all {s} {k} {from} {at} {e} {v} g o = record { all = sym (g.all ∙ seen_end s at (seen_of v) e o); keeps = g.keeps }

-- past a box that is wanted, and past one that is not
module _ {s : List ℕ} {at q : ℕ} {b : Sibling} (f : FirstOf s at q b) {c : Spot} {from : ℕ} {w : Entry} {v : Sight} (g : SeenTo s c from at w v) where
  more : (t : Bool) → wanted w b.kind ≡ t → seen w (boxes s from) ≡ seen_from (when t (again b.spot.at (seen_of v)) (seen_of v)) w (boxes s q)
  unfolding seen_from
  more t e = g.all ∙ rw (← e) (ap (seen_from (seen_of v) w) f.boxes)

  pub going_hit : {r x : Sight} → wanted w b.kind ≡ true → r ≡ again_at b.spot v → x ≡ r → SeenTo s c from q w x
  going_hit {r} {x} e a i =
      rw (i, a)
      (record {
        all = more true e ∙ ap (λ (y : _). seen_from y w (boxes s q)) (sym (seen_again b.spot v.first v.times));
        keeps = keeps_again b.spot v.first v.times f.stands g.keeps;
      })

  pub going_miss : {x : Sight} → wanted w b.kind ≡ false → x ≡ v → SeenTo s c from q w x
  going_miss e i = rw i (record { all = more false e; keeps = g.keeps })
