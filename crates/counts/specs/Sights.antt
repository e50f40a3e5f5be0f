-- What is seen of an entry in a container, and what a container's counts come to.
use Rattle.std.specs.Prelude.{ℕ, ◌≤◌, ◌≡◌, List, [], ◌∷◌, ◌⊎◌, length}
use Rattle.rules.specs.Boxes.{boxes, kids}
use Rattle.rules.specs.Rules.{PlacedUpTo}
use Rattle.rules.specs.Counts.{seen, first_of, first_in, counts}
use Rattle.rules.specs.declared.Entry.{Entry}
use Rattle.rules.specs.declared.Seen.{Seen}
use Rattle.rules.specs.declared.Seen.TheVariants.{Never, Once, Twice}
use Rattle.boxes.specs.Stands.{Stands}
use Rattle.rules.specs.declared.Spot.{Spot}
use Rattle.counts.specs.declared.Sight.{Sight}
use Rattle.counts.specs.declared.Times.{Times}
use Rattle.counts.specs.declared.Times.TheVariants.{Unseen, Single, Several}
use Rattle.counts.specs.declared.Three.{Three}
use Rattle.counts.specs.declared.Counted.{Counted}

-- what is seen, by how many boxes and the place of the first
abbrev pub seen_by : Times → ℕ → Seen
seen_by Unseen a = Never
seen_by Single a = Once a
seen_by (Several p) a = Twice a p

-- the same of a sight
abbrev pub seen_of : Sight → Seen
seen_of v = seen_by v.times v.first.at

-- the place of the second box, where there is one, is up to n
abbrev pub SecondUpTo : ℕ → Times → Type 0
SecondUpTo n Unseen = Unit {0}
SecondUpTo n Single = Unit {0}
SecondUpTo n (Several p) = p ≤ n

-- the first box stands in the slice, and the second's place is in it
abbrev pub StandsIn : List ℕ → Sight → Type 0
StandsIn m v = Stands m v.first × SecondUpTo (length m) v.times

-- one more box, after those seen: by how many, and the first of them
abbrev pub again_by : Spot → Times → Spot → Sight
again_by x Unseen b = record { first = x; times = Single }
again_by x Single b = record { first = b; times = Several x.at }
again_by x (Several p) b = record { first = b; times = Several p }

abbrev pub again_at : Spot → Sight → Sight
again_at x v = again_by x v.times v.first

-- the first box is the first one seen and stands in the slice, or is the container k; the second's place is in the slice
pub record Keeps (s : List ℕ) (k : Spot) (v : Sight) : Type 0 where
  pub first : v.first.at ≡ first_of k.at (seen_of v)
  pub stands : (v.first ≡ k) ⊎ Stands s v.first
  pub second : SecondUpTo (length s) v.times

-- v is what is seen of an entry of the container k among the boxes of a slice from a place on
pub record Saw (s : List ℕ) (k : Spot) (from : ℕ) (e : Entry) (v : Sight) : Type 0 where
  pub all : seen_of v ≡ seen e (boxes s from)
  pub keeps : Keeps s k v

-- what is seen of three entries
pub record Tallied (s : List ℕ) (k : Spot) (from : ℕ) (u v w : Entry) (t : Three) : Type 0 where
  pub a : Saw s k from u t.a
  pub b : Saw s k from v t.b
  pub c : Saw s k from w t.c

-- v is what is seen of an entry in the container at a place, and its first box is the entry's, or the container where there is none
pub record Sighted (m : List ℕ) (at : ℕ) (e : Entry) (v : Sight) : Type 0 where
  pub all : seen_of v ≡ seen e (kids m at)
  pub first : v.first.at ≡ first_in m at e
  pub stands : StandsIn m v

-- rule n's counts in the container at a place, with what is seen of each entry
pub record Counts (n : ℕ) (m : List ℕ) (at : ℕ) (u v w : Entry) (r : Counted) : Type 0 where
  pub rule : r.rule ≡ counts n m at (u ∷ v ∷ w ∷ [])
  pub low : PlacedUpTo (length m) r.rule
  pub a : Sighted m at u r.a
  pub b : Sighted m at v r.b
  pub c : Sighted m at w r.c
