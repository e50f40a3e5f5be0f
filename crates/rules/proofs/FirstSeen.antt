-- Laws of what is seen first: it stays first, whatever is seen after it.
use mathlib.Core.Bool.{Bool, true, false}
use mathlib.Core.List.{List, [], ◌∷◌}
use Prim.Native.Nat.{ℕ}
use Rattle.numbers.specs.Numbers.{when}
use Rattle.rules.specs.Boxes.{Box}
use Rattle.rules.specs.Counts.{wanted, again, seen_from, first_of}
use Rattle.rules.specs.declared.Entry.{Entry}
use Rattle.rules.specs.declared.Seen.{Seen}
use Rattle.rules.specs.declared.Seen.TheVariants.{Never, Once, Twice}

-- something is seen, and first at a place of which P holds
abbrev pub First : (ℕ → Type 0) → Seen → Type 0
First P Never = ⊥
First P (Once a) = P a
First P (Twice a b) = P a

-- what is seen stays, and the first of it
first_again : (P : ℕ → Type 0) (at : ℕ) (v : Seen) (t : Bool) → First P v → First P (when t (again at v) v)
first_again P at Never t h = absurd h
first_again P at (Once a) true h = h
first_again P at (Once a) false h = h
first_again P at (Twice a b) true h = h
first_again P at (Twice a b) false h = h

pub first_stays : (P : ℕ → Type 0) (e : Entry) (v : Seen) (xs : List Box) → First P v → First P (seen_from v e xs)
unfolding seen_from
first_stays P e v [] h = h
first_stays P e v (x ∷ xs) h =
    first_stays P e (when (wanted e x.kind) (again x.at v) v) xs (first_again P x.at v (wanted e x.kind) h)

-- the first place seen is one of which P holds
pub first_at_lem : (P : ℕ → Type 0) (p : ℕ) (v : Seen) → First P v → P (first_of p v)
first_at_lem P p Never h = absurd h
first_at_lem P p (Once a) h = h
first_at_lem P p (Twice a b) h = h
