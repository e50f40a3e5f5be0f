-- Box counts as the paper lists them: what a container wants of its boxes, entry by entry, and what is seen of each entry.
use Rattle.std.specs.Prelude.{ℕ, List, [], ◌∷◌, Bool, false, ◌||◌, eqb, Ok}
use Rattle.numbers.specs.Numbers.{when}
use Rattle.rules.specs.Rules.{◌then◌, Rule, breaks}
use Rattle.rules.specs.Boxes.{Box, kids}
use Rattle.rules.specs.declared.Entry.{Entry}
use Rattle.rules.specs.declared.Entry.TheVariants.{Nothing, One, AtMostOne, OneOrMore, OneInAll}
use Rattle.rules.specs.declared.Seen.{Seen}
use Rattle.rules.specs.declared.Seen.TheVariants.{Never, Once, Twice}

-- whether a box of type k is one that an entry counts
unfoldable pub wanted : Entry → ℕ → Bool
wanted Nothing k = false
wanted (One w) k = eqb k w
wanted (AtMostOne w) k = eqb k w
wanted (OneOrMore w) k = eqb k w
wanted (OneInAll u v w) k = eqb k u || eqb k v || eqb k w

-- one more box at a place, after those seen
abbrev pub again : ℕ → Seen → Seen
again at Never = Once at
again at (Once a) = Twice a at
again at (Twice a b) = Twice a b

-- what is seen of an entry among boxes, after what was seen before
unfoldable pub seen_from : Seen → Entry → List Box → Seen
seen_from v e [] = v
seen_from v e (x ∷ xs) = seen_from (when (wanted e x.kind) (again x.at v) v) e xs

-- what is seen of an entry among boxes
abbrev pub seen : Entry → List Box → Seen
seen e xs = seen_from Never e xs

-- a case by what is seen
abbrev pub on_seen : {A : Type 0} → Seen → A → (ℕ → A) → (ℕ → ℕ → A) → A
on_seen Never a b c = a
on_seen (Once x) a b c = b x
on_seen (Twice x y) a b c = c x y

-- the first place seen, or another where there is none
abbrev pub first_of : ℕ → Seen → ℕ
first_of p v = on_seen v p (λ a. a) (λ a b. a)

-- the place of the first box of an entry in the container at a place, the container's own where there is none
unfoldable pub first_in : List ℕ → ℕ → Entry → ℕ
first_in m at e = first_of at (seen e (kids m at))

-- the same of a type
abbrev pub child : List ℕ → ℕ → ℕ → ℕ
child m at w = first_in m at (One w)

-- one box: the container's place if missing, the first extra box's if too many
unfoldable pub one_of : ℕ → ℕ → Seen → Rule
one_of n container v = on_seen v (breaks n 0 container) (λ a. Ok tt) (λ a b. breaks n 0 b)

-- at most one
unfoldable pub at_most_one_of : ℕ → Seen → Rule
at_most_one_of n v = on_seen v (Ok tt) (λ a. Ok tt) (λ a b. breaks n 0 b)

-- one or more
unfoldable pub some_of : ℕ → ℕ → Seen → Rule
some_of n container v = on_seen v (breaks n 0 container) (λ a. Ok tt) (λ a b. Ok tt)

-- rule n's count of an entry in a container, by what is seen of it
unfoldable pub counted : ℕ → ℕ → Entry → Seen → Rule
counted n container Nothing v = Ok tt
counted n container (One w) v = one_of n container v
counted n container (AtMostOne w) v = at_most_one_of n v
counted n container (OneOrMore w) v = some_of n container v
counted n container (OneInAll u x w) v = one_of n container v

-- rule n's counts in the container at a place, entry by entry
unfoldable pub counts : ℕ → List ℕ → ℕ → List Entry → Rule
counts n m at [] = Ok tt
counts n m at (e ∷ es) = counted n at e (seen e (kids m at)) then counts n m at es

-- rule n's counts in a container that may be absent, by what is seen of it
unfoldable pub counts_if : ℕ → List ℕ → Seen → List Entry → Rule
counts_if n m v es = on_seen v (Ok tt) (λ a. counts n m a es) (λ a b. counts n m a es)

-- the mark of this file: its definitions unfold wherever it does
unfoldable pub computed_counts : Unit {0}
unfolding wanted seen_from first_in one_of at_most_one_of some_of counted counts counts_if
computed_counts = tt
