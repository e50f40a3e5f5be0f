-- Plans of a set, what it is for two of them to tell a set apart, and both halves of demand 3 as properties of any player.
use Rattle.std.specs.Prelude.{ℕ, ◌+◌, ◌≤◌, ◌<◌, max, ◌≡◌, ◌⊎◌, List, [], ◌∷◌, length, take, Ok}
use Rattle.rules.specs.Track.{ruling, fragment_count, timescale, boundaries}
use Rattle.rules.specs.Set.{handler, track0, set_ruling}
use Rattle.rules.specs.Player.{Played, stuck, passed}
use Rattle.rules.specs.Rules.{breaks}

-- a property of every element
abbrev pub All : {A : Type 0} → (A → Type 0) → List A → Type 0
All P [] = Unit {0}
All P (x ∷ xs) = P x × All P xs

-- a plan over a set: it has a step, and every choice names a track of the set
abbrev pub Over : List (List ℕ) → List ℕ → Type 0
Over ss plan = (1 ≤ length plan) × All (λ i. i < length ss) plan

-- a plan of an accepted set: over the set, and no longer than track 0 has fragments
abbrev pub Plan : List (List ℕ) → List ℕ → Type 0
Plan ss plan = Over ss plan × (length plan ≤ fragment_count (track0 ss))

-- the longest track's number of fragments
unfoldable pub longest : List (List ℕ) → ℕ
longest [] = 0
longest (s ∷ ss) = max (fragment_count s) (longest ss)

-- two plans to compare: both over the set, of equal length, at most the longest track's number of fragments
abbrev pub Comparable : List (List ℕ) → List ℕ → List ℕ → Type 0
Comparable ss one other = Over ss one × Over ss other × (length one ≡ length other) × (length one ≤ longest ss)

-- one runs through and the other gets stuck
abbrev pub OneStuck : Played → Played → Type 0
OneStuck a b = ((ts : List ℕ) × (a ≡ passed ts) × (b ≡ stuck)) ⊎ ((ts : List ℕ) × (a ≡ stuck) × (b ≡ passed ts))

-- both run and their ticks differ
abbrev pub TicksDiffer : Played → Played → Type 0
TicksDiffer a b = (ts : List ℕ) × (us : List ℕ) × (a ≡ passed ts) × (b ≡ passed us) × (ts ≡ us → ⊥)

-- a player: what a plan comes to on tracks' bytes
abbrev pub Player : Type 0
Player = List (List ℕ) → List ℕ → Played

-- two plans tell a set apart: they compare, and one runs through and the other gets stuck, or both run and their ticks differ
abbrev pub ToldApart : Player → List (List ℕ) → List ℕ → List ℕ → Type 0
ToldApart player ss one other =
    Comparable ss one other × (OneStuck (player ss one) (player ss other) ⊎ TicksDiffer (player ss one) (player ss other))

-- each track is accepted by itself
abbrev pub Singly : List (List ℕ) → Type 0
Singly ss = All (λ s. ruling s ≡ Ok tt) ss

-- the tracks have one handler and one timescale
abbrev pub OneKind : List (List ℕ) → Type 0
OneKind ss = All (λ s. (handler s ≡ handler (track0 ss)) × (timescale s ≡ timescale (track0 ss))) ss

-- the first half, of any player: every plan of an accepted set passes the first boundaries of track 0, one more than it has steps
abbrev pub HasFirstHalf : Player → Type 0
HasFirstHalf player =
    (ss : List (List ℕ)) (plan : List ℕ) → set_ruling ss ≡ Ok tt → Plan ss plan
    → player ss plan ≡ passed (take (length plan + 1) (boundaries (track0 ss)))

-- the second half, of any player: tracks accepted singly, of one kind, refused as a set under 27 or 28, are told apart by two plans
abbrev pub HasSecondHalf : Player → Type 0
HasSecondHalf player =
    (ss : List (List ℕ)) (k p : ℕ) → Singly ss → OneKind ss → (set_ruling ss ≡ breaks 27 k p) ⊎ (set_ruling ss ≡ breaks 28 k p)
    → (one : List ℕ) × (other : List ℕ) × ToldApart player ss one other

-- its sharper part: under 27 one plan runs through and the other gets stuck
abbrev pub HasStuckHalf : Player → Type 0
HasStuckHalf player =
    (ss : List (List ℕ)) (k p : ℕ) → Singly ss → OneKind ss → set_ruling ss ≡ breaks 27 k p
    → (one : List ℕ) × (other : List ℕ) × Comparable ss one other × OneStuck (player ss one) (player ss other)

-- the mark of this file: its definitions unfold wherever it does
unfoldable pub computed_plans : Unit {0}
unfolding longest
computed_plans = tt
