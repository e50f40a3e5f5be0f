-- No dummy player: the player of the written rules has both halves of demand 3; one that is stuck on all fails the first, and one that
-- passes every plan over a set's tracks without looking which of them it names fails the second.
use mathlib.Core.Path.{◌≡◌, refl, sym, ap, subst, ◌∙◌}
use mathlib.Core.Logic.{◌⊎◌, inl, inr}
use mathlib.Core.Bool.{Bool, true, ◌&&◌}
use mathlib.Core.List.{List, [], ◌∷◌}
use Prim.Native.Nat.{ℕ, ◌+◌, ◌<◌}
use native.Mathlib.Omega.{arith}
use lib.ListN.{length, take}
use lib.Dec.{ltb}
use borrow.Author.Tests.{lt-ltb}
use Rattle.numbers.specs.Numbers.{when}
use Rattle.rules.specs.Bytes.{single, shifted, track_t}
use Rattle.rules.specs.Track.{boundaries}
use Rattle.rules.specs.Set.{track0}
use Rattle.rules.specs.Player.{stuck, passed, play}
use Rattle.rules.specs.Plans.{All, Over, Comparable, OneStuck, TicksDiffer, Player, ToldApart, HasFirstHalf, HasSecondHalf, HasStuckHalf}
use Rattle.rules.specs.Sets.{t_accepted, t_fragments, single_accepted, shifted_accepted, single_alike, shifted_alike, set_of_t}
use Rattle.std.proofs.lemmas.Bool.{and_from}
use Rattle.rules.proofs.Plays.{Passes, passed_same}
use Rattle.rules.proofs.FirstHalf.{first_half}
use Rattle.rules.proofs.SecondHalf.{stays, second_half, second_half_27}
use Rattle.rules.proofs.Sets.{set_27, set_28}

-- the player of the written rules has them all
pub player_first : HasFirstHalf play
player_first = first_half

pub player_second : HasSecondHalf play
player_second ss k p a o h = (stays ss k 0, stays ss k k, second_half ss k p a h)

pub player_stuck : HasStuckHalf play
player_stuck ss k p a o h = let y = second_half_27 ss k p a h in (stays ss k 0, stays ss k k, y.1, y.2)

-- stuck on all: such a player fails the first half, on T by itself
pub stuck_on_all_fails : (player : Player) → ((ss : List (List ℕ)) (plan : List ℕ) → player ss plan ≡ stuck) → HasFirstHalf player → ⊥
stuck_on_all_fails player d f =
    subst Passes
    (sym (f (track_t ∷ []) (0 ∷ []) set_of_t ((omega arith, (omega arith, tt)), omega (arith, t_fragments))) ∙ d (track_t ∷ []) (0 ∷ []))
    tt

-- T beside a shorter track, and beside itself a tick later
shorter : List (List ℕ)
shorter = track_t ∷ single 0 108 30 ∷ []

shifted_set : List (List ℕ)
shifted_set = track_t ∷ shifted ∷ []

-- never stuck: a player that passes every plan over a set's tracks fails the second half under 27, whatever it does on other plans
pub never_stuck_fails : (player : Player) → ((ss : List (List ℕ)) (plan : List ℕ) → Over ss plan → player ss plan ≡ stuck → ⊥)
    → HasStuckHalf player → ⊥
unfolding shorter
never_stuck_fails player d f = go (f shorter 1 630 (t_accepted, (single_accepted, tt)) ((refl, refl), (single_alike, tt)) set_27)
  where
    by : (one other : List ℕ) → Over shorter one → Over shorter other → OneStuck (player shorter one) (player shorter other) → ⊥
    by one other u v (inl h) = d shorter other v h.2
    by one other u v (inr h) = d shorter one u h.1

    go : (one : List ℕ) × (other : List ℕ) × Comparable shorter one other × OneStuck (player shorter one) (player shorter other) → ⊥
    go h = by h.0 h.1 h.2.0 h.2.1 h.3

-- blind to the choice: a player that passes every plan over a set's tracks, and doesn't look which of them it names, fails the second half,
-- whatever it does on other plans, as on one that names no track
pub blind_fails : (player : Player) → (ticks : List (List ℕ) → ℕ → List ℕ)
    → ((ss : List (List ℕ)) (plan : List ℕ) → Over ss plan → player ss plan ≡ passed (ticks ss (length plan))) → HasSecondHalf player → ⊥
unfolding shifted_set
blind_fails player ticks d f = go (f shifted_set 1 492 (t_accepted, (shifted_accepted, tt)) ((refl, refl), (shifted_alike, tt)) (inr set_28))
  where
    passes : (plan : List ℕ) → Over shifted_set plan → player shifted_set plan ≡ stuck → ⊥
    passes plan o e = subst Passes (sym (d shifted_set plan o) ∙ e) tt

    by : (one other : List ℕ) → Over shifted_set one → Over shifted_set other → length one ≡ length other
        → OneStuck (player shifted_set one) (player shifted_set other) ⊎ TicksDiffer (player shifted_set one) (player shifted_set other) → ⊥
    by one other u v l (inl (inl h)) = passes other v h.2
    by one other u v l (inl (inr h)) = passes one u h.1
    by one other u v l (inr h) =
        let same : player shifted_set one ≡ player shifted_set other =
        d shifted_set one u ∙ ap (λ (n : ℕ). passed (ticks shifted_set n)) l ∙ sym (d shifted_set other v) in
        h.4 (passed_same h.0 h.1 (sym h.2 ∙ same ∙ h.3))

    go : (one : List ℕ) × (other : List ℕ) × ToldApart player shifted_set one other → ⊥
    go h = by h.0 h.1 h.2.0.0 h.2.0.1 h.2.0.2 h.2.1

-- so the table of track 0 by itself is no player, though it has the first half
pub table_player : Player
table_player ss plan = passed (take (length plan + 1) (boundaries (track0 ss)))

pub table_player_first : HasFirstHalf table_player
unfolding table_player
table_player_first ss plan h p = refl

pub table_player_fails : HasSecondHalf table_player → ⊥
unfolding table_player
table_player_fails = blind_fails table_player (λ ss n. take (n + 1) (boundaries (track0 ss))) (λ ss plan o. refl)

-- whether every choice of a plan is below a number
names : ℕ → List ℕ → Bool
names n [] = true
names n (i ∷ plan) = ltb i n && names n plan

all_named : (n : ℕ) (plan : List ℕ) → All (λ i. i < n) plan → names n plan ≡ true
unfolding names
all_named n [] a = refl
all_named n (i ∷ plan) a = and_from (ltb i n) (names n plan) (lt-ltb i n a.0) (all_named n plan a.1)

-- nor is the table of track 0 that is stuck where a choice names no track, and only there
pub named_table_player : Player
named_table_player ss plan = when (names (length ss) plan) (passed (take (length plan + 1) (boundaries (track0 ss)))) stuck

pub named_table_player_passes : (ss : List (List ℕ)) (plan : List ℕ) → Over ss plan
    → named_table_player ss plan ≡ passed (take (length plan + 1) (boundaries (track0 ss)))
unfolding named_table_player
named_table_player_passes ss plan o = rw (all_named (length ss) plan o.1)

pub named_table_player_first : HasFirstHalf named_table_player
named_table_player_first ss plan h p = named_table_player_passes ss plan p.0

pub named_table_player_fails : HasSecondHalf named_table_player → ⊥
named_table_player_fails = blind_fails named_table_player (λ ss n. take (n + 1) (boundaries (track0 ss))) named_table_player_passes
