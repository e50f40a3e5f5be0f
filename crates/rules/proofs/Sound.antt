-- The rules before timing as the player meets them are the rules' own, in their own order: they hold exactly where each group of them does, and a track
-- that is refused under one of them is one on which the player is stuck.
use mathlib.Core.Path.{◌≡◌, refl}
use mathlib.Core.Option.{none, some}
use mathlib.Core.List.{List, [], ◌∷◌}
use mathlib.Core.Bool.{true}
use Prim.Native.Nat.{ℕ}
use lib.ListN.{length, get_elem?}
use Rattle.rules.specs.Refusals.{member, among, apart, shape_numbers, timing_numbers, met_numbers}
use Rattle.rules.specs.Rules.{◌then◌, Rule, breaks}
use Rattle.rules.specs.Framing.{rules_of_framing}
use Rattle.rules.specs.Order.{rule6}
use Rattle.rules.specs.Track.{rule1, rules_of_header, ruling, rules_of_chunks, header_of, chunks, shape_at, timing_at, end_at}
use Rattle.rules.specs.Player.{shapes, rules_before_timing, State, stream_of, begin, step_on, stuck, play}
use Rattle.rules.specs.Plans.{All}
use Rattle.std.specs.Prelude.{Option, None, Some, Ok, Err}
use Rattle.rules.specs.declared.Header.{Header}
use Rattle.rules.proofs.Then.{then_both, both_hold, then_under}
use Rattle.rules.proofs.Members.{member_apart}
use Rattle.rules.proofs.Numbered.{Numbered, wider, n_then, n_holds, passes_on}
use Rattle.rules.proofs.NumbersOfTrack.{n_front, n_shape_at, n_timing_at}
use Rattle.rules.proofs.Stuck.{stuck_broken_rule, plan_stuck, play_is_stuck}

-- each group of the rules before timing holds of a track: its length, framing, order and header, and the shape of every chunk
abbrev pub GroupsHold : List ℕ → Type 0
GroupsHold s =
    (rule1 (length s) ≡ Ok tt)
    × (rules_of_framing s ≡ Ok tt)
    × (rule6 s ≡ Ok tt)
    × (rules_of_header s ≡ Ok tt)
    × All (λ x. shape_at s (header_of s) x ≡ Ok tt) (chunks s)

-- the shape of every chunk, as one rule and one by one
shapes_hold : (s : List ℕ) (h : Header) (xs : List ℕ) → All (λ x. shape_at s h x ≡ Ok tt) xs → shapes s h xs ≡ Ok tt
unfolding shapes
shapes_hold s h [] a = refl
shapes_hold s h (x ∷ xs) a = let r = shapes_hold s h xs a.1 in search (both_hold, a.0, r)

each_shape : (s : List ℕ) (h : Header) (xs : List ℕ) → shapes s h xs ≡ Ok tt → All (λ x. shape_at s h x ≡ Ok tt) xs
unfolding shapes
each_shape s h [] e = tt
each_shape s h (x ∷ xs) e = let y = then_both (shape_at s h x) (shapes s h xs) e in (y.0, each_shape s h xs y.1)

-- where each group holds, the rules before timing do
pub keeps_hold : (s : List ℕ) → GroupsHold s → rules_before_timing s ≡ Ok tt
unfolding rules_before_timing
keeps_hold s k =
    let f = shapes_hold s (header_of s) (chunks s) k.4 in
    search (both_hold, k.0, k.1, k.2, k.3, f) depth 10

-- and where they do, each group holds: the player is blind to none of them
pub hold_keeps : (s : List ℕ) → rules_before_timing s ≡ Ok tt → GroupsHold s
unfolding rules_before_timing
hold_keeps s e =
    let f = shapes s (header_of s) (chunks s) in
    let a = then_both (rule1 (length s)) (rules_of_framing s then rule6 s then rules_of_header s then f) e in
    let b = then_both (rules_of_framing s) (rule6 s then rules_of_header s then f) a.1 in
    let c = then_both (rule6 s) (rules_of_header s then f) b.1 in
    let d = then_both (rules_of_header s) f c.1 in
    (a.0, b.0, c.0, d.0, each_shape s (header_of s) (chunks s) d.1)

-- the rules of chunks hold, so the shape of each does
shaped : (s : List ℕ) (h : Header) (prev : Option ℕ) (xs : List ℕ) → rules_of_chunks s h prev xs ≡ Ok tt → All (λ x. shape_at s h x ≡ Ok tt) xs
unfolding rules_of_chunks
shaped s h prev [] r = tt
shaped s h prev (x ∷ xs) r =
    let rest = rules_of_chunks s h (Some (end_at s h x)) xs in
    let y = then_both (shape_at s h x) (timing_at s h prev x then rest) r in
    (y.0, shaped s h (Some (end_at s h x)) xs (then_both (timing_at s h prev x) rest y.1).1)

-- what an accepted track keeps: each group of the rules before timing, and the rules of its chunks
pub accepted_keeps : (s : List ℕ) → ruling s ≡ Ok tt → GroupsHold s × (rules_of_chunks s (header_of s) None (chunks s) ≡ Ok tt)
unfolding ruling
accepted_keeps s e =
    let f = rules_of_chunks s (header_of s) None (chunks s) in
    let a = then_both (rule1 (length s)) (rules_of_framing s then rule6 s then rules_of_header s then f) e in
    let b = then_both (rules_of_framing s) (rule6 s then rules_of_header s then f) a.1 in
    let c = then_both (rule6 s) (rules_of_header s then f) b.1 in
    let d = then_both (rules_of_header s) f c.1 in
    ((a.0, b.0, c.0, d.0, shaped s (header_of s) None (chunks s) d.1), d.1)

-- an accepted track keeps the rules before timing
pub accepted_sound : (s : List ℕ) → ruling s ≡ Ok tt → rules_before_timing s ≡ Ok tt
accepted_sound s r = keeps_hold s (accepted_keeps s r).0

-- a refusal of chunks under a number that the player meets is one of the shapes, which are then refused alike: timing has other numbers
shape_refused : (s : List ℕ) (h : Header) (prev : Option ℕ) (xs : List ℕ) (n t p : ℕ) → member n met_numbers ≡ true → rules_of_chunks s h prev xs ≡ breaks n t p
    → shapes s h xs ≡ breaks n t p
unfolding rules_of_chunks shapes apart member
shape_refused s h prev [] n t p l e = e
shape_refused s h prev (x ∷ xs) n t p l e =
    let rest = rules_of_chunks s h (Some (end_at s h x)) xs in
    then_under (shape_at s h x) (timing_at s h prev x then rest) (shapes s h xs) n t p
    (λ y. shape_refused s h (Some (end_at s h x)) xs n t p l
    (passes_on timing_numbers (timing_at s h prev x) rest n t p (n_timing_at s h prev x) (member_apart n met_numbers timing_numbers l refl) y).1) e

-- a track refused under a number that the player meets: it meets the same refusal
pub refused_alike : (s : List ℕ) (n t p : ℕ) → member n met_numbers ≡ true → ruling s ≡ breaks n t p → rules_before_timing s ≡ breaks n t p
unfolding ruling rules_before_timing
refused_alike s n t p l e =
    let f = rules_of_chunks s (header_of s) None (chunks s) in
    let f' = shapes s (header_of s) (chunks s) in
    then_under (rule1 (length s)) (rules_of_framing s then rule6 s then rules_of_header s then f) (rules_of_framing s then rule6 s then rules_of_header s then f') n t p
    (then_under (rules_of_framing s) (rule6 s then rules_of_header s then f) (rule6 s then rules_of_header s then f') n t p
    (then_under (rule6 s) (rules_of_header s then f) (rules_of_header s then f') n t p
    (then_under (rules_of_header s) f f' n t p (shape_refused s (header_of s) None (chunks s) n t p l)))) e

-- so every step on it is stuck, and every play that chooses it first
pub stuck_refused : (g : State) (s : List ℕ) (n t p : ℕ) → member n met_numbers ≡ true → ruling s ≡ breaks n t p → step_on g (stream_of s) ≡ none
stuck_refused g s n t p l e = stuck_broken_rule g s n t p (refused_alike s n t p l e)

pub play_stuck_refused : (ss : List (List ℕ)) (i : ℕ) (plan s : List ℕ) (n t p : ℕ) → get_elem? ss i ≡ some s → member n met_numbers ≡ true
    → ruling s ≡ breaks n t p → play ss (i ∷ plan) ≡ stuck
play_stuck_refused ss i plan s n t p a l e = play_is_stuck ss i plan (plan_stuck ss begin i plan s a (stuck_refused begin s n t p l e))

-- so is every step on a track of which one group fails, though an earlier refusal of its timing may be the one that a verdict gives
pub stuck_unkept : (g : State) (s : List ℕ) → (GroupsHold s → ⊥) → step_on g (stream_of s) ≡ none
stuck_unkept g s f = go (rules_before_timing s) refl
  where
    go : (r : Rule) → rules_before_timing s ≡ r → step_on g (stream_of s) ≡ none
    go (Ok u) e = absurd (f (hold_keeps s e))
    go (Err q) e = stuck_broken_rule g s q.number q.track q.place e

-- the numbers that the player can meet: all of a track's but those of timing
n_shapes : (s : List ℕ) (h : Header) (xs : List ℕ) → Numbered shape_numbers (shapes s h xs)
unfolding shapes
n_shapes s h [] = n_holds
n_shapes s h (x ∷ xs) = n_then _ _ (n_shape_at s h x) (n_shapes s h xs)

pub met_numbered : (s : List ℕ) → Numbered met_numbers (rules_before_timing s)
unfolding rules_before_timing among member
met_numbered s =
    n_front met_numbers s _ refl (wider shape_numbers met_numbers _ refl (n_shapes s (header_of s) (chunks s)))
