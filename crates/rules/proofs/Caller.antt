-- Demand 3 from what a caller sees: the outcome of the set job. Its contract is that what it gives back is `set_outcome`.
use mathlib.Core.Path.{◌≡◌, refl, sym, ap, subst, ◌∙◌}
use mathlib.Core.Logic.{◌⊎◌, inl, inr}
use mathlib.Core.Bool.{Bool, true, false, false≢true}
use mathlib.Core.List.{List, [], ◌∷◌, ◌++◌}
use Prim.Native.Nat.{ℕ, suc, ◌+◌, ◌≤◌, ◌<◌}
use native.Mathlib.Omega.{arith}
use lib.ListN.{length, take, drop, length-append}
use lib.Seq.{take-append-le}
use lib.Dec.{ltb}
use Rattle.numbers.specs.Numbers.{when}
use Rattle.rules.specs.Refusals.{member, set_numbers}
use Rattle.rules.specs.Rules.{◌then◌, on_rule, Rule, breaks}
use Rattle.rules.specs.Track.{rule1, fragment_count, timescale, boundaries, Outcome, refused, accepted, room_for}
use Rattle.rules.specs.Bundle.{Records, none, wrong, track, records, rule24_from, rule24, tracks_of, tracks}
use Rattle.rules.specs.Set.{rulings, agree, track0, set_ruling, bundle_ruling, set_outcome}
use Rattle.rules.specs.Player.{Played, passed, play}
use Rattle.rules.specs.Plans.{All, Plan, ToldApart, Singly}
use Rattle.std.specs.Prelude.{Ok, Err}
use Rattle.rules.proofs.Then.{broken, then_first, then_second}
use Rattle.rules.proofs.Boundaries.{a_fragment, boundaries_length}
use Rattle.rules.proofs.Refusals.{never_0, refused_as_set}
use Rattle.rules.proofs.FirstHalf.{each_ruling, accepted_set, first_half_bundle}
use Rattle.rules.proofs.SecondHalf.{stays, names_a_track, second_half}

-- what an outcome of the set job with at least one fragment counted says: the bundle is accepted, the count is track 0's number
-- of fragments, and the table begins with its boundaries
abbrev AcceptedSet : List ℕ → List ℕ → Outcome → Type 0
AcceptedSet b t o =
    (bundle_ruling b ≡ Ok tt)
    × (o.verdict.number ≡ 0)
    × (o.verdict.count ≡ fragment_count (track0 (tracks b)))
    × (o.table ≡ boundaries (track0 (tracks b)) ++ drop (length (boundaries (track0 (tracks b)))) t)

-- an outcome with what no refusal has is an acceptance
accepts : (b t : List ℕ) (has : Outcome → Type 0) → ((n k p : ℕ) → 1 ≤ n → has (refused n k p t) → ⊥) → has (set_outcome b t)
    → AcceptedSet b t (set_outcome b t)
unfolding set_outcome room_for accepted
accepts b t has no-refusal h = go (bundle_ruling b) refl h
  where
    s₀ : List ℕ
    s₀ = track0 (tracks b)

    f : Rule → Outcome
    f r = on_rule r (λ _. room_for (fragment_count s₀) (timescale s₀) (boundaries s₀) t) (λ n k p. refused n k p t)

    room : (w : Bool) → bundle_ruling b ≡ Ok tt
        → has (when w (refused 23 0 0 t) (accepted (fragment_count s₀) (timescale s₀) (boundaries s₀) t))
        → AcceptedSet b t (when w (refused 23 0 0 t) (accepted (fragment_count s₀) (timescale s₀) (boundaries s₀) t))
    room true e y = absurd (no-refusal 23 0 0 (omega arith) y)
    room false e y = (e, refl, refl, refl)

    go : (r : Rule) → bundle_ruling b ≡ r → has (f r) → AcceptedSet b t (f r)
    go (Ok u) e y = room (ltb (length t) (length (boundaries s₀))) e y
    go (Err q) e y = absurd (no-refusal q.number q.track q.place (never_0 b q.number q.track q.place e) y)

-- a count of at least one is an acceptance: a refusal counts none
pub count_accepts : (b t : List ℕ) → 1 ≤ (set_outcome b t).verdict.count → AcceptedSet b t (set_outcome b t)
unfolding refused
count_accepts b t h = accepts b t (λ o. 1 ≤ o.verdict.count) (λ n k p l y. let z : ⊥ = omega (arith, y) in z) h

-- a verdict of number 0 is an acceptance: no refusal has that number
pub zero_accepts : (b t : List ℕ) → (set_outcome b t).verdict.number ≡ 0 → AcceptedSet b t (set_outcome b t)
unfolding refused
zero_accepts b t h = accepts b t (λ o. o.verdict.number ≡ 0) (λ n k p l y. let z : ⊥ = omega (arith, l, y) in z) h

-- an accepted bundle has a track
a_track : (b : List ℕ) → bundle_ruling b ≡ Ok tt → 1 ≤ length (tracks b)
unfolding bundle_ruling rule24 rule24_from tracks tracks_of
a_track b h =
    go (records b) (then_first (rule24 b) (set_ruling (tracks b)) (then_second (rule1 (length b)) (rule24 b then set_ruling (tracks b)) h))
  where
    go : (rs : Records) → rule24_from 0 rs ≡ Ok tt → 1 ≤ length (tracks_of b rs)
    go none e = absurd (broken e)
    go (wrong at) e = absurd (broken e)
    go (track from n rs) e = omega arith

-- and its track 0 has a fragment
first_fragment : (ss : List (List ℕ)) → 1 ≤ length ss → set_ruling ss ≡ Ok tt → 1 ≤ fragment_count (track0 ss)
unfolding set_ruling
first_fragment [] l h = let z : ⊥ = omega (arith, l) in absurd z
first_fragment (s ∷ ss) l h =
    a_fragment s (each_ruling 0 (s ∷ ss) (then_first (rulings 0 (s ∷ ss)) (agree s 1 ss) h)).0

-- from what a caller sees: the set job gave back o, a verdict with so many fragments and a table; then every plan of at least one and
-- at most that many fragments, whose every choice is below the number of tracks, plays and passes the table's first numbers.
-- (A refusal counts no fragment, so there is then no such plan: the number 0 needs no asking for.)
pub caller : (b t : List ℕ) (o : Outcome) → o ≡ set_outcome b t → (plan : List ℕ) → 1 ≤ length plan → length plan ≤ o.verdict.count
    → All (λ i. i < length (tracks b)) plan → play (tracks b) plan ≡ passed (take (length plan + 1) o.table)
caller b t o e plan h l a =
    let s₀ = track0 (tracks b) in
    let m : o.verdict.count ≡ (set_outcome b t).verdict.count = ap (λ (q : Outcome). q.verdict.count) e in
    let c = count_accepts b t (omega (arith, h, l, m)) in
    let n : fragment_count s₀ ≡ o.verdict.count = sym (m ∙ c.2) in
    let w : length (boundaries s₀) ≡ suc (fragment_count s₀) = boundaries_length s₀ (omega (arith, h, l, n)) in
    let u : take (length plan + 1) (boundaries s₀) ≡ take (length plan + 1) (boundaries s₀ ++ drop (length (boundaries s₀)) t) =
    sym (take-append-le (length plan + 1) (boundaries s₀) (drop (length (boundaries s₀)) t) (omega (arith, l, n, w))) in
    let v : o.table ≡ boundaries s₀ ++ drop (length (boundaries s₀)) t = ap (λ (q : Outcome). q.table) e ∙ c.3 in
    first_half_bundle b plan c.0 ((h, a), omega (arith, l, n))
    ∙ ap {B = Played} passed (u ∙ ap (take (length plan + 1)) (sym v))

-- the verdict was 0: then there is a track and a fragment, the table has room for one number more than there are fragments, and every
-- plan plays and passes the table's first numbers
pub caller_0 : (b t : List ℕ) (o : Outcome) → o ≡ set_outcome b t → o.verdict.number ≡ 0
    → (1 ≤ length (tracks b))
    × (1 ≤ o.verdict.count)
    × (o.verdict.count < length o.table)
    × ((plan : List ℕ) → 1 ≤ length plan → length plan ≤ o.verdict.count → All (λ i. i < length (tracks b)) plan
    → play (tracks b) plan ≡ passed (take (length plan + 1) o.table))
caller_0 b t o e z =
    let s₀ = track0 (tracks b) in
    let c = zero_accepts b t (sym (ap (λ (q : Outcome). q.verdict.number) e) ∙ z) in
    let k = a_track b c.0 in
    let f = first_fragment (tracks b) k (accepted_set b c.0) in
    let m : o.verdict.count ≡ fragment_count s₀ = ap (λ (q : Outcome). q.verdict.count) e ∙ c.2 in
    let w = boundaries_length s₀ f in
    let v : length o.table ≡ length (boundaries s₀) + length (drop (length (boundaries s₀)) t) =
    ap (λ (q : Outcome). length q.table) e ∙ ap length c.3 ∙ length-append (boundaries s₀) (drop (length (boundaries s₀)) t) in
    (k, omega (arith, m, f), omega (arith, m, w, v), caller b t o e)

-- so the set that the bundle holds is accepted, and the plans that the count allows are its plans: each named consequence of the first
-- half, fragment by fragment, holds of them
pub caller_set : (b t : List ℕ) (o : Outcome) → o ≡ set_outcome b t → o.verdict.number ≡ 0 → set_ruling (tracks b) ≡ Ok tt
caller_set b t o e z = accepted_set b (zero_accepts b t (sym (ap (λ (q : Outcome). q.verdict.number) e) ∙ z)).0

pub caller_plan : (b t : List ℕ) (o : Outcome) → o ≡ set_outcome b t → (plan : List ℕ) → 1 ≤ length plan → length plan ≤ o.verdict.count
    → All (λ i. i < length (tracks b)) plan → Plan (tracks b) plan
caller_plan b t o e plan h l a =
    let m : o.verdict.count ≡ (set_outcome b t).verdict.count = ap (λ (q : Outcome). q.verdict.count) e in
    let c = count_accepts b t (omega (arith, h, l, m)) in
    ((h, a), omega (arith, l, m, c.2))

-- an outcome with a number of a set is a refusal of the bundle, with the track that it names
refusal_seen : (b t : List ℕ) → member (set_outcome b t).verdict.number set_numbers ≡ true
    → (p : ℕ) × (bundle_ruling b ≡ breaks (set_outcome b t).verdict.number (set_outcome b t).verdict.track p)
unfolding set_outcome room_for accepted refused member
refusal_seen b t h = go (bundle_ruling b) refl h
  where
    s₀ : List ℕ
    s₀ = track0 (tracks b)

    f : Rule → Outcome
    f r = on_rule r (λ _. room_for (fragment_count s₀) (timescale s₀) (boundaries s₀) t) (λ n k p. refused n k p t)

    room : (w : Bool)
        → member (when w (refused 23 0 0 t) (accepted (fragment_count s₀) (timescale s₀) (boundaries s₀) t)).verdict.number set_numbers ≡ true → ⊥
    room true m = false≢true m
    room false m = false≢true m

    go : (r : Rule) → bundle_ruling b ≡ r → member (f r).verdict.number set_numbers ≡ true
        → (p : ℕ) × (bundle_ruling b ≡ breaks (f r).verdict.number (f r).verdict.track p)
    go (Ok u) e m = absurd (room (ltb (length t) (length (boundaries s₀))) m)
    go (Err q) e m = (q.place, e)

-- the verdict was 27 or 28: it names a track of the bundle, and the two plans that stay on track 0 and on that one tell the set apart
pub caller_27_or_28 : (b t : List ℕ) (o : Outcome) → o ≡ set_outcome b t → (o.verdict.number ≡ 27) ⊎ (o.verdict.number ≡ 28)
    → (o.verdict.track < length (tracks b))
    × ToldApart play (tracks b) (stays (tracks b) o.verdict.track 0) (stays (tracks b) o.verdict.track o.verdict.track)
unfolding member
caller_27_or_28 b t o e w = subst Apart (sym e) (go (subst Number e w))
  where
    Apart : Outcome → Type 0
    Apart q =
        (q.verdict.track < length (tracks b))
        × ToldApart play (tracks b) (stays (tracks b) q.verdict.track 0) (stays (tracks b) q.verdict.track q.verdict.track)

    Number : Outcome → Type 0
    Number q = (q.verdict.number ≡ 27) ⊎ (q.verdict.number ≡ 28)

    k : ℕ
    k = (set_outcome b t).verdict.track

    at : (n : ℕ) → member n set_numbers ≡ true → (set_outcome b t).verdict.number ≡ n
        → (p : ℕ) × Singly (tracks b) × (set_ruling (tracks b) ≡ breaks n k p)
    at n l q =
        let y = refusal_seen b t (rw q l) in
        let r = refused_as_set b n k y.0 l (y.1 ∙ ap (λ (i : ℕ). breaks i k y.0) q) in
        (y.0, each_ruling 0 (tracks b) r.0, r.1)

    go : Number (set_outcome b t) → Apart (set_outcome b t)
    go (inl q) = let y = at 27 refl q in (names_a_track (tracks b) 27 k y.0 y.1 y.2, second_half (tracks b) k y.0 y.1 (inl y.2))
    go (inr q) = let y = at 28 refl q in (names_a_track (tracks b) 28 k y.0 y.1 y.2, second_half (tracks b) k y.0 y.1 (inr y.2))
