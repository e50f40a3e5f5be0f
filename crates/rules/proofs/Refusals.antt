-- The numbers of refusals of a set and of a bundle, none of them 0. So a verdict of number 0 is an acceptance, and one of a set's own numbers
-- is about tracks that are accepted singly. At the end, how each of the three jobs may answer.
use mathlib.Core.Path.{◌≡◌, refl}
use mathlib.Core.Bool.{Bool, true, false}
use mathlib.Core.List.{List, [], ◌∷◌}
use Prim.Native.Nat.{ℕ, zero, suc, ◌+◌, ◌≤◌}
use native.Mathlib.Omega.{arith}
use lib.ListN.{length, drop}
use lib.Dec.{leb, ltb, eqb}
use borrow.Author.Tests.{ltb-true, ltb-false}
use Rattle.numbers.specs.Numbers.{when}
use Rattle.rules.specs.Limits.{byte_limit}
use Rattle.rules.specs.Refusals.{member, among, apart, length_numbers, framing_numbers, record_numbers, set_numbers, index_numbers, track_numbers, bundle_numbers}
use Rattle.rules.specs.Rules.{◌then◌, must, on_rule, Framing, Rule, breaks}
use Rattle.rules.specs.Framing.{on_framing, framed}
use Rattle.rules.specs.Track.{rule1, ruling, fragment_count, timescale, boundaries, refused, accepted, room_for, index, index_outcome, track_outcome}
use Rattle.rules.specs.Bundle.{Records, none, wrong, track, rule24_from, rule24, tracks, records}
use Rattle.rules.specs.Set.{same, rule28_from, rule28, agrees, rulings, agree, track0, set_ruling, bundle_ruling, set_outcome}
use Rattle.rules.specs.Jobs.{Answered, is_accepted, is_refused, no_room}
use Rattle.std.specs.Prelude.{Ok, Err}
use Rattle.rules.proofs.Jobs.{zero_accepts}
use Rattle.rules.proofs.Members.{member_among, member_apart, not_both_lem}
use Rattle.rules.proofs.Unframed.{FramingNumbered, framing_numbered}
use Rattle.rules.proofs.Numbered.{Numbered, Told, of_told, wider, n_then, n_must, n_holds, n_track, passes_on}
use Rattle.rules.proofs.NumbersOfTrack.{n_length, n_ruling}

-- a set
n_28 : (last : ℕ) (xs ys ps : List ℕ) → Numbered set_numbers (rule28_from last xs ys ps)
unfolding rule28_from member
n_28 last [] ys ps = n_holds
n_28 last (x ∷ xs) ys ps = n_then _ _ (n_must _ 28 _ refl) (n_28 _ xs _ _)

n_agrees : (s₀ s : List ℕ) → Numbered set_numbers (agrees s₀ s)
unfolding agrees same rule28 member
n_agrees s₀ s = search (n_then, n_must, n_28) depth 30

n_rulings : (k : ℕ) (ss : List (List ℕ)) → Numbered track_numbers (rulings k ss)
unfolding rulings
n_rulings k [] = n_holds
n_rulings k (s ∷ ss) = n_then _ _ (n_track k (ruling s) (n_ruling s)) (n_rulings (k + 1) ss)

n_agree : (s₀ : List ℕ) (k : ℕ) (ss : List (List ℕ)) → Numbered set_numbers (agree s₀ k ss)
unfolding agree
n_agree s₀ k [] = n_holds
n_agree s₀ k (s ∷ ss) = n_then _ _ (n_track k (agrees s₀ s) (n_agrees s₀ s)) (n_agree s₀ (k + 1) ss)

n_24 : (k : ℕ) (rs : Records) → Told record_numbers (rule24_from k rs)
unfolding rule24_from member
n_24 k none = go (eqb k 0)
  where
    go : (b : Bool) → Told record_numbers (when b (breaks 24 0 0) (Ok tt))
    go true = refl
    go false = tt
n_24 k (wrong at) = refl
n_24 k (track from n rs) = n_24 (k + 1) rs

n_records : (b : List ℕ) → Numbered record_numbers (rule24 b)
unfolding rule24
n_records b = of_told record_numbers _ (n_24 0 (records b))

-- the numbers of a bundle's refusals: its length's, its records', its tracks' and the set's, and no other
pub bundle_numbered : (b : List ℕ) → Numbered bundle_numbers (bundle_ruling b)
unfolding bundle_ruling set_ruling among member
bundle_numbered b =
    n_then _ _ (wider length_numbers bundle_numbers _ refl (n_length (length b)))
    (n_then _ _ (wider record_numbers bundle_numbers _ refl (n_records b))
    (n_then _ _ (wider track_numbers bundle_numbers _ refl (n_rulings 0 (tracks b)))
    (wider set_numbers bundle_numbers _ refl (n_agree _ 1 _))))

-- so none of them is 0
pub never_0 : (b : List ℕ) (n k p : ℕ) → bundle_ruling b ≡ breaks n k p → 1 ≤ n
unfolding member
never_0 b zero k p e = absurd (not_both_lem 0 bundle_numbers ((bundle_numbered b).told 0 k p e) refl)
never_0 b (suc n) k p e = omega arith

-- a bundle refused under a number of a set holds tracks that are accepted singly, and is refused as a set
pub refused_as_set : (b : List ℕ) (n k p : ℕ) → member n set_numbers ≡ true → bundle_ruling b ≡ breaks n k p
    → (rulings 0 (tracks b) ≡ Ok tt) × (set_ruling (tracks b) ≡ breaks n k p)
unfolding bundle_ruling set_ruling apart member
refused_as_set b n k p m h =
    let rest = agree (track0 (tracks b)) 1 (drop 1 (tracks b)) in
    let other : (ns : List ℕ) → apart set_numbers ns ≡ true → member n ns ≡ false = λ ns a. member_apart n set_numbers ns m a in
    let e₁ = passes_on length_numbers (rule1 (length b)) (rule24 b then set_ruling (tracks b)) n k p (n_length (length b)) (other length_numbers refl) h in
    let e₂ = passes_on record_numbers (rule24 b) (set_ruling (tracks b)) n k p (n_records b) (other record_numbers refl) e₁.1 in
    let e₃ = passes_on track_numbers (rulings 0 (tracks b)) rest n k p (n_rulings 0 (tracks b)) (other track_numbers refl) e₂.1 in
    (e₃.0, e₂.1)

-- no rule is left but room: the acceptance, or 23
by_room : (ns : List ℕ) (count scale : ℕ) (numbers t : List ℕ) → Answered ns count scale numbers t (room_for count scale numbers t)
unfolding room_for
by_room ns count scale numbers t = go (ltb (length t) (length numbers)) refl
  where
    go : (b : Bool) → ltb (length t) (length numbers) ≡ b
        → Answered ns count scale numbers t (when b (refused 23 0 0 t) (accepted count scale numbers t))
    go true e = no_room (ltb-true (length t) (length numbers) e) refl
    go false e = is_accepted (ltb-false (length t) (length numbers) e) refl

-- a rule and then room
by_rule : (ns : List ℕ) (count scale : ℕ) (numbers t : List ℕ) (r : Rule) → Numbered ns r
    → Answered ns count scale numbers t (on_rule r (λ _. room_for count scale numbers t) (λ n k p. refused n k p t))
by_rule ns count scale numbers t (Ok u) h = by_room ns count scale numbers t
by_rule ns count scale numbers t (Err e) h = is_refused e.number e.track e.place (h.told e.number e.track e.place refl) refl

-- the index job: the acceptance with the index, a refusal of length or framing, or 23
pub index_refusals : (s t : List ℕ) → (n : ℕ) × Answered index_numbers n 0 (index s) t (index_outcome s t)
unfolding index_outcome rule1 must among member
index_refusals s t = go (leb (length s) byte_limit) (framed s) (framing_numbered s)
  where
    go : (b : Bool) (f : Framing) → FramingNumbered f
        → (n : ℕ)
        × Answered index_numbers n 0 (index s) t
        (on_rule (must b 1 0) (λ _. on_framing f (λ n. room_for n 0 (index s) t) (λ k p. refused k 0 p t)) (λ k _ p. refused k 0 p t))
    go true (Ok n) h = (n, by_room index_numbers n 0 (index s) t)
    go true (Err e) h = (0, is_refused e.number 0 e.place (member_among e.number framing_numbers index_numbers h refl) refl)
    go false f h = (0, is_refused 1 0 0 refl refl)

-- the track job: the acceptance with the boundaries, a refusal of a track, or 23
pub track_refusals : (s t : List ℕ) → Answered track_numbers (fragment_count s) (timescale s) (boundaries s) t (track_outcome s t)
unfolding track_outcome
track_refusals s t = by_rule track_numbers (fragment_count s) (timescale s) (boundaries s) t (ruling s) (n_ruling s)

-- the set job: the acceptance with the boundaries of track 0, a refusal of a bundle, or 23
pub set_refusals : (b t : List ℕ)
    → Answered bundle_numbers (fragment_count (track0 (tracks b))) (timescale (track0 (tracks b))) (boundaries (track0 (tracks b))) t (set_outcome b t)
unfolding set_outcome
set_refusals b t = by_rule bundle_numbers _ _ _ t (bundle_ruling b) (bundle_numbered b)

-- where an index's, a track's or a set's number is 0, the outcome is its acceptance
pub index_at_0 : (s t : List ℕ) → (index_outcome s t).verdict.number ≡ 0 → (n : ℕ) × (index_outcome s t ≡ accepted n 0 (index s) t)
unfolding member
index_at_0 s t z = let h = index_refusals s t in (h.0, zero_accepts refl h.1 z)

pub track_at_0 : (s t : List ℕ) → (track_outcome s t).verdict.number ≡ 0
    → track_outcome s t ≡ accepted (fragment_count s) (timescale s) (boundaries s) t
unfolding member
track_at_0 s t z = zero_accepts refl (track_refusals s t) z

pub set_at_0 : (b t : List ℕ) → (set_outcome b t).verdict.number ≡ 0
    → set_outcome b t ≡ accepted (fragment_count (track0 (tracks b))) (timescale (track0 (tracks b))) (boundaries (track0 (tracks b))) t
unfolding member
set_at_0 b t z = zero_accepts refl (set_refusals b t) z
