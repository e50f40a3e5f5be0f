-- Demand 3, first half: every switching plan of an accepted set plays, and what that means fragment by fragment.
use mathlib.Core.Path.{◌≡◌, refl, sym, ap₂, subst, ◌∙◌}
use mathlib.Core.List.{List, [], ◌∷◌}
use Prim.Native.Nat.{ℕ, ◌+◌, ◌<◌}
use native.Mathlib.Omega.{arith}
use lib.ListN.{length, take, drop}
use lib.Dec.{eqb}
use borrow.Author.Tests.{eqb-true}
use Rattle.rules.specs.Rules.{◌then◌, must, of_track}
use Rattle.rules.specs.Track.{rule1, ruling, fragments, first_moofs, fragment_count, timescale, boundaries}
use Rattle.rules.specs.Bundle.{rule24, tracks}
use Rattle.rules.specs.Set.{hdlr_at, mdhd_at, handler, same, first_or, rule28_from, rule28, agrees, rulings, agree, track0, set_ruling, bundle_ruling}
use Rattle.rules.specs.Player.{stuck, passed, play}
use Rattle.rules.specs.Plans.{All, Plan, Singly, HasFirstHalf}
use Rattle.std.specs.Prelude.{Ok}
use Rattle.rules.proofs.Laws.{all_at, all_map, below}
use Rattle.rules.proofs.Then.{then_first, then_second, must_holds, of_track_lem}
use Rattle.rules.proofs.Boundaries.{boundaries_length, as_many}
use Rattle.rules.proofs.Plays.{Passes, Chooses, alike_plays}

-- an accepted track that is like another: the same timescale, as many fragments, the same boundaries
abbrev pub LikeFirst : List ℕ → List ℕ → Type 0
LikeFirst s₀ s =
    (ruling s ≡ Ok tt) × (timescale s ≡ timescale s₀) × (fragment_count s ≡ fragment_count s₀) × (boundaries s ≡ boundaries s₀)

-- rule 28 over lists of one length: they are one list
same_ticks : (last : ℕ) (xs ys ps : List ℕ) → length ys ≡ length xs → rule28_from last xs ys ps ≡ Ok tt → ys ≡ xs
unfolding rule28_from
same_ticks last [] [] ps l h = refl
same_ticks last [] (y ∷ ys) ps l h = let z : ⊥ = omega (arith, l) in absurd z
same_ticks last (x ∷ xs) [] ps l h = let z : ⊥ = omega (arith, l) in absurd z
same_ticks last (x ∷ xs) (y ∷ ys) ps l h =
    let first = must (eqb y x) 28 (first_or last ps) in
    let rest = rule28_from (first_or last ps) xs ys (drop 1 ps) in
    ap₂ {C = List ℕ} (λ (a : ℕ) (bs : List ℕ). a ∷ bs)
    (eqb-true y x (must_holds (eqb y x) 28 (first_or last ps) (then_first first rest h)))
    (same_ticks (first_or last ps) xs ys (drop 1 ps) (omega (arith, l)) (then_second first rest h))

-- a value that is track 0's
pub same_value : (n : ℕ) (value place : List ℕ → ℕ) (s₀ s : List ℕ) → same n value place s₀ s ≡ Ok tt → value s ≡ value s₀
unfolding same
same_value n value place s₀ s h = eqb-true (value s) (value s₀) (must_holds _ _ _ h)

-- 25 to 28 make tracks alike
agrees_alike : (s₀ s : List ℕ) → ruling s ≡ Ok tt → agrees s₀ s ≡ Ok tt → LikeFirst s₀ s
unfolding agrees rule28
agrees_alike s₀ s r h =
    let of26 = same 26 timescale mdhd_at s₀ s in
    let of27 = same 27 fragment_count length s₀ s in
    let h₂ = then_second (same 25 handler hdlr_at s₀ s) (of26 then of27 then rule28 s₀ s) h in
    let h₃ = then_second of26 (of27 then rule28 s₀ s) h₂ in
    let n = same_value 27 fragment_count length s₀ s (then_first of27 (rule28 s₀ s) h₃) in (
      r,
      same_value 26 timescale mdhd_at s₀ s (then_first of26 (of27 then rule28 s₀ s) h₂),
      n,
      same_ticks 0 (boundaries s₀) (boundaries s) (first_moofs (fragments s)) (as_many s s₀ n) (then_second of27 (rule28 s₀ s) h₃),
    )

-- tracks accepted one by one
pub each_ruling : (k : ℕ) (ss : List (List ℕ)) → rulings k ss ≡ Ok tt → Singly ss
unfolding rulings
each_ruling k [] h = tt
each_ruling k (s ∷ ss) h = (
  of_track_lem k (ruling s) (then_first (of_track k (ruling s)) (rulings (k + 1) ss) h),
  each_ruling (k + 1) ss (then_second (of_track k (ruling s)) (rulings (k + 1) ss) h),
)

-- tracks accepted, each beside track 0
each_agrees : (s₀ : List ℕ) (k : ℕ) (ss : List (List ℕ)) → Singly ss → agree s₀ k ss ≡ Ok tt → All (LikeFirst s₀) ss
unfolding agree
each_agrees s₀ k [] r h = tt
each_agrees s₀ k (s ∷ ss) r h = (
  agrees_alike s₀ s r.0 (of_track_lem k (agrees s₀ s) (then_first (of_track k (agrees s₀ s)) (agree s₀ (k + 1) ss) h)),
  each_agrees s₀ (k + 1) ss r.1 (then_second (of_track k (agrees s₀ s)) (agree s₀ (k + 1) ss) h),
)

-- every track of an accepted set is like its track 0
pub all_alike : (ss : List (List ℕ)) → set_ruling ss ≡ Ok tt → All (LikeFirst (track0 ss)) ss
unfolding set_ruling
all_alike [] h = tt
all_alike (s ∷ ss) h =
    let r = each_ruling 0 (s ∷ ss) (then_first (rulings 0 (s ∷ ss)) (agree s 1 ss) h) in
    ((r.0, refl, refl, refl), each_agrees s 1 ss r.1 (then_second (rulings 0 (s ∷ ss)) (agree s 1 ss) h))

-- a choice below the number of tracks names a track like track 0
chooses : (ss : List (List ℕ)) → set_ruling ss ≡ Ok tt → (i : ℕ) → i < length ss
    → Chooses ss (timescale (track0 ss)) (boundaries (track0 ss)) i
chooses ss h i l =
    let n = below ss i l in
    let a = all_at (LikeFirst (track0 ss)) ss i n.0 (all_alike ss h) n.1 in
    (n.0, n.1, a.0, a.1, a.3)

-- the first half: every plan of an accepted set plays, and passes the first (length of plan + 1) boundaries of track 0
pub first_half : HasFirstHalf play
first_half ss plan h p =
    alike_plays ss (timescale (track0 ss)) (boundaries (track0 ss)) plan p.0.0
    (omega (arith, p.0.0, p.1, boundaries_length (track0 ss) (omega (arith, p.0.0, p.1))))
    (all_map (λ i. i < length ss) (Chooses ss (timescale (track0 ss)) (boundaries (track0 ss))) plan (chooses ss h) p.0.1)

-- a bundle that is accepted holds an accepted set
pub accepted_set : (b : List ℕ) → bundle_ruling b ≡ Ok tt → set_ruling (tracks b) ≡ Ok tt
unfolding bundle_ruling
accepted_set b h =
    then_second (rule24 b) (set_ruling (tracks b)) (then_second (rule1 (length b)) (rule24 b then set_ruling (tracks b)) h)

-- the first half for a bundle
pub first_half_bundle : (b plan : List ℕ) → bundle_ruling b ≡ Ok tt → Plan (tracks b) plan
    → play (tracks b) plan ≡ passed (take (length plan + 1) (boundaries (track0 (tracks b))))
first_half_bundle b plan h p = first_half (tracks b) plan (accepted_set b h) p

-- never stuck: no plan of an accepted set is
pub never_stuck : (ss : List (List ℕ)) (plan : List ℕ) → set_ruling ss ≡ Ok tt → Plan ss plan → play ss plan ≡ stuck → ⊥
never_stuck ss plan h p q = subst Passes (sym (first_half ss plan h p) ∙ q) tt
