-- Laws of the set job: the first track, and what each stage comes to.
use mathlib.Core.Path.{◌≡◌, refl, sym, ap, ◌∙◌}
use mathlib.Core.List.{List, ◌∷◌}
use Prim.Native.Nat.{ℕ, ◌+◌, ◌-◌, ◌≤◌, ◌<◌}
use native.Mathlib.Omega.{arith}
use lib.ListN.{length, take, drop}
use lib.Dec.{leb}
use borrow.Author.Tests.{le-leb, lt-leb, leb-true}
use Rattle.rules.specs.Limits.{byte_limit}
use Rattle.rules.specs.Rules.{◌then◌, must, of_track, Rule, breaks}
use Rattle.rules.specs.Bundle.{record_at, rule24, tracks, records}
use Rattle.rules.specs.Track.{rule1, ruling, room_of, refused}
use Rattle.rules.specs.Set.{track0, rulings, agree, set_ruling, bundle_ruling, set_outcome}
use Rattle.rules.proofs.Then.{then_holds, then_breaks, then_assoc, must_true, must_false, must_holds}
use Rattle.rules.specs.declared.Mark.{Mark}
use Rattle.rules.specs.declared.Mark.TheVariants.{Track}
use Rattle.rules.specs.declared.Refusal.{Refusal}
use Rattle.std.specs.Prelude.{Result, Ok, Err, IfOk, IfErr}
use Rattle.set.specs.Says.{rest_of, all_of}
use Rattle.set.proofs.Following.{rest_part, rest_none}

-- an answer as that of track k of a set: what it says of an acceptance stays, and a refusal is moved
module _ {A : Type 0} (k : ℕ) where
  pub of_track_accepts : (P : A → Type 0) (q r : Result A Refusal) → q ≡ of_track k r → IfOk r P → IfOk q P
  unfolding of_track
  of_track_accepts P q (Ok x) e h = rw e h
  of_track_accepts P q (Err x) e h = rw e tt

  pub of_track_refuses : (s : Rule) (q r : Result A Refusal) → q ≡ of_track k r → IfErr r (λ x. s ≡ Err x) → IfErr q (λ x. of_track k s ≡ Err x)
  unfolding of_track
  of_track_refuses s q (Ok x) e h = rw e tt
  of_track_refuses s q (Err x) e h = rw e (ap (of_track k) h)

-- the tracks are those from the first record on
tracks_are : (b : List ℕ) → tracks b ≡ rest_of b 0 0
unfolding tracks records
tracks_are b = refl

-- a bundle that has a track begins with a record
pub has_first : (b : List ℕ) (r : Mark) → r ≡ record_at b 0 → ((n : ℕ) → r ≡ Track n → ⊥) → 1 ≤ length (tracks b) → ⊥
has_first b r e o n = omega (arith, n, ap length (tracks_are b ∙ rest_none b 0 0 (omega arith) r e o))

-- the first track, and where the others begin
pub first_is : (b : List ℕ) {n : ℕ} {r : Mark} → r ≡ record_at b 0 → r ≡ Track n → tracks b ≡ take (6 + n - 6) (drop 6 b) ∷ rest_of b 1 (6 + n)
first_is b e f = tracks_are b ∙ rest_part b 0 0 (omega arith) e f

module _ (b : List ℕ) where
  -- over the byte limit
  pub bundle_over_limit : byte_limit < length b → bundle_ruling b ≡ breaks 1 0 0
  unfolding bundle_ruling rule1
  bundle_over_limit h = then_breaks _ (must_false 1 0 (lt-leb (length b) byte_limit h))

  -- the test of the byte limit fails, and holds
  pub too_long : {r : Rule} → r ≡ must (leb (length b) byte_limit) 1 0 → {e : Refusal} → r ≡ Err e → bundle_ruling b ≡ Err e
  unfolding bundle_ruling rule1
  too_long m i = then_breaks _ (sym m ∙ i)

  pub within_limit : {r : Rule} → r ≡ must (leb (length b) byte_limit) 1 0 → r ≡ Ok tt → length b ≤ byte_limit
  within_limit m i = leb-true (length b) byte_limit (must_holds _ 1 0 (sym m ∙ i))

  module _ (h : length b ≤ byte_limit) where
    short : rule1 (length b) ≡ Ok tt
    unfolding rule1
    short = must_true 1 0 (le-leb (length b) byte_limit h)

    -- rule 24
    pub badly_framed : {k p : ℕ} → rule24 b ≡ breaks 24 k p → bundle_ruling b ≡ breaks 24 k p
    unfolding bundle_ruling
    badly_framed e = then_holds _ short ∙ then_breaks _ e

    -- framed: the tracks decide
    module _ (e : rule24 b ≡ Ok tt) (s₀ : List ℕ) (from : ℕ) (f : tracks b ≡ s₀ ∷ rest_of b 1 from) where
      tracks_rule : bundle_ruling b ≡ (of_track 0 (ruling s₀) then all_of b s₀ from)
      unfolding bundle_ruling set_ruling rulings
      tracks_rule =
          then_holds _ short
          ∙ then_holds _ e
          ∙ ap set_ruling f
          ∙ then_assoc (of_track 0 (ruling s₀)) (rulings 1 (rest_of b 1 from)) (agree s₀ 1 (rest_of b 1 from))

      -- the first track breaks a rule by itself
      pub first_breaks : {x : Refusal} → of_track 0 (ruling s₀) ≡ Err x → bundle_ruling b ≡ Err x
      first_breaks g = tracks_rule ∙ then_breaks _ g

      module _ (g : ruling s₀ ≡ Ok tt) {r : Rule} (i : r ≡ all_of b s₀ from) where
        others_decide : bundle_ruling b ≡ r
        unfolding of_track
        others_decide = tracks_rule ∙ then_holds _ (ap (of_track 0) g) ∙ sym i

        -- another track breaks a rule, or every rule holds
        pub others_break : {x : Refusal} → r ≡ Err x → bundle_ruling b ≡ Err x
        others_break j = others_decide ∙ j

        pub others_hold : r ≡ Ok tt → bundle_ruling b ≡ Ok tt
        others_hold j = others_decide ∙ j

  -- track 0
  pub zeroth : {s₀ : List ℕ} (from : ℕ) → tracks b ≡ s₀ ∷ rest_of b 1 from → s₀ ≡ track0 (tracks b)
  zeroth from f = ap track0 (sym f)

  -- what the job comes to
  pub set_refuses : (t : List ℕ) {x : Refusal} → bundle_ruling b ≡ Err x → refused x.number x.track x.place t ≡ set_outcome b t
  unfolding set_outcome
  set_refuses t e = rw e

  pub set_accepts : (t : List ℕ) → bundle_ruling b ≡ Ok tt → room_of (track0 (tracks b)) t ≡ set_outcome b t
  unfolding set_outcome
  set_accepts t e = rw e
