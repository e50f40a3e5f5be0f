-- Laws of the tracks after track 0: one track more, and where they end.
use mathlib.Core.Path.{◌≡◌, refl, sym, ap, ◌∙◌}
use mathlib.Core.List.{List, [], ◌∷◌}
use mathlib.Core.Bool.{Bool, true, false}
use Prim.Native.Nat.{ℕ, ◌+◌, ◌-◌, ◌≤◌, ◌<◌}
use native.Mathlib.Nat.{add-sub_cancel_left}
use native.Mathlib.Omega.{arith}
use lib.ListN.{length, take, drop}
use lib.Dec.{ltb}
use Rattle.numbers.specs.Numbers.{when}
use Rattle.rules.specs.Limits.{record_limit}
use Rattle.rules.specs.Boxes.{part}
use Rattle.rules.specs.Rules.{◌then◌, of_track, Rule}
use Rattle.rules.specs.Bundle.{record_at, none, wrong, tracks_of}
use Rattle.rules.specs.Track.{ruling}
use Rattle.rules.specs.Set.{rulings, agrees, agree}
use Rattle.rules.proofs.Then.{then_holds, then_breaks, then_assoc, then_last}
use Rattle.rules.specs.declared.Mark.{Mark}
use Rattle.rules.specs.declared.Mark.TheVariants.{Nothing, Wrong, Track}
use Rattle.rules.specs.declared.Refusal.{Refusal}
use Rattle.std.specs.Prelude.{Ok, Err}
use Rattle.set.specs.Says.{rest_of, all_of}
use Rattle.bundle.proofs.Read.{here, full}

module _ (b : List ℕ) (at k : ℕ) where
  module _ (h : k < record_limit) where
    -- a record's track, and those after it
    pub rest_track : {n : ℕ} {r : Mark} → r ≡ record_at b at → r ≡ Track n → rest_of b k at ≡ part b (at + 6) n ∷ rest_of b (k + 1) (at + 6 + n)
    unfolding tracks_of
    rest_track e f = ap (tracks_of b) (here b at k h (sym f ∙ e))

    -- no track
    pub rest_none : (r : Mark) → r ≡ record_at b at → ((n : ℕ) → r ≡ Track n → ⊥) → rest_of b k at ≡ []
    unfolding tracks_of
    rest_none Nothing e o = ap (tracks_of b) (here b at k h e)
    rest_none Wrong e o = ap (tracks_of b) (here b at k h e)
    rest_none (Track n) e o = absurd (o n refl)

  -- no more tracks may come
  pub rest_full : record_limit ≤ k → rest_of b k at ≡ []
  unfolding tracks_of
  rest_full h = ap (tracks_of b) (full b at k h) ∙ by (ltb at (length b))
    where
      by : (t : Bool) → tracks_of b (when t (wrong at) none) ≡ []
      by true = refl
      by false = refl

-- the same, with the track as the part from a to a + n
pub rest_part : (b : List ℕ) (at k : ℕ) → k < record_limit → {n : ℕ} {r : Mark} → r ≡ record_at b at → r ≡ Track n
    → rest_of b k at ≡ take (at + 6 + n - (at + 6)) (drop (at + 6) b) ∷ rest_of b (k + 1) (at + 6 + n)
rest_part b at k h {n} e f =
    rest_track b at k h e f
    ∙ ap (λ (l : ℕ). take l (drop (at + 6) b) ∷ rest_of b (k + 1) (at + 6 + n)) (sym (add-sub_cancel_left (at + 6) n))

-- the tracks from the k-th on come to the whole with what is left, after what was broken so far
pub record MembersGoing (b s₀ : List ℕ) (from at k : ℕ) (sofar : Rule) : Type 0 where
  pub rule : all_of b s₀ from ≡ (rulings k (rest_of b k at) then (sofar then agree s₀ k (rest_of b k at)))
  pub few : k ≤ record_limit
  pub inner : at ≤ length b

pub members_begins : (b s₀ : List ℕ) (from : ℕ) → from ≤ length b → MembersGoing b s₀ from from 1 (Ok tt)
unfolding ◌then◌
members_begins b s₀ from h = record { rule = refl; few = omega arith; inner = h }

module _ (b s₀ : List ℕ) {from at k : ℕ} {sofar : Rule} (g : MembersGoing b s₀ from at k sofar) where
  -- no track is left
  pub members_ends : rest_of b k at ≡ [] → sofar ≡ all_of b s₀ from
  unfolding rulings agree
  members_ends e =
      sym
      (g.rule
      ∙ ap (λ (ss : List (List ℕ)). rulings k ss then (sofar then agree s₀ k ss)) e
      ∙ then_holds (sofar then Ok tt) refl
      ∙ then_last sofar)

  module _ (s : List ℕ) (next : ℕ) (e : rest_of b k at ≡ s ∷ rest_of b (k + 1) next) where
    members_step : all_of b s₀ from
        ≡ ((of_track k (ruling s) then rulings (k + 1) (rest_of b (k + 1) next))
        then (sofar then (of_track k (agrees s₀ s) then agree s₀ (k + 1) (rest_of b (k + 1) next))))
    unfolding rulings agree
    members_step = g.rule ∙ ap (λ (ss : List (List ℕ)). rulings k ss then (sofar then agree s₀ k ss)) e

    -- the track breaks a rule by itself
    pub members_breaks : {e : Refusal} → of_track k (ruling s) ≡ Err e → Err e ≡ all_of b s₀ from
    members_breaks f = sym (members_step ∙ then_breaks _ (then_breaks _ f))

    -- it holds by itself
    pub members_on : {sofar' : Rule} → ruling s ≡ Ok tt → sofar' ≡ (sofar then of_track k (agrees s₀ s)) → k < record_limit → next ≤ length b
        → MembersGoing b s₀ from next (k + 1) sofar'
    unfolding of_track
    members_on {sofar'} f i h m =
        let rest = agree s₀ (k + 1) (rest_of b (k + 1) next) in
        let own = rulings (k + 1) (rest_of b (k + 1) next) in
        record {
          rule =
              members_step
              ∙ ap (λ (r : Rule). r then (sofar then (of_track k (agrees s₀ s) then rest))) (then_holds own (ap (of_track k) f))
              ∙ ap (λ (r : Rule). own then r) (sym (then_assoc sofar (of_track k (agrees s₀ s)) rest) ∙ ap (λ (r : Rule). r then rest) (sym i));
          few = omega arith;
          inner = m;
        }
