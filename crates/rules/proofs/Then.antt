-- Laws of rules in their order: what a broken rule, a rule that holds, and a test come to.
use mathlib.Core.Path.{◌≡◌, refl, sym, ap, subst, ◌∙◌}
use mathlib.Core.Bool.{Bool, true, false}
use Prim.Native.Nat.{ℕ, ◌+◌}
use native.Mathlib.Omega.{arith}
use Rattle.rules.specs.Rules.{◌then◌, must, of_track, moved, Rule, breaks}
use Rattle.std.specs.Prelude.{Ok, Err}

-- after a rule that holds, the next decides; a broken one decides
pub then_holds : {r : Rule} (q : Rule) → r ≡ Ok tt → (r then q) ≡ q
unfolding ◌then◌
then_holds q e = rw e

pub then_breaks : {r : Rule} (q : Rule) {n t p : ℕ} → r ≡ breaks n t p → (r then q) ≡ breaks n t p
unfolding ◌then◌
then_breaks q e = rw e

-- nothing after the last rule
pub then_last : (r : Rule) → (r then Ok tt) ≡ r
unfolding ◌then◌
then_last (Ok u) = refl
then_last (Err e) = refl

-- rules may be grouped
pub then_assoc : (a b c : Rule) → ((a then b) then c) ≡ (a then (b then c))
unfolding ◌then◌
then_assoc (Ok u) b c = refl
then_assoc (Err e) b c = refl

-- a test that holds, and one that doesn't
pub must_true : {b : Bool} (n p : ℕ) → b ≡ true → must b n p ≡ Ok tt
unfolding must
must_true n p e = rw e

pub must_false : {b : Bool} (n p : ℕ) → b ≡ false → must b n p ≡ breaks n 0 p
unfolding must
must_false n p e = rw e

-- whether a rule holds, as a type
abbrev Kept : Rule → Type 0
Kept (Ok u) = Unit {0}
Kept (Err e) = ⊥

-- a rule that breaks doesn't hold
pub broken : {n t p : ℕ} → breaks {A = Unit {0}} n t p ≡ Ok tt → ⊥
broken h = subst Kept (sym h) tt

-- of two rules that hold together the first holds, the second does, both do
pub then_first : (r q : Rule) → (r then q) ≡ Ok tt → r ≡ Ok tt
unfolding ◌then◌
then_first (Ok u) q e = refl
then_first (Err b) q e = e

pub then_second : (r q : Rule) → (r then q) ≡ Ok tt → q ≡ Ok tt
unfolding ◌then◌
then_second (Ok u) q e = e
then_second (Err b) q e = absurd (broken e)

pub then_both : (r q : Rule) → (r then q) ≡ Ok tt → (r ≡ Ok tt) × (q ≡ Ok tt)
then_both r q e = (then_first r q e, then_second r q e)

-- two rules that hold, hold together
pub both_hold : (r q : Rule) → r ≡ Ok tt → q ≡ Ok tt → (r then q) ≡ Ok tt
both_hold r q h k = then_holds q h ∙ k

-- a refusal stays where what follows is exchanged for what would refuse alike
pub then_under : (r q q' : Rule) (n t p : ℕ) → (q ≡ breaks n t p → q' ≡ breaks n t p) → (r then q) ≡ breaks n t p
    → (r then q') ≡ breaks n t p
unfolding ◌then◌
then_under (Ok u) q q' n t p f e = f e
then_under (Err x) q q' n t p f e = e

-- a test whose rule holds
pub must_holds : (b : Bool) (n p : ℕ) → must b n p ≡ Ok tt → b ≡ true
unfolding must
must_holds true n p e = refl
must_holds false n p e = absurd (broken e)

-- a track's rule that holds in a set holds by itself
pub of_track_lem : (k : ℕ) (r : Rule) → of_track k r ≡ Ok tt → r ≡ Ok tt
unfolding of_track
of_track_lem k (Ok u) e = refl
of_track_lem k (Err q) e = absurd (broken e)

-- a rule moved holds where it holds by itself, and only there; where it breaks it breaks under the same number, at the place moved
pub moved_holds : (b : ℕ) {r : Rule} → r ≡ Ok tt → moved b r ≡ Ok tt
unfolding moved
moved_holds b e = rw e

pub moved_held : (b : ℕ) (r : Rule) → moved b r ≡ Ok tt → r ≡ Ok tt
unfolding moved
moved_held b (Ok u) e = refl
moved_held b (Err q) e = absurd (broken e)

pub moved_breaks : (b : ℕ) {r : Rule} {n t p : ℕ} → r ≡ breaks n t p → moved b r ≡ breaks n t (b + p)
unfolding moved
moved_breaks b e = rw e

-- rules in their order may be moved one by one, twice is once by the sum, and by 0 is not at all
pub moved_then : (b : ℕ) (r q : Rule) → moved b (r then q) ≡ (moved b r then moved b q)
unfolding moved ◌then◌
moved_then b (Ok u) q = refl
moved_then b (Err e) q = refl

pub moved_moved : (a b : ℕ) (r : Rule) → moved a (moved b r) ≡ moved (a + b) r
unfolding moved
moved_moved a b (Ok u) = refl
moved_moved a b (Err e) = ap (breaks e.number e.track) (omega arith)

pub moved_by_0 : (r : Rule) → moved 0 r ≡ r
unfolding moved
moved_by_0 (Ok u) = refl
moved_by_0 (Err e) = ap (breaks e.number e.track) (omega arith)

-- a test moved is the test at the place moved
pub moved_must : (b : ℕ) (t : Bool) (n p : ℕ) → moved b (must t n p) ≡ must t n (b + p)
unfolding moved must
moved_must b true n p = refl
moved_must b false n p = refl
