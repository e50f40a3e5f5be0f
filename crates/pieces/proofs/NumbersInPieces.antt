-- The numbers that a track in pieces is answered with: 0 where every rule holds, else one of its refusals.
use mathlib.Core.Path.{◌≡◌, refl}
use mathlib.Core.Bool.{true, false≢true}
use mathlib.Core.List.{List, ◌∷◌}
use mathlib.Core.Logic.{◌⊎◌, inl, inr}
use Prim.Native.Nat.{ℕ}
use Rattle.rules.specs.Refusals.{member, among, track_numbers, pieces_numbers}
use Rattle.rules.specs.Track.{ruling}
use Rattle.rules.specs.Pieces.{ruling_in_pieces, answer_for}
use Rattle.rules.specs.Rules.{Rule, breaks}
use Rattle.std.specs.Prelude.{Ok, Err}
use Rattle.rules.proofs.Members.{member_among}
use Rattle.rules.proofs.Numbered.{Numbered, of_told, wider}
use Rattle.rules.proofs.NumbersOfTrack.{n_ruling}
use Rattle.pieces.proofs.Agreement.{ruled_or_29}

-- the rules of a track in pieces give the numbers of their list
pub n_pieces : (s : List ℕ) → Numbered pieces_numbers (ruling_in_pieces s)
unfolding among member
n_pieces s = by (ruled_or_29 s)
  where
    by : (ruling_in_pieces s ≡ ruling s) ⊎ ((p : ℕ) × (ruling_in_pieces s ≡ breaks 29 0 p)) → Numbered pieces_numbers (ruling_in_pieces s)
    by (inl e) = rw e (wider track_numbers pieces_numbers (ruling s) refl (n_ruling s))
    by (inr h) = rw h.1 (of_told pieces_numbers (breaks 29 0 h.0) refl)

-- so the verdict's number is 0 or one of them
pub answer_numbered : (s : List ℕ) → member (answer_for s).verdict.number (0 ∷ pieces_numbers) ≡ true
unfolding answer_for among member
answer_numbered s = by (ruling_in_pieces s) refl
  where
    by : (r : Rule) → ruling_in_pieces s ≡ r → member (answer_for s).verdict.number (0 ∷ pieces_numbers) ≡ true
    by (Ok u) e = rw e
    by (Err q) e = rw e (member_among q.number pieces_numbers (0 ∷ pieces_numbers) ((n_pieces s).told q.number q.track q.place e) refl)

-- 0 is given only where every rule holds, and there it is
pub zero_holds : (s : List ℕ) → (answer_for s).verdict.number ≡ 0 → ruling_in_pieces s ≡ Ok tt
unfolding answer_for member
zero_holds s = by (ruling_in_pieces s) refl
  where
    by : (r : Rule) → ruling_in_pieces s ≡ r → (answer_for s).verdict.number ≡ 0 → ruling_in_pieces s ≡ Ok tt
    by (Ok u) e z = e
    by (Err q) e z = let n0 : q.number ≡ 0 = rw e at z in absurd (false≢true (rw n0 at ((n_pieces s).told q.number q.track q.place e)))

pub holds_zero : (s : List ℕ) → ruling_in_pieces s ≡ Ok tt → (answer_for s).verdict.number ≡ 0
unfolding answer_for
holds_zero s h = rw h
