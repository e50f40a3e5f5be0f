-- Laws of a state as numbers: what `encode` writes, `decode` reads.
use mathlib.Core.Path.{◌≡◌, refl, ◌∙◌}
use mathlib.Core.List.{List, [], ◌∷◌}
use mathlib.Core.Bool.{Bool, true, false}
use Prim.Native.Nat.{ℕ, ◌<◌}
use native.Mathlib.Nat.{mod-eq_of_lt}
use native.Mathlib.Omega.{arith}
use lib.ListN.{length, set}
use lib.Dec.{eqb}
use mir.Val.{bool_byte}
use Rattle.rules.specs.Rules.{Judged}
use Rattle.std.specs.Prelude.{Option, None, Some, Ok}
use Rattle.rules.specs.declared.Reached.TheVariants.{Typed}
use Rattle.rules.specs.declared.Spot.{Spot}
use Rattle.pieces.specs.State.{low32, of_ftyp, course_by, state_of, moved_on, judged_from, facts_from, spot_from}

-- the number of what `ftyp` tells leads back to it
pub typed : (t : ℕ) (f : Option Bool) (j : Judged) (m : Spot) → t ≡ of_ftyp f → course_by t j m ≡ Ok (Typed f)
unfolding course_by
typed t (Some false) j m e = rw e
typed t (Some true) j m e = rw e
typed t None j m e = rw e

-- a number of 32 bits is its own low part
pub low_same : (r n : ℕ) → r ≡ n → n < 4294967296 → low32 r ≡ n
low_same r n e w = mod-eq_of_lt (omega arith) ∙ e

-- the number of whether each chunk begins a fragment leads back to it
pub plain_same : (b : Bool) (r : ℕ) → r ≡ bool_byte b → eqb r 1 ≡ b
plain_same true r e = rw e
plain_same false r e = rw e

-- the numbers with the phase's first value and the bytes so far anew
pub moves_on : (ns : List ℕ) (a total : ℕ) → length ns ≡ 24 → state_of (set (set ns 1 a) 3 total) ≡ moved_on ns a total
unfolding state_of moved_on judged_from facts_from spot_from
moves_on (x ∷ y ∷ z ∷ w ∷ ns) a total l = refl
moves_on [] a total l = let f : ⊥ = omega (arith, l) in absurd f
moves_on (x ∷ []) a total l = let f : ⊥ = omega (arith, l) in absurd f
moves_on (x ∷ y ∷ []) a total l = let f : ⊥ = omega (arith, l) in absurd f
moves_on (x ∷ y ∷ z ∷ []) a total l = let f : ⊥ = omega (arith, l) in absurd f
