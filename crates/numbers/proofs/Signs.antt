-- Laws of signed numbers of 32 bits: what the machine reads is what `signed` and `is_place` say.
use mathlib.Core.Path.{◌≡◌, refl, ap, ◌∙◌}
use mathlib.Core.Bool.{Bool, true, false}
use Prim.Native.Nat.{ℕ, zero, suc, ◌-◌, ◌^◌, ◌<◌, ◌≤◌}
use native.Mathlib.Omega.{arith}
use lib.Dec.{T, eqb, ltb}
use lib.IntN.{ℤ, pos, negsuc, nat_abs, ◌-ℤ◌}
use lib.Signed.{lt_z, non_neg}
use borrow.Author.Tests.{ltb-true, lt-ltb, le-ltb}
use mir.Syntax.{w32, w64}
use mir.Val.{Fits, SFits, to_z, of_z, sel}
use mir.ValLaws.{to_z_pos, to_z-of_z}
use Rattle.numbers.specs.Numbers.{when, signed, is_place}

-- one test, and one number on either side of it
either : (b : Bool) (z : ℤ) (m n : ℕ) → m ≡ n → sel b z (negsuc m) ≡ when b z (negsuc n)
either true z m n e = refl
either false z m n e = ap negsuc e

pub is_signed : (x : ℕ) → to_z w32 x ≡ signed x
unfolding signed
is_signed x = either (ltb x 2147483648) (pos x) (2 ^ 32 - suc x) (4294967295 - x) (omega arith)

-- the lower half is itself
pub low : (x : ℕ) → x < 2147483648 → to_z w32 x ≡ signed x
unfolding signed
low x h = simp (lt-ltb x 2147483648 h)

-- -1 less a number
minus : (y : ℕ) → negsuc 0 -ℤ pos y ≡ negsuc y
minus zero = refl
minus (suc n) = ap negsuc (omega arith)

-- the upper half, counted down from -1
module _ (x : ℕ) (h : 2147483648 ≤ x) where
  down : negsuc 0 -ℤ to_z w32 (4294967295 - x) ≡ negsuc (4294967295 - x)
  down = ap (λ (z : ℤ). negsuc 0 -ℤ z) (to_z_pos w32 (4294967295 - x) (omega arith)) ∙ minus (4294967295 - x)

  pub down_fits : SFits w32 (negsuc 0 -ℤ to_z w32 (4294967295 - x))
  down_fits = rw down (record { sfits = omega arith })

  pub high : to_z w32 (of_z w32 (negsuc 0 -ℤ to_z w32 (4294967295 - x))) ≡ signed x
  unfolding signed
  high = to_z-of_z w32 _ down_fits ∙ down ∙ simp (le-ltb x 2147483648 h)

-- a negative number is no place
pub no_place : (o : ℤ) (e : ℕ) → lt_z o (pos 0) ≡ true → false ≡ is_place o e
unfolding is_place
no_place (pos n) e t = let f : ⊥ = omega (arith, ltb-true n 0 t) in absurd f
no_place (negsuc n) e t = refl

-- any other is the number that it is read as
pub plain : (o : ℤ) → SFits w32 o → lt_z o (pos 0) ≡ false → T (non_neg o) × Fits w64 (nat_abs o)
plain (pos n) f t = (tt, record { fits = omega (arith, f.sfits) })
plain (negsuc n) f t = let z : ◌≡◌ {A = ℕ} 0 1 = cc in let f : ⊥ = omega arith in absurd f

pub place : (o : ℤ) (e : ℕ) → lt_z o (pos 0) ≡ false → eqb (nat_abs o) e ≡ is_place o e
unfolding is_place
place (pos n) e t = refl
place (negsuc n) e t = let z : ◌≡◌ {A = ℕ} 0 1 = cc in let f : ⊥ = omega arith in absurd f
