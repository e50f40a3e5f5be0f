-- Laws of a number's decimal digits: by its last digit, how many there are, and that they are those that the library writes.
use mathlib.Core.Path.{◌≡◌, refl, sym, ap, ◌∙◌}
use mathlib.Core.Bool.{Bool, true, false}
use mathlib.Core.List.{List, [], ◌∷◌, ◌++◌}
use Prim.Native.Nat.{ℕ, zero, suc, ◌+◌, ◌*◌, ◌/◌, ◌%◌, ◌^◌, ◌≤◌, ◌<◌}
use native.Mathlib.Nat.{pow-suc}
use native.Mathlib.Numerals.{add-one}
use native.Mathlib.Omega.{arith}
use lib.Dec.{ltb}
use lib.ListN.{length, length-append}
use borrow.Author.Rules.{rules}
use borrow.Author.Tests.{lt-ltb, le-ltb, ltb-false, ltb-true}
use Rattle.std.specs.Fmt as library
use Rattle.std.proofs.lemmas.Fmt.{AppendsLastDigit, decimal_from_appends, length-decimal-le_succ}
use Rattle.lines.specs.Lines.{digit, digits, decimal}

-- one digit
one : (k n : ℕ) → n < 10 → digits (suc k) n ≡ digit n ∷ []
unfolding digits
one k n h = rw (lt-ltb n 10 h)

-- the last digit and those before it
last : (k n : ℕ) → 10 ≤ n → digits (suc k) n ≡ digits k (n / 10) ++ (digit (n % 10) ∷ [])
unfolding digits
last k n h = rw (le-ltb n 10 h)

-- any number of digits that is large enough
enough : (j k n : ℕ) → n < j → n < k → digits j n ≡ digits k n
enough zero k n h g = absurd (omega arith)
enough (suc j) zero n h g = absurd (omega arith)
enough (suc j) (suc k) n h g = by (ltb n 10) refl (enough j k (n / 10))
  where
    by : (t : Bool) → ltb n 10 ≡ t → (n / 10 < j → n / 10 < k → digits j (n / 10) ≡ digits k (n / 10))
        → digits (suc j) n ≡ digits (suc k) n
    by true e rest = let f : n < 10 = ltb-true n 10 e in one j n f ∙ sym (one k n f)
    by false e rest =
        let f : 10 ≤ n = ltb-false n 10 e in
        last j n f ∙ ap (λ (l : List ℕ). l ++ (digit (n % 10) ∷ [])) (rest (omega arith) (omega arith)) ∙ sym (last k n f)

pub below_ten : (n : ℕ) → n < 10 → decimal n ≡ digit n ∷ []
unfolding decimal
below_ten n h = rw add-one (one n n h)

pub from_ten : (n : ℕ) → 10 ≤ n → decimal n ≡ decimal (n / 10) ++ (digit (n % 10) ∷ [])
unfolding decimal
from_ten n h =
    rw (add-one n)
    (last n n h ∙ ap (λ (l : List ℕ). l ++ (digit (n % 10) ∷ [])) (enough n (n / 10 + 1) (n / 10) (omega arith) (omega arith)))

-- how many digits a number of 10 or more has
pub one_more : (n : ℕ) → 10 ≤ n → length (decimal n) ≡ length (decimal (n / 10)) + 1
one_more n h = ap length (from_ten n h) ∙ simp length-append

-- a number below a power of 10 has at most so many digits
pub at_most : (k n : ℕ) → n < 10 ^ suc k → length (decimal n) ≤ suc k
at_most zero n h = omega (arith, ap length (below_ten n h))
at_most (suc k) n h = by (ltb n 10) refl (at_most k (n / 10))
  where
    by : (t : Bool) → ltb n 10 ≡ t → (n / 10 < 10 ^ suc k → length (decimal (n / 10)) ≤ suc k)
        → length (decimal n) ≤ suc (suc k)
    by true e rest = omega (arith, ap length (below_ten n (ltb-true n 10 e)))
    by false e rest =
        let x : n < 10 ^ suc k * 10 = rw (pow-suc 10 (suc k)) at h in
        omega (arith, one_more n (ltb-false n 10 e), rest (omega arith))

-- a number of 64 bits has at most 20 digits
pub twenty : (n : ℕ) → n < 2 ^ 64 → length (decimal n) ≤ 20
twenty n h = at_most 19 n (omega arith)

-- the last digit is behind those before it
appends : AppendsLastDigit digits
unfolding digits
appends = search rules

pub written : (n : ℕ) → n < 2 ^ 64 → decimal n ≡ library.decimal n
unfolding decimal
written n h = decimal_from_appends digits appends (n + 1) n h (length-decimal-le_succ n h)
