-- The readers read the bytes of a place alone, and make no larger number of them than they can.
use mathlib.Core.Path.{◌≡◌, ap, ◌∙◌}
use mathlib.Core.List.{List}
use Prim.Native.Nat.{ℕ, ◌+◌, ◌^◌, ◌<◌}
use native.Mathlib.Nat.{add-zero}
use native.Mathlib.Omega.{arith}
use Rattle.numbers.specs.Numbers.{byte, be2, be3, be4, be8}

-- f reads the n bytes at a place: equal bytes give equal numbers, and bytes a number below 256 ^ n
pub record Reads (n : ℕ) (f : List ℕ → ℕ → ℕ) : Type 0 where
  pub agree : (s t : List ℕ) (i j : ℕ) → ((k : ℕ) → k < n → byte s (i + k) ≡ byte t (j + k)) → f s i ≡ f t j
  pub below : (s : List ℕ) → ((i : ℕ) → byte s i < 256) → (i : ℕ) → f s i < 256 ^ n

-- the bytes of two places agree at the places themselves
at_zero : (s t : List ℕ) (i j : ℕ) → byte s (i + 0) ≡ byte t (j + 0) → byte s i ≡ byte t j
at_zero s t i j e = simp add-zero at e

pub reads1 : Reads 1 byte
reads1 =
    record {
      agree = λ s t i j e. at_zero s t i j (e 0 (omega arith));
      below = λ s b i. b i;
    }

pub reads2 : Reads 2 be2
unfolding be2
reads2 =
    record {
      agree = λ s t i j e. omega (arith, at_zero s t i j (e 0 (omega arith)), e 1 (omega arith));
      below = λ s b i. omega (arith, b i, b (i + 1));
    }

pub reads3 : Reads 3 be3
unfolding be3
reads3 =
    record {
      agree = λ s t i j e. omega (arith, at_zero s t i j (e 0 (omega arith)), e 1 (omega arith), e 2 (omega arith));
      below = λ s b i. omega (arith, b i, b (i + 1), b (i + 2));
    }

pub reads4 : Reads 4 be4
unfolding be4
reads4 =
    record {
      agree = λ s t i j e.
          omega (arith, at_zero s t i j (e 0 (omega arith)), e 1 (omega arith), e 2 (omega arith), e 3 (omega arith));
      below = λ s b i. omega (arith, b i, b (i + 1), b (i + 2), b (i + 3));
    }

-- the bytes agree from four places on
later : (s t : List ℕ) (i j : ℕ) → ((k : ℕ) → k < 8 → byte s (i + k) ≡ byte t (j + k)) → (k : ℕ) → k < 4 → byte s (i + 4 + k) ≡ byte t (j + 4 + k)
later s t i j e k h = ap (byte s) (omega arith) ∙ e (4 + k) (omega arith) ∙ ap (byte t) (omega arith)

pub reads8 : Reads 8 be8
unfolding be8
reads8 =
    record {
      agree = λ s t i j e.
          omega (arith, reads4.agree s t i j (λ k h. e k (omega arith)), reads4.agree s t (i + 4) (j + 4) (later s t i j e));
      below = λ s b i. omega (arith, reads4.below s b i, reads4.below s b (i + 4));
    }
