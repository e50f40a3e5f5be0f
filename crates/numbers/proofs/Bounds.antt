-- Laws of the readers, which callers cite: the readers over a part of a list.
use mathlib.Core.Path.{◌≡◌, sym, ap, ◌∙◌}
use mathlib.Core.List.{List}
use Prim.Native.Nat.{ℕ, ◌+◌, ◌≤◌}
use native.Mathlib.Omega.{arith}
use lib.ListN.{length, take, drop, get_or-eq_default}
use lib.Seq.{get_or-drop, get_or-take}
use Rattle.numbers.specs.Numbers.{byte}
pub use Rattle.numbers.specs.Reads.{Reads, reads1, reads2, reads3, reads4, reads8}

-- a byte past the end is 0
pub past : (s : List ℕ) (i : ℕ) → length s ≤ i → 0 ≡ byte s i
past s i h = sym (get_or-eq_default s 0 h)

-- a byte some places on, counted either way
pub on : (s : List ℕ) (i n k : ℕ) → byte s (i + (n + k)) ≡ byte s (i + n + k)
on s i n k = ap (byte s) (omega arith)

-- what is read in the rest of a list is read in the list
pub in_drop : {m : ℕ} {f : List ℕ → ℕ → ℕ} → Reads m f → (n : ℕ) (s : List ℕ) (i : ℕ) → f (drop n s) i ≡ f s (n + i)
in_drop r n s i = r.agree (drop n s) s i (n + i) (λ k h. get_or-drop n s (i + k) 0 ∙ ap (byte s) (omega arith))

-- what is read inside the front of a list is read in the list
pub in_take : {m : ℕ} {f : List ℕ → ℕ → ℕ} → Reads m f → (n : ℕ) (s : List ℕ) (i : ℕ) → i + m ≤ n → f (take n s) i ≡ f s i
in_take r n s i h = r.agree (take n s) s i i (λ k b. get_or-take n s (i + k) 0 (omega arith))
