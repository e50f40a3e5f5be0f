-- Laws of filling a table and of the sum over one.
use Prim.Native.Nat.{ℕ, ◌+◌, ◌*◌, ◌%◌, ◌<◌}
use mathlib.Core.Path.{◌≡◌, sym, ap, ◌∙◌}
use mathlib.Core.List.{List}
use native.Mathlib.Nat.{add-mod-mod}
use native.Mathlib.Numerals.{add-one}
use native.Mathlib.Omega.{arith}
use lib.ListN.{length, get_or, set}
use lib.Seq.{get_or-set_same, get_or-set_other}
use borrow.Author.Count.{below_more}
use Rattle.vectors.specs.Tables.{FilledTo, sum_of}

pub none : (t : List ℕ) → FilledTo t 0
none t k h = absurd (omega arith)

-- one number more is filled
pub one_more : (t : List ℕ) (i : ℕ) → i < length t → FilledTo t i → FilledTo (set t i (i * 7 + 1)) (i + 1)
one_more t i h f =
    below_more (λ (k : ℕ). get_or (set t i (i * 7 + 1)) k 0 ≡ k * 7 + 1) i
    (λ k l. get_or-set_other t i k (i * 7 + 1) 0 (λ e. absurd (omega arith)) ∙ f k l)
    (get_or-set_same t i (i * 7 + 1) 0 h)

pub nothing : (t : List ℕ) → 0 ≡ sum_of 0 t
unfolding sum_of
nothing t = λ i. 0

-- one number more is summed
pub summed : (t : List ℕ) (h i : ℕ) → h ≡ sum_of i t → (h * 31 + get_or t i 0 % 1000000007) % 1000000007 ≡ sum_of (i + 1) t
unfolding sum_of
summed t h i e =
    add-mod-mod (h * 31) (get_or t i 0) 1000000007
    ∙ ap (λ (k : ℕ). (k * 31 + get_or t i 0) % 1000000007) e
    ∙ ap (λ (k : ℕ). sum_of k t) (sym (add-one i))
