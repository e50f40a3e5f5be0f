-- The table before a job, and the sum over it afterwards.
use Rattle.std.specs.Prelude.{ℕ, zero, suc, ◌+◌, ◌*◌, ◌%◌, ◌<◌, ◌≡◌, List, get_or}

-- the table has i * 7 + 1 at each i below n
abbrev pub FilledTo : List ℕ → ℕ → Type 0
FilledTo t n = (i : ℕ) → i < n → get_or t i 0 ≡ i * 7 + 1

-- the sum over the first n numbers
unfoldable pub sum_of : ℕ → List ℕ → ℕ
sum_of zero t = 0
sum_of (suc n) t = (sum_of n t * 31 + get_or t n 0) % 1000000007
