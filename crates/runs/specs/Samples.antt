-- Sums over the samples of a run.
use Rattle.std.specs.Prelude.{◌≡◌, ℕ, ◌+◌, ◌*◌, ◌/◌, ◌≤◌, List, length}
use Rattle.numbers.specs.Numbers.{be4}
use Rattle.rules.specs.Limits.{sample_limit}
use Rattle.rules.specs.Chunk.{sum_to}
use Rattle.runs.specs.declared.samples.Sums.{Sums}

-- the four-byte number i steps from a place
abbrev pub every_four : List ℕ → ℕ → ℕ → ℕ → ℕ
every_four m from step i = be4 m (from + step * i)

-- a sum of the first n, each of 32 bits
pub record Summed (g : ℕ → ℕ) (n sum : ℕ) : Type 0 where
  pub total : sum ≡ sum_to g n
  pub small : sum ≤ 4294967295 * n

-- rows of a step of so many bytes at least, no more of them than a chunk has samples
abbrev pub FewRows : ℕ → ℕ → List ℕ → Type 0
FewRows least step rows = (least ≤ step) × (length rows / step ≤ sample_limit)

-- the sums of rows a step apart: of the number that each begins with, and of the next
pub record SumsRows (rows : List ℕ) (step : ℕ) (s : Sums) : Type 0 where
  pub ticks : Summed (every_four rows 0 step) (length rows / step) s.ticks
  pub bytes : Summed (every_four rows 4 step) (length rows / step) s.bytes
