-- Laws of places a step apart, and of sums over the numbers there.
use Rattle.std.proofs.Common.{◌≡◌, ℕ, zero, suc, ◌+◌, ◌*◌, ◌<◌, ◌≤◌, List, ap, ◌∙◌, refl, add-zero, add-suc, mul-le-mul, mul-le-mul_left, mul-zero, mul-suc, mul-add, add-one, arith}
use Rattle.numbers.specs.Numbers.{be4}
use Rattle.rules.specs.Chunk.{sum_to}
use Rattle.runs.specs.Samples.{every_four, Summed}
use Rattle.runs.proofs.Sums.{summed_more}

-- a step that is whole inside as many steps, and some steps from one of them on
pub step_inside : (from step n i l : ℕ) → i < n → from + step * n ≤ l → from + step * i + step ≤ l
step_inside from step n i l h k = omega (arith, mul-suc step i, mul-le-mul_left step h)

pub steps_inside : (from step n i k p l : ℕ) → p ≡ from + step * i → i + k ≤ n → from + step * n ≤ l → p + step * k ≤ l
steps_inside from step n i k p l e h b = omega (arith, mul-add step i k, mul-le-mul_left step h)

-- the first place, and the place one step on
pub step_none : (from step : ℕ) → from ≡ from + step * 0
step_none from step = omega (arith, mul-zero step)

pub step_on_lem : (from step i p : ℕ) → p ≡ from + step * i → p + step ≡ from + step * (i + 1)
step_on_lem from step i p e = rw (add-one, mul-suc) (omega arith)

-- no sample, and the number at the place of sample i
pub summed_none : (g : ℕ → ℕ) → Summed g 0 0
unfolding sum_to
summed_none g = record { total = refl; small = omega arith }

pub summed_at :
    (m : List ℕ) (from step i sum p x : ℕ) → Summed (every_four m from step) i sum → p ≡ from + step * i → x ≡ be4 m p → x ≤ 4294967295 →
    Summed (every_four m from step) (i + 1) (sum + x)
summed_at m from step i sum p x s e f b = summed_more (every_four m from step) i sum x s (f ∙ ap (be4 m) e) b

-- some samples, and so many more from where these end
sum_join : (g h : ℕ → ℕ) (i : ℕ) → ((j : ℕ) → h j ≡ g (i + j)) → (k : ℕ) → sum_to g (i + k) ≡ sum_to g i + sum_to h k
unfolding sum_to
sum_join g h i e zero = rw (add-zero i) (omega arith)
sum_join g h i e (suc k) = rw add-suc (omega (arith, sum_join g h i e k, e k))

pub summed_join :
    (m : List ℕ) (from step i k p s t : ℕ) → p ≡ from + step * i → Summed (every_four m from step) i s → Summed (every_four m p step) k t →
    Summed (every_four m from step) (i + k) (s + t)
summed_join m from step i k p s t e u v =
    record {
      total = omega (
        arith,
        u.total,
        v.total,
        sum_join (every_four m from step) (every_four m p step) i (λ j. ap (be4 m) (omega (arith, mul-add step i j))) k,
      );
      small = omega (arith, u.small, v.small);
    }

-- how large a number gets that all samples share
pub times_fits : (n x : ℕ) → n ≤ 65536 → x ≤ 4294967295 → n * x ≤ 281474976645120
times_fits n x h k = omega (arith, mul-le-mul {n₁ = n} {m₁ = x} {n₂ = 65536} {m₂ = 4294967295} h k)
