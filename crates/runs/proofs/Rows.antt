-- Laws of rows: their bytes place by place, and what these come to over many rows. The odd bytes are the second, the fourth and so on.
use Rattle.std.proofs.Common.{◌≡◌, ℕ, zero, suc, ◌+◌, ◌-◌, ◌*◌, ◌/◌, ◌%◌, ◌^◌, ◌<◌, ◌≤◌, List, sym, refl, ap, ◌∙◌, add-mul, zero-mul, add-one, arith}
use native.Mathlib.Nat.{mul-add-div_right, div-eq_of_lt}
use Rattle.numbers.specs.Numbers.{byte, be4}
use Rattle.rules.specs.Chunk.{sum_to}
use Rattle.runs.specs.Samples.{every_four, Summed}
use Rattle.runs.specs.Rows.{every_other, lanes, from_columns}

-- n bytes come to at most 255 n
sum_small : (g : ℕ → ℕ) → ((i : ℕ) → g i < 256) → (n : ℕ) → sum_to g n ≤ 255 * n
unfolding sum_to
sum_small g h zero = omega arith
sum_small g h (suc n) = omega (arith, sum_small g h n, h n)

-- a byte of a number: what stands below it, and what above
one_digit : (y w lo b hi : ℕ) → lo < w → b < 256 → y ≡ (b + hi * 256) * w + lo → y / w % 256 ≡ b
one_digit y w lo b hi h k e =
    let q : y / w ≡ b + hi * 256 + lo / w = ap (λ (z : ℕ). z / w) e ∙ mul-add-div_right {m = w} (omega arith) (b + hi * 256) lo in
    omega (arith, q, div-eq_of_lt h)

-- every other byte of a number that has these bytes
odd_lanes :
    (b c d e f g h x : ℕ) → b < 256 → c < 256 → d < 256 → e < 256 → f < 256 → g < 256 → h < 256 →
    x ≡ b + c * 256 + d * 65536 + e * 16777216 + f * 4294967296 + g * 1099511627776 + h * 281474976710656 →
    lanes x ≡ h * 281474976710656 + f * 4294967296 + d * 65536 + b
unfolding lanes
odd_lanes b c d e f g h x q r s t u v w i =
    let first : x % 256 ≡ b = omega arith in
    rw (
      first,
      one_digit x 65536 (b + c * 256) d (e + f * 256 + g * 65536 + h * 16777216) (omega arith) s (omega arith),
      one_digit x 4294967296 (b + c * 256 + d * 65536 + e * 16777216) f (g + h * 256) (omega arith) u (omega arith),
      one_digit x 281474976710656 (b + c * 256 + d * 65536 + e * 16777216 + f * 4294967296 + g * 1099511627776) h 0 (omega arith) w (omega arith),
    )
    (omega arith)

module _ (m : List ℕ) (p : ℕ) where
  -- a row without its first byte: every other byte left is an odd one
  lanes_odd : ((i : ℕ) → byte m i < 256) → lanes ((every_other m p + every_other m (p + 1) * 256) / 256) ≡ every_other m (p + 1)
  unfolding every_other
  lanes_odd b =
      odd_lanes _ _ _ _ _ _ _ _ (b (p + 1)) (b (p + 2)) (b (p + 1 + 2)) (b (p + 4)) (b (p + 1 + 4)) (b (p + 6)) (b (p + 1 + 6)) (omega (arith, b p))

-- the two lowest 16 bits of a number
lane : (x y a b : ℕ) → x ≡ y * 4294967296 + b * 65536 + a → a < 65536 → b < 65536 → (x % 65536 ≡ a) × (x / 65536 % 65536 ≡ b)
lane x y a b e p q = (omega arith, omega arith)

-- numbers in all, by what their bytes come to
columns_ordered :
    (even odd x a b y c d : ℕ) → even ≡ x * 4294967296 + b * 65536 + a → odd ≡ y * 4294967296 + d * 65536 + c →
    a < 65536 → b < 65536 → c < 65536 → d < 65536 → from_columns even odd ≡ a * 16777216 + c * 65536 + b * 256 + d
unfolding from_columns
columns_ordered even odd x a b y c d e o p q r s =
    let (g, h) = lane even x a b e p q in
    let (k, l) = lane odd y c d o r s in
    rw (g, h, k, l)

-- every other byte of rows in all
abbrev pub lanes_to : List ℕ → ℕ → ℕ → ℕ → ℕ
lanes_to m from step n = sum_to (λ i. every_other m (from + step * i)) n

module _ (m : List ℕ) (from step : ℕ) where
  -- the byte k places into row i, and these bytes of n rows in all
  abbrev in_row : ℕ → ℕ → ℕ
  in_row k i = byte m (from + k + step * i)

  abbrev column : ℕ → ℕ → ℕ
  column k n = sum_to (in_row k) n

  -- numbers of four such bytes, each with its weight, by their columns
  weighed :
      (a b c d u v w : ℕ) (g : ℕ → ℕ) → ((i : ℕ) → g i ≡ in_row a i * u + in_row b i * v + in_row c i * w + in_row d i) →
      (n : ℕ) → sum_to g n ≡ column a n * u + column b n * v + column c n * w + column d n
  unfolding sum_to
  weighed a b c d u v w g h zero = omega (arith, zero-mul u, zero-mul v, zero-mul w)
  weighed a b c d u v w g h (suc n) =
      omega (
        arith,
        h n,
        weighed a b c d u v w g h n,
        add-mul (column a n) (in_row a n) u,
        add-mul (column b n) (in_row b n) v,
        add-mul (column c n) (in_row c n) w,
      )

  -- a byte is in a row by its place
  there : (k i p : ℕ) → p ≡ from + k + step * i → byte m p ≡ in_row k i
  there k i p = ap (byte m)

  -- every other byte of the rows, from k places into them on, and the four-byte numbers there
  module _ (q k : ℕ) (e : q ≡ from + k) where
    others : (n : ℕ) → lanes_to m q step n ≡ column (k + 6) n * 281474976710656 + column (k + 4) n * 4294967296 + column (k + 2) n * 65536 + column k n
    unfolding every_other
    others =
        weighed (k + 6) (k + 4) (k + 2) k 281474976710656 4294967296 65536 (λ i. every_other m (q + step * i))
        (λ i. omega (
          arith,
          there (k + 6) i (q + step * i + 6) (omega arith),
          there (k + 4) i (q + step * i + 4) (omega arith),
          there (k + 2) i (q + step * i + 2) (omega arith),
          there k i (q + step * i) (omega arith),
        ))

    fours : (n : ℕ) → sum_to (every_four m q step) n ≡ column k n * 16777216 + column (k + 1) n * 65536 + column (k + 2) n * 256 + column (k + 3) n
    unfolding be4
    fours =
        weighed k (k + 1) (k + 2) (k + 3) 16777216 65536 256 (every_four m q step)
        (λ i. omega (
          arith,
          there k i (q + step * i) (omega arith),
          there (k + 1) i (q + step * i + 1) (omega arith),
          there (k + 2) i (q + step * i + 2) (omega arith),
          there (k + 3) i (q + step * i + 3) (omega arith),
        ))

  -- in a block no column leaves its 16 bits, so the numbers k places into the rows are put in order
  module _ (bytes : (i : ℕ) → byte m i < 256) (n : ℕ) (few : n ≤ 256) where
    small : (k : ℕ) → column k n ≤ 255 * n
    small k = sum_small (in_row k) (λ i. bytes (from + k + step * i)) n

    half :
        (q k : ℕ) → q ≡ from + k → (even odd x y : ℕ) → even ≡ x * 4294967296 + column (k + 2) n * 65536 + column k n →
        odd ≡ y * 4294967296 + column (k + 3) n * 65536 + column (k + 1) n → Summed (every_four m q step) n (from_columns even odd)
    half q k e even odd x y f g =
        let a = small k in
        let b = small (k + 1) in
        let c = small (k + 2) in
        let d = small (k + 3) in
        let o = columns_ordered even odd x (column k n) (column (k + 2) n) y (column (k + 1) n) (column (k + 3) n) f g (omega arith) (omega arith) (omega arith) (omega arith) in
        record { total = o ∙ sym (fours q k e n); small = rw o (omega arith) }

    pub lanes_small : (q k : ℕ) → q ≡ from + k → lanes_to m q step n < 2 ^ 64
    lanes_small q k e = omega (arith, others q k e n, small k, small (k + 2), small (k + 4), small (k + 6))

    halves :
        (even odd : ℕ) → even ≡ lanes_to m from step n → odd ≡ lanes_to m (from + 1) step n →
        Summed (every_four m from step) n (from_columns even odd) × Summed (every_four m (from + 4) step) n (from_columns (even / 4294967296) (odd / 4294967296))
    halves even odd e o =
        let f = e ∙ others from 0 (omega arith) n in
        let g = o ∙ others (from + 1) 1 refl n in (
          half from 0 (omega arith) even odd (column 6 n * 65536 + column 4 n) (column 7 n * 65536 + column 5 n) (omega arith) (omega arith),
          half (from + 4) 4 refl (even / 4294967296) (odd / 4294967296) 0 0
              (omega (arith, small 0, small 2)) (omega (arith, small 1, small 3)),
        )

-- what the first i rows come to: x all of their bytes, in 64 bits, and y the odd ones
pub record Added (m : List ℕ) (from step i x y : ℕ) : Type 0 where
  pub all : x ≡ (lanes_to m from step i + lanes_to m (from + 1) step i * 256) % 2 ^ 64
  pub odd : y ≡ lanes_to m (from + 1) step i

pub added_none : (m : List ℕ) (from step : ℕ) → Added m from step 0 0 0
unfolding sum_to
added_none m from step = record { all = refl; odd = refl }

-- one row more
lanes_on : (m : List ℕ) (from step i p : ℕ) → p ≡ from + step * i → lanes_to m from step (i + 1) ≡ lanes_to m from step i + every_other m p
unfolding sum_to
lanes_on m from step i p e = rw (e, add-one)

pub added_more :
    (m : List ℕ) (from step i p x all odd sum o : ℕ) → ((j : ℕ) → byte m j < 256) → p ≡ from + step * i →
    x ≡ every_other m p + every_other m (p + 1) * 256 → Added m from step i all odd → sum ≡ (all + x) % 2 ^ 64 → o ≡ lanes (x / 256) →
    Added m from step (i + 1) sum (odd + o)
added_more m from step i p x all odd sum o b e f a g h =
    let k = lanes_on m from step i p e in
    let l = lanes_on m (from + 1) step i (p + 1) (omega arith) in
    record { all = rw (k, l) (omega (arith, a.all)); odd = omega (arith, l, a.odd, rw f at h, lanes_odd m p b) }

-- all of a block: without the odd bytes it is the others
abbrev without : ℕ → ℕ → ℕ
without all odd = (all + (2 ^ 64 - odd % 72057594037927936 * 256)) % 2 ^ 64

without_odd : (all odd e : ℕ) → all ≡ (e + odd * 256) % 2 ^ 64 → e < 2 ^ 64 → without all odd ≡ e
without_odd all odd e f k = omega arith

pub added_all :
    (m : List ℕ) (from step n all odd ticks bytes : ℕ) → ((j : ℕ) → byte m j < 256) → n ≤ 256 → Added m from step n all odd →
    ticks ≡ from_columns (without all odd) odd → bytes ≡ from_columns (without all odd / 4294967296) (odd / 4294967296) →
    Summed (every_four m from step) n ticks × Summed (every_four m (from + 4) step) n bytes
added_all m from step n all odd ticks bytes b h a t u =
    rw (t, u) (halves m from step b n h (without all odd) odd
    (without_odd all odd (lanes_to m from step n) (rw a.odd a.all) (lanes_small m from step b n h from 0 (omega arith))) a.odd)
