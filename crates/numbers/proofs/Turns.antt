-- The bytes of a number of four bytes, as remainders and quotients: turned around they are the number in the other order.
use mathlib.Core.Path.{◌≡◌}
use Prim.Native.Nat.{ℕ, ◌+◌, ◌*◌, ◌/◌, ◌%◌, ◌<◌}
use native.Mathlib.Omega.{arith}

-- what stands below 2^8 in a number, and what stands from 2^8, 2^16 and 2^24 on
lowest : (x b q : ℕ) → x ≡ b + q * 256 → b < 256 → x % 256 ≡ b
lowest x b q e h = omega arith

from_8 : (x b q : ℕ) → x ≡ b + q * 256 → b < 256 → x / 256 ≡ q
from_8 x b q e h = omega arith

from_16 : (x b q : ℕ) → x ≡ b + q * 65536 → b < 65536 → x / 65536 ≡ q
from_16 x b q e h = omega arith

from_24 : (x b q : ℕ) → x ≡ b + q * 16777216 → b < 16777216 → x / 16777216 ≡ q
from_24 x b q e h = omega arith

module _ (a b c d x : ℕ) (e : x ≡ a + b * 256 + c * 65536 + d * 16777216) (h : a < 256) (k : b < 256) (l : c < 256) where
  first : x % 256 ≡ a
  first = lowest x a (b + c * 256 + d * 65536) (omega arith) h

  second : x / 256 % 256 ≡ b
  second = lowest (x / 256) b (c + d * 256) (from_8 x a (b + (c + d * 256) * 256) (omega arith) h) k

  third : x / 65536 % 256 ≡ c
  third = lowest (x / 65536) c d (from_16 x (a + b * 256) (c + d * 256) (omega arith) (omega arith)) l

  fourth : x / 16777216 ≡ d
  fourth = from_24 x (a + b * 256 + c * 65536) d (omega arith) (omega arith)

  pub other_order : x % 256 * 16777216 + x / 256 % 256 * 65536 + x / 65536 % 256 * 256 + x / 16777216 ≡ a * 16777216 + b * 65536 + c * 256 + d
  other_order = rw (first, second, third, fourth)
