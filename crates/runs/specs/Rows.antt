-- Rows of eight bytes: two four-byte numbers side by side. Here the first byte of a row is the lowest.
use Rattle.std.specs.Prelude.{ℕ, ◌+◌, ◌*◌, ◌/◌, ◌%◌, List}
use Rattle.numbers.specs.Numbers.{byte}

-- every other byte from a place on, four of them, in 16 bits each
unfoldable pub every_other : List ℕ → ℕ → ℕ
every_other m p = byte m (p + 6) * 281474976710656 + byte m (p + 4) * 4294967296 + byte m (p + 2) * 65536 + byte m p

-- every other one of the lowest eight bytes of a number, from the lowest on, where it stands
unfoldable pub lanes : ℕ → ℕ
lanes x = x % 256 + x / 65536 % 256 * 65536 + x / 4294967296 % 256 * 4294967296 + x / 281474976710656 % 256 * 281474976710656

-- big-endian four-byte numbers in all, by what their first and third bytes come to, and their second and fourth, in 16 bits each
unfoldable pub from_columns : ℕ → ℕ → ℕ
from_columns even odd = even % 65536 * 16777216 + odd % 65536 * 65536 + even / 65536 % 65536 * 256 + odd / 65536 % 65536
