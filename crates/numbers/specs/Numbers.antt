-- Numbers in bytes: big-endian, total (a byte past the end reads as 0), and the signed offset of document 01.
use Rattle.std.specs.Prelude.{ℕ, ◌+◌, ◌-◌, ◌*◌, ◌/◌, ◌%◌, List, Bool, true, false, get_or, ltb, eqb, ℤ, pos, negsuc}

-- the byte at a place, 0 past the end
abbrev pub byte : List ℕ → ℕ → ℕ
byte s i = get_or s i 0

-- two bytes as a number
unfoldable pub be2 : List ℕ → ℕ → ℕ
be2 s i = byte s i * 256 + byte s (i + 1)

-- three bytes as a number: the flags of a full box
unfoldable pub be3 : List ℕ → ℕ → ℕ
be3 s i = byte s i * 65536 + byte s (i + 1) * 256 + byte s (i + 2)

-- four bytes as a number
unfoldable pub be4 : List ℕ → ℕ → ℕ
be4 s i = byte s i * 16777216 + byte s (i + 1) * 65536 + byte s (i + 2) * 256 + byte s (i + 3)

-- eight bytes as a number
unfoldable pub be8 : List ℕ → ℕ → ℕ
be8 s i = be4 s i * 4294967296 + be4 s (i + 4)

-- whether a flag, a power of two, is set
unfoldable pub has : ℕ → ℕ → Bool
has flags w = eqb (flags / w % 2) 1

-- a case by a test on numbers
abbrev pub when : {A : Type 0} → Bool → A → A → A
when true a b = a
when false a b = b

-- four bytes' number read as a signed number of 32 bits
unfoldable pub signed : ℕ → ℤ
signed x = when (ltb x 2147483648) (pos x) (negsuc (4294967295 - x))

-- whether a signed number is the place e
unfoldable pub is_place : ℤ → ℕ → Bool
is_place (pos n) e = eqb n e
is_place (negsuc n) e = false

-- the mark of this file: its definitions unfold wherever it does
unfoldable pub computed_numbers : Unit {0}
unfolding be2 be3 be4 be8 has signed is_place
computed_numbers = tt
