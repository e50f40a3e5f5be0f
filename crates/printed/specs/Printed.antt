-- What the program prints for the bytes of its input, in the words of document 01, 'The bundle'.
use Rattle.std.specs.Prelude.{ℕ, List, ltb, length, replicate}
use Rattle.numbers.specs.Numbers.{when}
use Rattle.rules.specs.Bundle.{tracks}
use Rattle.rules.specs.Set.{set_outcome}
use Rattle.lines.specs.Lines.{over_line, set_lines}

-- the bytes that the program holds
abbrev pub input_limit : ℕ
input_limit = 65536

-- the table that the program lends: 1,024 zeros
unfoldable pub table : List ℕ
table = replicate 1024 0

-- the bytes printed: for longer input that it is over the limit, else the lines of the set job's outcome
unfoldable pub printed : List ℕ → List ℕ
printed input =
    when (ltb input_limit (length input)) (over_line input_limit) (set_lines (length (tracks input)) (set_outcome input table))
