-- Laws of what the program prints: by the length of its input; and it is one text for one input.
use mathlib.Core.Path.{◌≡◌}
use mathlib.Core.List.{List}
use Prim.Native.Nat.{ℕ, ◌≤◌, ◌<◌}
use lib.ListN.{length, take}
use borrow.Author.Tests.{lt-ltb, le-ltb}
use Rattle.rules.specs.Bundle.{tracks}
use Rattle.rules.specs.Track.{Outcome}
use Rattle.rules.specs.Set.{set_outcome}
use Rattle.lines.specs.Lines.{over_line, set_lines}
use Rattle.lines.specs.Puts.{Line}
use Rattle.lines.proofs.Puts.{line_is, line_unique}
use Rattle.printed.specs.Printed.{input_limit, table, printed}

-- input over the limit
pub over : (b : List ℕ) → input_limit < length b → over_line input_limit ≡ printed b
unfolding printed
over b h = rw (lt-ltb input_limit (length b) h)

-- input that the program holds, by the number of tracks and the outcome
pub held : (b : List ℕ) {n : ℕ} {o : Outcome} → length b ≤ input_limit → n ≡ length (tracks b) → o ≡ set_outcome b table
    → set_lines n o ≡ printed b
unfolding printed
held b h e f = rw (e, f, le-ltb input_limit (length b) h)

-- the contract leaves one possible length and one possible buffer for an input
pub unique : (b l : List ℕ) (n k : ℕ) (m o : List ℕ) → Line (printed b) l n m → Line (printed b) l k o → (n ≡ k) × (m ≡ o)
unique b l n k m o = line_unique

-- and the bytes up to that length are what is printed
pub text_is : (b l : List ℕ) (n : ℕ) (m : List ℕ) → Line (printed b) l n m → take n m ≡ printed b
text_is b l n m = line_is
