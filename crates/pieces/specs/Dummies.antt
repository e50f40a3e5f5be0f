-- Checkers of pieces that are none, by how they go wrong.
use Rattle.std.specs.Prelude.{ℕ, ◌+◌, ◌≤◌, ◌<◌, true, ◌≡◌, length}
use mathlib.Core.List.{List, [], ◌∷◌, flatten}
use Rattle.rules.specs.Limits.{byte_limit}
use Rattle.rules.specs.Refusals.{member, value_numbers}
use Rattle.rules.specs.Pieces.{answer_for}
use Rattle.rules.specs.declared.Answer.{Answer}

-- a checker of pieces: what it answers for them
abbrev pub Checker : Type 0
Checker = List (List ℕ) → Answer

-- it is permitted if its answer is the written rule's for the bytes, however they are cut
abbrev pub Permitted : Checker → Type 0
Permitted check = (ps : List (List ℕ)) → check ps ≡ answer_for (flatten ps)

-- bytes that are refused by a value
abbrev pub RefusedByValue : List ℕ → Type 0
RefusedByValue s = member (answer_for s).verdict.number value_numbers ≡ true

-- up to the byte limit, whatever it does beyond: works on the first piece only; forgets a refusal by a value where a further piece follows that is not
-- empty; lets a refusal by a value stand whatever follows
pub data FaultyChecker (check : Checker) : Type 0 where
  first_only : ((p : List ℕ) (ps : List (List ℕ)) → length p + length (flatten ps) ≤ byte_limit → check (p ∷ ps) ≡ check (p ∷ [])) → FaultyChecker check
  forgets :
      ((s b : List ℕ) → RefusedByValue s → 0 < length b → length s + length b ≤ byte_limit → (answer_for s).verdict ≡ (check (s ∷ b ∷ [])).verdict → ⊥) →
      FaultyChecker check
  judges_at_once : ((s b : List ℕ) → RefusedByValue s → length s + length b ≤ byte_limit → check (s ∷ b ∷ []) ≡ answer_for s) → FaultyChecker check
