-- What a caller of C finds in the memory that it lent.
use Rattle.std.specs.Prelude.{ℕ, List, [], ◌∷◌, ◌++◌, ◌≡◌}
use Rattle.rules.specs.Track.{Outcome}
use Rattle.rules.specs.declared.Verdict.{Verdict}
use Rattle.rules.specs.declared.Answer.{Answer}
use Rattle.pieces.specs.Form.{memory, resume}

-- the five numbers of a verdict, in their order
abbrev pub in_order : Verdict → List ℕ
in_order v = v.number ∷ v.track ∷ v.place ∷ v.count ∷ v.timescale ∷ []

-- an outcome as five numbers and a table afterwards: all of its verdict, and the whole of its table
abbrev pub Gives : Outcome → List ℕ → List ℕ → Type 0
Gives o verdict table = (verdict ≡ in_order o.verdict) × (table ≡ o.table)

-- the seven numbers of an answer, in their order
abbrev pub answered_in : Answer → List ℕ
answered_in a = in_order a.verdict ++ (a.first ∷ a.last ∷ [])

-- seven numbers are what is answered after a memory where no byte follows
abbrev pub GivesAnswer : List ℕ → List ℕ → List ℕ → List ℕ → Type 0
GivesAnswer ns head kept answer = answer ≡ answered_in (resume (memory ns head kept) [])
