-- A job's answer and the table that it leaves give its outcome to C; and an outcome is given in one way.
use Prim.Native.Nat.{ℕ}
use mathlib.Core.List.{List}
use mathlib.Core.Path.{◌≡◌, sym, ap, ◌∙◌}
use Rattle.rules.specs.Track.{Outcome}
use Rattle.rules.specs.declared.Verdict.{Verdict}
use Rattle.flangemint.specs.Gives.{in_order, Gives}

-- where the five numbers are the verdict's, and verdict and table are the outcome
pub given : {o : Outcome} {v : Verdict} {u w : List ℕ} → w ≡ in_order v → record { verdict = v; table = u } ≡ o → Gives o w u
given e p = (rw e (ap (λ (o : Outcome). in_order o.verdict) p), ap (λ (o : Outcome). o.table) p)

-- two contents of the lent memory that a contract permits are equal, the five numbers and the table
pub unique : (o : Outcome) (v w u x : List ℕ) → Gives o v u → Gives o w x → (v ≡ w) × (u ≡ x)
unique o v w u x p q = (p.0 ∙ sym q.0, p.1 ∙ sym q.1)
