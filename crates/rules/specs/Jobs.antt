-- What the contract of a job permits, over any rules that give its outcome, the jobs that it has to shut out, and how a job may answer.
use Rattle.std.specs.Prelude.{ℕ, ◌≤◌, ◌<◌, true, false, List, ◌≡◌, eqb, length, drop, set, get_or}
use Rattle.rules.specs.Refusals.{member}
use Rattle.rules.specs.Track.{Outcome, refused, accepted}
use Rattle.rules.specs.declared.Verdict.{Verdict}

-- a job answers a verdict and leaves a table, by the slice and the table that it is lent; so do the rules
abbrev pub Job : Type 0
Job = List ℕ → List ℕ → Outcome

-- a verdict and a table afterwards are permitted for a slice and a lent table: they are the outcome that the rules give
abbrev pub Permits : Job → List ℕ → List ℕ → Verdict → List ℕ → Type 0
Permits rules s t v u = record { verdict = v; table = u } ≡ rules s t

-- on some input what a job answers is not permitted
abbrev pub Shut : Job → Job → Type 0
Shut rules job = (s : List ℕ) × (t : List ℕ) × (Permits rules s t (job s t).verdict (job s t).table → ⊥)

-- the dummies, whatever else they do: refuses all; one verdict for all, as T's; never writes the table; invents the count, by the
-- slice's length and the lent table, and not by the bytes; writes one number past what the rules write, where they leave all as it was
pub data Dummy (rules job : Job) : Type 0 where
  refuses_all : ((s t : List ℕ) → (job s t).verdict.number ≡ 0 → ⊥) → Dummy rules job
  one_verdict : (v : Verdict) → ((s t : List ℕ) → (job s t).verdict ≡ v) → Dummy rules job
  never_writes : ((s t : List ℕ) → (job s t).table ≡ t) → Dummy rules job
  invents_count : (count : ℕ → List ℕ → ℕ) → ((s t : List ℕ) → (job s t).verdict.count ≡ count (length s) t) → Dummy rules job
  writes_past : (past value : List ℕ → ℕ)
      → ((s t : List ℕ) → drop (past s) (rules s t).table ≡ drop (past s) t)
      → ((s t : List ℕ) → (job s t).table ≡ set (rules s t).table (past s) (value s))
      → Dummy rules job

-- examples that shut them out: a slice that is accepted, another of its length with another count, and one that is refused
pub record Shown (rules : Job) : Type 0 where
  pub good : List ℕ
  pub other : List ℕ
  pub bad : List ℕ
  pub lent : List ℕ
  pub accepts : (rules good lent).verdict.number ≡ 0
  pub writes : eqb (get_or (rules good lent).table 0 0) (get_or lent 0 0) ≡ false
  pub counts : eqb (rules other lent).verdict.count (rules good lent).verdict.count ≡ false
  pub as_long : length other ≡ length good
  pub refuses : eqb (rules bad lent).verdict.number 0 ≡ false

-- an outcome is the acceptance with that count, timescale and numbers, a refusal under one of a list, or 23 where there is no room
pub data Answered (refusals : List ℕ) (count scale : ℕ) (numbers t : List ℕ) (o : Outcome) : Type 0 where
  is_accepted : length numbers ≤ length t → o ≡ accepted count scale numbers t → Answered refusals count scale numbers t o
  is_refused : (n k place : ℕ) → member n refusals ≡ true → o ≡ refused n k place t → Answered refusals count scale numbers t o
  no_room : length t < length numbers → o ≡ refused 23 0 0 t → Answered refusals count scale numbers t o
