-- What each answer over a bundle says, case by case, in the paper's numbers.
use Rattle.std.specs.Prelude.{ℕ, ◌+◌, ◌≤◌, ◌≡◌, List, length, Result, Ok, Err}
use Rattle.rules.specs.Rules.{on_rule, breaks}
use Rattle.rules.specs.Bundle.{none, rule24_from, rule24, tracks}
use Rattle.rules.specs.declared.Mark.{Mark}
use Rattle.rules.specs.declared.Mark.TheVariants.{Nothing, Wrong, Track}
use Rattle.bundle.specs.declared.BadRecord.{BadRecord}

-- a record's track ends in the bundle's n bytes
abbrev pub MarkBounds : Mark → ℕ → ℕ → Type 0
MarkBounds Nothing n at = Unit {0}
MarkBounds Wrong n at = Unit {0}
MarkBounds (Track z) n at = at + 6 + z ≤ n

-- rule 24 holds, with the number of tracks; or it breaks at a record, with the good records before it
abbrev pub SaysBundle : Result ℕ BadRecord → List ℕ → Type 0
SaysBundle (Ok k) b = (rule24 b ≡ Ok tt) × (k ≡ length (tracks b)) × (1 ≤ k)
SaysBundle (Err e) b = (rule24 b ≡ breaks 24 e.track e.place) × (e.track ≡ length (tracks b))

-- where no bytes are left after k records
unfoldable pub ended_of : ℕ → Result ℕ BadRecord
ended_of k = on_rule (rule24_from k none) (λ _. Ok k) (λ n t p. Err (record { track = t; place = p }))
