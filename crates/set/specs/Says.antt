-- What the walk over the tracks of a bundle says: what is left of a set from a record on.
use Rattle.std.specs.Prelude.{ℕ, ◌-◌, List}
use Rattle.rules.specs.Limits.{record_limit}
use Rattle.rules.specs.Rules.{◌then◌, Rule}
use Rattle.rules.specs.Bundle.{tracks_of, records_from}
use Rattle.rules.specs.Set.{rulings, agree}

-- the tracks from the k-th on, whose record stands at a place
abbrev pub rest_of : List ℕ → ℕ → ℕ → List (List ℕ)
rest_of b k at = tracks_of b (records_from (record_limit - k) b at)

-- each track after track 0 by itself, then each beside it
abbrev pub all_of : List ℕ → List ℕ → ℕ → Rule
all_of b s₀ from = rulings 1 (rest_of b 1 from) then agree s₀ 1 (rest_of b 1 from)
