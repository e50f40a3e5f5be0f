-- What is known of the files' bytes.
use Rattle.std.specs.Prelude.{ℕ, List, map, Option, None, Some}
use Rattle.pack.specs.declared.Source.{Source}

-- the bytes of a file that is ready, and 0 where there is none
abbrev pub size_in : Option Source → ℕ
size_in None = 0
size_in (Some r) = r.size

-- the bytes of each file
abbrev pub sizes : List (Option Source) → List ℕ
sizes slots = map size_in slots
