-- What callers may add and take away without a test: the bounds of what is read.
use Rattle.std.specs.Prelude.{ℕ, ◌+◌, ◌≤◌}
use Rattle.rules.specs.declared.Look.{Look}
use Rattle.rules.specs.declared.Look.TheVariants.{Nothing, Short, Small, Beyond, Good}

-- a header at a place of n bytes is 8 to 16 bytes long, no longer than its box, and the box ends in them
abbrev pub LookBounds : Look → ℕ → ℕ → Type 0
LookBounds Nothing n at = Unit {0}
LookBounds Short n at = Unit {0}
LookBounds Small n at = Unit {0}
LookBounds Beyond n at = Unit {0}
LookBounds (Good h z k) n at = (8 ≤ h) × (h ≤ 16) × (h ≤ z) × (at + z ≤ n)
