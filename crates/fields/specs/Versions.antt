-- What the reader of a body with two versions answers.
use Rattle.std.specs.Prelude.{ℕ, ◌+◌, ◌≡◌, List, true, false, Option, None, Some}
use Rattle.rules.specs.Fields.{version, either, has_form}
use Rattle.rules.specs.declared.Spot.{Spot}
use Rattle.fields.specs.declared.Version.{Version}
use Rattle.fields.specs.declared.Version.TheVariants.{Zero, One}

-- the body has the form: version 0 with size a, or version 1 with size c; or it has not
abbrev pub SaysVersion : Option Version → List ℕ → Spot → ℕ → ℕ → Type 0
SaysVersion (Some Zero) s b a c = (has_form (either a c) s b.at ≡ true) × (version s b.at ≡ 0) × (b.size + 8 ≡ b.head + a)
SaysVersion (Some One) s b a c = (has_form (either a c) s b.at ≡ true) × (version s b.at ≡ 1) × (b.size + 8 ≡ b.head + c)
SaysVersion None s b a c = has_form (either a c) s b.at ≡ false
