-- Laws of `inside`: a type that is named, and one that is not.
use mathlib.Core.Path.{◌≡◌}
use Prim.Native.Nat.{ℕ}
use Rattle.rules.specs.Boxes.{inside}
use Rattle.rules.specs.declared.Path.{Path}

-- what is inside is what is inside an equal type on an equal path
pub same_inside : {p q : Path} {k a : ℕ} → p ≡ q → k ≡ a → inside q a ≡ inside p k
same_inside e f = cc
