-- The numbers of framing: a slice that is not framed is refused under one of them.
use Prim.Native.Nat.{ℕ, zero, suc, ◌+◌, ◌-◌}
use mathlib.Core.Path.{◌≡◌, refl}
use mathlib.Core.Bool.{Bool, true, false}
use mathlib.Core.List.{List}
use lib.ListN.{length}
use lib.Dec.{leb}
use Rattle.numbers.specs.Numbers.{when}
use Rattle.rules.specs.Limits.{box_limit}
use Rattle.rules.specs.Refusals.{member, framing_numbers}
use Rattle.rules.specs.Boxes.{Forest, end, bad, node, part, look, inside, within, grow, forest}
use Rattle.rules.specs.Framing.{on_framing, rule5, framing, framed}
use Rattle.rules.specs.declared.Path.{Path}
use Rattle.rules.specs.declared.Path.TheVariants.{Top}
use Rattle.rules.specs.Rules.{Framing, unframed}
use Rattle.std.specs.Prelude.{Option, None, Some, Ok, Err}
use Rattle.rules.specs.declared.Look.{Look}
use Rattle.rules.specs.declared.Look.TheVariants.{Nothing, Short, Small, Beyond, Good}
use Rattle.rules.proofs.Forest.{sprout}

-- whole, or a number of framing
abbrev pub FramingNumbered : Framing → Type 0
FramingNumbered (Ok n) = Unit {0}
FramingNumbered (Err e) = member e.number framing_numbers ≡ true

-- every broken header of a forest hands on a number of framing
abbrev HeadersNumbered : Forest → Type 0
HeadersNumbered end = Unit {0}
HeadersNumbered (bad n p) = member n framing_numbers ≡ true
HeadersNumbered (node x i r) = HeadersNumbered i × HeadersNumbered r

headed : (f : ℕ) (p : Path) (s : List ℕ) (at : ℕ) → HeadersNumbered (grow f p s at)
unfolding grow member
headed zero p s at = tt
headed (suc f) p s at = go (look s at) (λ q t a. headed f q t a)
  where
    inner : (i : Option Path) (t : List ℕ) → ((q : Path) (t : List ℕ) (a : ℕ) → HeadersNumbered (grow f q t a)) → HeadersNumbered (within (λ q t. grow f q t 0) i t)
    inner None t g = tt
    inner (Some q) t g = g q t 0

    go : (l : Look) → ((q : Path) (t : List ℕ) (a : ℕ) → HeadersNumbered (grow f q t a))
        → HeadersNumbered (sprout (λ q t. grow f q t 0) (grow f p s) p s at l)
    go Nothing g = tt
    go Short g = refl
    go Small g = refl
    go Beyond g = refl
    go (Good h z k) g = (inner (inside p k) (part s (at + h) (z - h)) g, g p s (at + z))

by_5 : (n place : ℕ) (r : Framing) → FramingNumbered r → FramingNumbered (rule5 n place r)
unfolding rule5 member
by_5 n place r h = go (leb box_limit n)
  where
    go : (b : Bool) → FramingNumbered (when b (unframed 5 place) r)
    go true = refl
    go false = h

by_forest : (t : Forest) (base n : ℕ) → HeadersNumbered t → FramingNumbered (framing t base n)
unfolding framing
by_forest end base n h = tt
by_forest (bad k p) base n h = by_5 n (base + p) (unframed k (base + p)) h
by_forest (node x i r) base n h =
    by_5 n (base + x.at) _
    (go (framing i (base + x.at + x.inner) (n + 1)) (by_forest i (base + x.at + x.inner) (n + 1) h.0) (λ m. by_forest r base m h.1))
  where
    go : (y : Framing) → FramingNumbered y → ((m : ℕ) → FramingNumbered (framing r base m))
        → FramingNumbered (on_framing y (λ m. framing r base m) (λ k p. unframed k p))
    go (Ok m) c f = f m
    go (Err e) c f = c

-- a slice is framed whole, or refused under a number of framing
pub framing_numbered : (s : List ℕ) → FramingNumbered (framed s)
unfolding forest
framing_numbered s = by_forest (forest Top s 0) 0 0 (headed (length s - 0) Top s 0)
