-- Laws of `look`: each of its answers from the tests that lead there, and the bounds of any answer.
use mathlib.Core.Path.{◌≡◌, refl, sym, ◌∙◌}
use mathlib.Core.List.{List}
use Prim.Native.Nat.{ℕ, ◌+◌, ◌-◌, ◌<◌, ◌≤◌}
use native.Mathlib.Omega.{arith}
use lib.ListN.{length}
use borrow.Author.Tests.{lt-ltb, le-ltb, eq-eqb, ne_eqb}
use Rattle.numbers.specs.Numbers.{be4, be8}
use Rattle.rules.specs.Boxes.{look, look_at, sized}
use Rattle.rules.specs.declared.Look.{Look}
use Rattle.rules.specs.declared.Look.TheVariants.{Nothing, Short, Small, Beyond, Good}
use Rattle.rules.proofs.Forest.{FoundBox, look_found}
use Rattle.boxes.specs.Bounds.{LookBounds}

-- what is looked up keeps its bounds
pub bounds : (s : List ℕ) (at : ℕ) (l : Look) → l ≡ look s at → LookBounds l (length s) at
bounds s at Nothing e = tt
bounds s at Short e = tt
bounds s at Small e = tt
bounds s at Beyond e = tt
bounds s at (Good h z k) e =
    let f : FoundBox s at h z k = look_found s at h z k (sym e) in
    (f.low, f.high, f.holds, f.fits)

-- an answer with its bounds
pub told : (s : List ℕ) (at : ℕ) (l : Look) → l ≡ look s at → (l ≡ look s at) × LookBounds l (length s) at
told s at l e = (e, bounds s at l e)

-- no room for a header
pub no_header : (s : List ℕ) (at : ℕ) → at < length s → length s - at < 8 → Short ≡ look s at
unfolding look look_at
no_header s at inner h = simp (ne_eqb (length s - at) 0 (omega arith), lt-ltb (length s - at) 8 h)

-- room for a header, whose size and type are read
module _ (s : List ℕ) (at a k : ℕ) (inner : at < length s) (left : 8 ≤ length s - at) (ea : a ≡ be4 s at) (ek : k ≡ be4 s (at + 4)) where
  -- a long size that has no room
  pub no_long : a ≡ 1 → length s - at < 16 → Short ≡ look s at
  unfolding look look_at
  no_long e h =
      simp
      (ne_eqb (length s - at) 0 (omega arith), le-ltb (length s - at) 8 left, eq-eqb (be4 s at) 1 (sym ea ∙ e), lt-ltb (length s - at) 16 h)

  -- a long size
  pub long : (h z : ℕ) (l : Look) → a ≡ 1 → 16 ≤ length s - at → h ≡ 16 → z ≡ be8 s (at + 8) → l ≡ sized (length s - at) h z k → l ≡ look s at
  unfolding look look_at
  long h z l e r eh ez el =
      simp
      (ne_eqb (length s - at) 0 (omega arith), le-ltb (length s - at) 8 left, eq-eqb (be4 s at) 1 (sym ea ∙ e), le-ltb (length s - at) 16 r)
      (cc)

  -- a short size
  pub short : (h z : ℕ) (l : Look) → (a ≡ 1 → ⊥) → h ≡ 8 → z ≡ a → l ≡ sized (length s - at) h z k → l ≡ look s at
  unfolding look look_at
  short h z l e eh ez el =
      simp (ne_eqb (length s - at) 0 (omega arith), le-ltb (length s - at) 8 left, ne_eqb (be4 s at) 1 (λ q. e (ea ∙ q))) (cc)

  -- a size below 8 that does not stand for a long one
  pub too_small : (a ≡ 1 → ⊥) → a < 8 → Small ≡ look s at
  unfolding sized
  too_small e h = short 8 a Small e refl refl (simp (lt-ltb a 8 h))
