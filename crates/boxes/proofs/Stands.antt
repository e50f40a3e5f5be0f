-- Laws of boxes that were met: in a slice, and in a front of it.
use mathlib.Core.Path.{◌≡◌, refl, sym, ap, ◌∙◌}
use mathlib.Core.List.{List}
use mathlib.Core.Bool.{Bool, true, false}
use Prim.Native.Nat.{ℕ, ◌+◌, ◌≤◌}
use native.Mathlib.Omega.{arith}
use lib.ListN.{length, take, length-take}
use lib.Dec.{eqb}
use Rattle.numbers.specs.Numbers.{be4, be8, when}
use Rattle.numbers.proofs.Bounds.{Reads, reads4, reads8, in_take}
use Rattle.rules.specs.Boxes.{head_of, size_of}
use Rattle.rules.proofs.Forest.{FoundBox}
use Rattle.boxes.specs.Stands.{Stands}

-- a slice that is the front of another
module _ (m s : List ℕ) (e : s ≡ take (length s) m) where
  pub front_low : length s ≤ length m
  front_low = omega (arith, ap length e, length-take (length s) m)

  pub in_front : {n : ℕ} {f : List ℕ → ℕ → ℕ} → Reads n f → (i : ℕ) → i + n ≤ length s → f s i ≡ f m i
  in_front {f = f} r i h = ap (λ (t : List ℕ). f t i) e ∙ in_take r (length s) m i h

  -- a box met in it stands so in the other too
  pub stands : {at h z k : ℕ} → FoundBox s at h z k → Stands m (record { at = at; head = h; size = z })
  unfolding head_of size_of
  stands {at} {h} {z} {k} d =
      let short : be4 s at ≡ be4 m at = in_front reads4 at (omega (arith, d)) in
      let by : (t : Bool) → eqb (be4 s at) 1 ≡ t → when (eqb (be4 s at) 1) (be8 m (at + 8)) (be4 m at) ≡ z
      = elim [
        | true ↦ λ y.
            rw y
            (sym (in_front reads8 (at + 8) (omega (arith, d.low, d.holds, d.fits, rw y at d.head))) ∙ rw y at d.size)
        | false ↦ λ y. rw y (sym short ∙ rw y at d.size)
      ] in
      record {
        head = rw (← short) d.head;
        size = ap (λ (n : ℕ). when (eqb n 1) (be8 m (at + 8)) (be4 m at)) (sym short) ∙ by (eqb (be4 s at) 1) refl;
        low = d.low;
        high = d.high;
        holds = d.holds;
        fits = omega (arith, d.fits, front_low);
      }

-- in the slice itself
pub stands_here : {s : List ℕ} {at h z k : ℕ} → FoundBox s at h z k → Stands s (record { at = at; head = h; size = z })
stands_here d =
    record { head = d.head; size = d.size; low = d.low; high = d.high; holds = d.holds; fits = d.fits }
