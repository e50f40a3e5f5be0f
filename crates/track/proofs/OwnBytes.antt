-- A box of a slice by its own bytes: the part of the slice from its place to its end.
use mathlib.Core.Path.{◌≡◌, refl, sym, ap, ◌∙◌}
use mathlib.Core.List.{List}
use mathlib.Core.Bool.{Bool, true, false}
use Prim.Native.Nat.{ℕ, ◌+◌, ◌-◌, ◌≤◌}
use native.Mathlib.Nat.{add-zero}
use native.Mathlib.Omega.{arith}
use lib.ListN.{length, take, drop, length-take, length-drop}
use lib.Dec.{eqb}
use Rattle.numbers.specs.Numbers.{be4, be8, when}
use Rattle.numbers.proofs.Bounds.{Reads, reads4, reads8, in_take, in_drop}
use Rattle.rules.specs.Limits.{byte_limit}
use Rattle.rules.specs.Boxes.{head_of, size_of, whole}
use Rattle.boxes.specs.Stands.{Stands, WholeBox}
use Rattle.rules.specs.declared.Spot.{Spot}
use Rattle.track.specs.Course.{OwnHeld}

module _ (s : List ℕ) (b : Spot) (d : Stands s b) (e : ℕ) (q : b.at + b.size ≡ e) where
  -- they are the box's bytes
  pub own_bytes : take (e - b.at) (drop b.at s) ≡ whole s b.at
  unfolding whole
  own_bytes = let n : e - b.at ≡ size_of s b.at = omega (arith, d.size) in ap (λ (n : ℕ). take n (drop b.at s)) n

  -- as many as the box's size
  pub own_length : length (take (e - b.at) (drop b.at s)) ≡ b.size
  own_length = simp (length-take, length-drop) (omega (arith, d.fits))

  own_read : {n : ℕ} {f : List ℕ → ℕ → ℕ} → Reads n f → (i : ℕ) → i + n ≤ b.size → f (take (e - b.at) (drop b.at s)) i ≡ f s (b.at + i)
  own_read r i h = in_take r (e - b.at) (drop b.at s) i (omega arith) ∙ in_drop r b.at s i

  -- and are one box with the same header
  pub own_whole : WholeBox (take (e - b.at) (drop b.at s)) b.head
  unfolding head_of size_of
  own_whole =
      let m = take (e - b.at) (drop b.at s) in
      let short : be4 m 0 ≡ be4 s b.at = own_read reads4 0 (omega (arith, d.low, d.holds)) ∙ ap (be4 s) (add-zero b.at) in
      let by : (t : Bool) → eqb (be4 s b.at) 1 ≡ t → when (eqb (be4 s b.at) 1) (be8 m 8) (be4 m 0) ≡ b.size
      = elim [
        | true ↦ λ y. rw y (own_read reads8 8 (omega (arith, d.holds, rw y at d.head)) ∙ rw y at d.size)
        | false ↦ λ y. rw y (short ∙ rw y at d.size)
      ] in
      record {
        head = rw short d.head;
        size = ap (λ (n : ℕ). when (eqb n 1) (be8 m 8) (be4 m 0)) short ∙ by (eqb (be4 s b.at) 1) refl ∙ sym own_length;
        low = d.low;
        high = d.high;
        holds = omega (arith, own_length, d.holds);
        fits = omega arith;
      }

  -- so it is held
  pub own_held : length s ≤ byte_limit → (k : ℕ) → OwnHeld (take (e - b.at) (drop b.at s)) b k
  own_held h k =
      record {
        place = omega (arith, d.fits);
        low = d.low;
        high = d.high;
        holds = d.holds;
        small = omega (arith, own_length, d.fits);
        of_ftyp_lem = λ _. own_whole;
        of_moov = λ _. own_whole;
      }
