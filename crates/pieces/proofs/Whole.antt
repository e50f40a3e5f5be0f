-- A header that is there whole, with whatever bytes behind it: what it says, and what the rest of the track comes to by it.
use mathlib.Core.Path.{◌≡◌, refl, ap, ◌∙◌}
use mathlib.Core.Bool.{Bool, true, false}
use mathlib.Core.List.{List, ◌++◌}
use Prim.Native.Nat.{ℕ, ◌+◌, ◌-◌, ◌≤◌}
use native.Mathlib.Omega.{arith}
use lib.ListN.{length, take, length-append, get_or-append}
use lib.Seq.{length-take-le, get_or-take}
use lib.Dec.{ltb, eqb}
use borrow.Author.Tests.{ne_eqb, le-ltb}
use Rattle.numbers.specs.Numbers.{be4, be8, when}
use Rattle.numbers.proofs.Bounds.{Reads, reads4, reads8}
use Rattle.rules.specs.Boxes.{sized, look_at, look, head_of, size_of, kind_of}
use Rattle.rules.specs.declared.Look.TheVariants.{Short}

-- a header is 8 bytes, or 16
pub head_length : (s : List ℕ) (at : ℕ) → (8 ≤ head_of s at) × (head_of s at ≤ 16)
unfolding head_of
head_length s at = by (eqb (be4 s at) 1)
  where
    by : (t : Bool) → (8 ≤ when t 16 8) × (when t 16 8 ≤ 16)
    by true = (omega arith, omega arith)
    by false = (omega arith, omega arith)

-- a reader inside the front of some bytes reads those bytes
pub front_reads : {n : ℕ} {f : List ℕ → ℕ → ℕ} → Reads n f → (s u : List ℕ) (h i : ℕ) → h ≤ length s → i + n ≤ h → f (take h s ++ u) i ≡ f s i
front_reads {n} r s u h i l m =
    r.agree (take h s ++ u) s i i
    (λ k o.
    get_or-append (take h s) u 0 (i + k) (omega (arith, length-take-le h s l)) ∙ get_or-take h s (i + k) 0 (omega arith))

-- bytes that hold the header of the box that they begin with, cut behind it or later, with others behind them
module _ (s u : List ℕ) (h : ℕ) (l : h ≤ length s) (e : head_of s 0 ≤ h) where
  short : be4 (take h s ++ u) 0 ≡ be4 s 0
  short = front_reads reads4 s u h 0 l (omega (arith, (head_length s 0).0))

  pub head_whole : head_of (take h s ++ u) 0 ≡ head_of s 0
  unfolding head_of
  head_whole = ap (λ (n : ℕ). when (eqb n 1) 16 8) short

  pub kind_whole : kind_of (take h s ++ u) 0 ≡ kind_of s 0
  kind_whole = front_reads reads4 s u h 4 l (omega (arith, (head_length s 0).0))

  pub size_whole : size_of (take h s ++ u) 0 ≡ size_of s 0
  unfolding size_of head_of
  size_whole = ap (λ (n : ℕ). when (eqb n 1) (be8 (take h s ++ u) 8) n) short ∙ by (eqb (be4 s 0) 1) refl
    where
      by : (t : Bool) → eqb (be4 s 0) 1 ≡ t → when t (be8 (take h s ++ u) 8) (be4 s 0) ≡ when t (be8 s 8) (be4 s 0)
      by true y = front_reads reads8 s u h 8 l (let w : 16 ≤ h = rw y at e in omega arith)
      by false y = refl

  length_whole : length (take h s ++ u) ≡ h + length u
  length_whole = length-append (take h s) u ∙ ap (λ (n : ℕ). n + length u) (length-take-le h s l)

  -- what stands there is what the header says, by the bytes that there are
  pub look_whole : look (take h s ++ u) 0 ≡ sized (h + length u) (head_of s 0) (size_of s 0) (kind_of s 0)
  unfolding look look_at head_of size_of
  look_whole = rw (left, some, eight, short, kind_whole) (by (eqb (be4 s 0) 1) refl)
    where
      left : length (take h s ++ u) - 0 ≡ h + length u
      left = omega (arith, length_whole)

      some : eqb (h + length u) 0 ≡ false
      some = ne_eqb (h + length u) 0 (λ x. let f : ⊥ = omega (arith, (head_length s 0).0) in f)

      eight : ltb (h + length u) 8 ≡ false
      eight = le-ltb (h + length u) 8 (omega (arith, (head_length s 0).0))

      by : (t : Bool) → eqb (be4 s 0) 1 ≡ t
          → when t (when (ltb (h + length u) 16) Short (sized (h + length u) 16 (be8 (take h s ++ u) 8) (be4 s 4))) (sized (h + length u) 8 (be4 s 0) (be4 s 4))
          ≡ sized (h + length u) (when t 16 8) (when t (be8 s 8) (be4 s 0)) (be4 s 4)
      by true y =
          let w : 16 ≤ h = rw y at e in
          rw (le-ltb (h + length u) 16 (omega arith), front_reads reads8 s u h 8 l (omega arith))
      by false y = refl
