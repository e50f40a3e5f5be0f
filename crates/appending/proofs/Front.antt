-- A slice joined of a front and a rest: what is framed in the front is so in the whole, and what stands behind the front is what stands in the rest.
use mathlib.Core.Path.{◌≡◌, refl, sym, ap, ◌∙◌}
use mathlib.Core.Bool.{Bool, true, false}
use mathlib.Core.List.{List, ◌++◌}
use Prim.Native.Nat.{ℕ, ◌+◌, ◌-◌, ◌≤◌}
use native.Mathlib.Omega.{arith}
use lib.ListN.{length, take, drop, length-append, length-drop, get_or-append}
use lib.Seq.{take-append-le, drop-append-le, drop-append-add, get_or-append-add}
use lib.Dec.{ltb, eqb}
use borrow.Author.Tests.{ne_eqb, le-ltb}
use Rattle.numbers.specs.Numbers.{byte, be4, be8, when}
use Rattle.numbers.proofs.Bounds.{Reads, reads4, reads8}
use Rattle.rules.specs.Boxes.{part, sized, look_at, look, head_of, size_of, whole}
use Rattle.rules.specs.declared.Look.TheVariants.{Good}
use Rattle.rules.proofs.Forest.{FoundBox, look_found}

-- a header of h bytes and size z that is neither too small nor beyond its parent
sized_is : (left h z k : ℕ) → h ≤ z → z ≤ left → sized left h z k ≡ Good h z k
unfolding sized
sized_is left h z k l u = rw (le-ltb z h l, le-ltb left z u)

-- what a framed header tells is what stands there
pub found_look : (s : List ℕ) (at h z k : ℕ) → FoundBox s at h z k → look s at ≡ Good h z k
unfolding look look_at head_of size_of
found_look s at h z k d = by (eqb (be4 s at) 1) refl
  where
    left : ℕ
    left = length s - at

    some : eqb (length s - at) 0 ≡ false
    some = ne_eqb (length s - at) 0 (λ e. let f : ⊥ = omega (arith, d.inner) in f)

    eight : ltb (length s - at) 8 ≡ false
    eight = le-ltb (length s - at) 8 (omega (arith, d.low, d.holds, d.fits))

    by : (t : Bool) → eqb (be4 s at) 1 ≡ t → look s at ≡ Good h z k
    by true y =
        let e : 16 ≡ h = rw y at d.head in
        let v : be8 s (at + 8) ≡ z = rw y at d.size in
        let w : ltb (length s - at) 16 ≡ false = le-ltb (length s - at) 16 (omega (arith, e, d.holds, d.fits)) in
        rw (some, eight, y, w, v, d.kind, sym e) (sized_is (length s - at) 16 z k (omega (arith, e, d.holds)) (omega (arith, d.fits)))
    by false y =
        let e : 8 ≡ h = rw y at d.head in
        let v : be4 s at ≡ z = rw y at d.size in
        rw (some, eight, y, v, d.kind, sym e) (sized_is (length s - at) 8 z k (omega (arith, e, d.holds)) (omega (arith, d.fits)))

module _ (a b : List ℕ) where
  -- a reader inside the front reads the front, and behind it the rest
  pub in_front : {n : ℕ} {f : List ℕ → ℕ → ℕ} → Reads n f → (i : ℕ) → i + n ≤ length a → f (a ++ b) i ≡ f a i
  in_front r i h = r.agree (a ++ b) a i i (λ k l. get_or-append a b 0 (i + k) (omega arith))

  pub behind : {n : ℕ} {f : List ℕ → ℕ → ℕ} → Reads n f → (i : ℕ) → f (a ++ b) (length a + i) ≡ f b i
  behind r i =
      r.agree (a ++ b) b (length a + i) i
      (λ k l. ap (byte (a ++ b)) (omega arith) ∙ get_or-append-add a b (i + k) 0)

  -- bytes inside the front, and behind it
  pub part_front : (p n : ℕ) → p + n ≤ length a → part (a ++ b) p n ≡ part a p n
  part_front p n h =
      ap (take n) (drop-append-le p a b (omega arith)) ∙ take-append-le n (drop p a) b (omega (arith, length-drop p a))

  pub part_behind : (p n : ℕ) → part (a ++ b) (length a + p) n ≡ part b p n
  part_behind p n = ap (take n) (drop-append-add a b p)

  -- a box framed in the front
  module _ (at h z k : ℕ) (d : FoundBox a at h z k) where
    pub found_front : FoundBox (a ++ b) at h z k
    unfolding head_of size_of
    found_front =
        record {
          head = ap (λ (n : ℕ). when (eqb n 1) 16 8) short ∙ d.head;
          size = ap (λ (n : ℕ). when (eqb n 1) (be8 (a ++ b) (at + 8)) n) short ∙ by (eqb (be4 a at) 1) refl;
          kind = in_front reads4 (at + 4) (omega (arith, d.low, d.holds, d.fits)) ∙ d.kind;
          low = d.low;
          high = d.high;
          holds = d.holds;
          fits = omega (arith, d.fits, length-append a b);
          inner = omega (arith, d.inner, length-append a b);
        }
      where
        short : be4 (a ++ b) at ≡ be4 a at
        short = in_front reads4 at (omega (arith, d.low, d.holds, d.fits))

        by : (t : Bool) → eqb (be4 a at) 1 ≡ t → when (eqb (be4 a at) 1) (be8 (a ++ b) (at + 8)) (be4 a at) ≡ z
        by true y =
            let e : 16 ≡ h = rw y at d.head in
            rw y (in_front reads8 (at + 8) (omega (arith, e, d.holds, d.fits)) ∙ rw y at d.size)
        by false y = rw y (rw y at d.size)

    pub look_front : look (a ++ b) at ≡ Good h z k
    look_front = found_look (a ++ b) at h z k found_front

    pub head_front : head_of (a ++ b) at ≡ head_of a at
    head_front = found_front.head ∙ sym d.head

    pub size_front : size_of (a ++ b) at ≡ size_of a at
    size_front = found_front.size ∙ sym d.size

    pub whole_front : whole (a ++ b) at ≡ whole a at
    unfolding whole
    whole_front =
        ap (λ (n : ℕ). part (a ++ b) at n) size_front ∙ part_front at (size_of a at) (omega (arith, d.size, d.fits))

  -- what stands behind the front
  pub head_behind : (p : ℕ) → head_of (a ++ b) (length a + p) ≡ head_of b p
  unfolding head_of
  head_behind p = ap (λ (n : ℕ). when (eqb n 1) 16 8) (behind reads4 p)

  pub size_behind : (p : ℕ) → size_of (a ++ b) (length a + p) ≡ size_of b p
  unfolding size_of
  size_behind p =
      let long : be8 (a ++ b) (length a + p + 8) ≡ be8 b (p + 8) = ap (be8 (a ++ b)) (omega arith) ∙ behind reads8 (p + 8) in
      rw (behind reads4 p, long)

  pub whole_behind : (p : ℕ) → whole (a ++ b) (length a + p) ≡ whole b p
  unfolding whole
  whole_behind p = ap (λ (n : ℕ). part (a ++ b) (length a + p) n) (size_behind p) ∙ part_behind p (size_of b p)

  pub look_behind : (p : ℕ) → look (a ++ b) (length a + p) ≡ look b p
  unfolding look look_at
  look_behind p =
      let left : length (a ++ b) - (length a + p) ≡ length b - p = omega (arith, length-append a b) in
      let size : be4 (a ++ b) (length a + p) ≡ be4 b p = behind reads4 p in
      let kind : be4 (a ++ b) (length a + p + 4) ≡ be4 b (p + 4) = ap (be4 (a ++ b)) (omega arith) ∙ behind reads4 (p + 4) in
      let long : be8 (a ++ b) (length a + p + 8) ≡ be8 b (p + 8) = ap (be8 (a ++ b)) (omega arith) ∙ behind reads8 (p + 8) in
      rw (left, size, kind, long)

  pub found_behind : (at h z k : ℕ) → FoundBox b at h z k → FoundBox (a ++ b) (length a + at) h z k
  found_behind at h z k d = look_found (a ++ b) (length a + at) h z k (look_behind at ∙ found_look b at h z k d)
