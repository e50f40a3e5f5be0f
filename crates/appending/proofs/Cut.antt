-- A box cut out of a slice is one box by itself; a chunk cut out, with its data box, is under the rules that it was under, moved.
use mathlib.Core.Path.{◌≡◌, refl, sym, ap, ap₂, subst, ◌∙◌}
use mathlib.Core.Bool.{Bool, true, false}
use mathlib.Core.List.{List, [], ◌∷◌, ◌++◌, map}
use Prim.Native.Nat.{ℕ, ◌+◌, ◌-◌, ◌≤◌}
use native.Mathlib.Omega.{arith}
use lib.ListN.{length, drop, length-drop}
use lib.Seq.{length-take-le, take-length}
use lib.Dec.{eqb}
use Rattle.numbers.specs.Numbers.{be4, be8, when}
use Rattle.numbers.proofs.Bounds.{Reads, reads4, reads8, in_drop, in_take}
use Rattle.rules.specs.Rules.{moved}
use Rattle.rules.specs.Boxes.{Box, part, look, boxes, head_of, size_of, whole}
use Rattle.rules.specs.Chunk.{shape, timing, start_of, end_of}
use Rattle.rules.specs.Track.{mdat_at, shape_at, timing_at, start_at, end_at}
use Rattle.rules.specs.declared.Look.TheVariants.{Nothing}
use Rattle.rules.specs.declared.Path.TheVariants.{Top}
use Rattle.std.specs.Prelude.{Option}
use Rattle.rules.specs.declared.Header.{Header}
use Rattle.rules.proofs.Then.{moved_by_0}
use Rattle.rules.proofs.Forest.{FoundBox, look_nothing, forest_box, forest_nothing, boxes_box, boxes_nothing}
use Rattle.appending.proofs.Front.{found_look, whole_front, head_behind, size_behind}
use Rattle.appending.proofs.Append.{box_on, Closed, EndsOnBox, boxes_append, ends_append}
use Rattle.appending.proofs.AppendTrack.{ChunkAt}

-- a slice that is one box: its boxes are that box, it ends on it, and the box's bytes are the slice
module _ (b : List ℕ) (h k : ℕ) (d : FoundBox b 0 h (length b) k) where
  nothing_behind : look b (0 + length b) ≡ Nothing
  nothing_behind = look_nothing b (0 + length b) (omega arith)

  pub one_box : boxes b 0 ≡ record { at = 0; inner = h; size = length b; kind = k } ∷ []
  one_box =
      boxes_box b 0 h (length b) k (found_look b 0 h (length b) k d)
      ∙ ap (λ (xs : List Box). record { at = 0; inner = h; size = length b; kind = k } ∷ xs) (boxes_nothing b (0 + length b) nothing_behind)

  pub one_ends : EndsOnBox b
  one_ends =
      subst Closed (sym (forest_box Top b 0 h (length b) k (found_look b 0 h (length b) k d)))
      (subst Closed (sym (forest_nothing Top b (0 + length b) nothing_behind)) tt)

  pub one_whole : whole b 0 ≡ b
  unfolding whole
  one_whole = ap (λ (n : ℕ). part b 0 n) d.size ∙ take-length b

-- a box of a slice, cut out
module _ (s : List ℕ) (at h z k : ℕ) (d : FoundBox s at h z k) where
  pub length_cut : length (whole s at) ≡ z
  unfolding whole
  length_cut =
      ap (λ (n : ℕ). length (part s at n)) d.size ∙ length-take-le z (drop at s) (omega (arith, d.fits, length-drop at s))

  -- a reader inside the box reads the slice
  pub read_cut : {n : ℕ} {f : List ℕ → ℕ → ℕ} → Reads n f → (i : ℕ) → i + n ≤ z → f (whole s at) i ≡ f s (at + i)
  unfolding whole
  read_cut {f = f} r i l = ap (λ (n : ℕ). f (part s at n) i) d.size ∙ in_take r z (drop at s) i l ∙ in_drop r at s i

  -- it is that box by itself
  pub found_cut : FoundBox (whole s at) 0 h z k
  unfolding head_of size_of
  found_cut =
      record {
        head = ap (λ (n : ℕ). when (eqb n 1) 16 8) short ∙ d.head;
        size = ap (λ (n : ℕ). when (eqb n 1) (be8 (whole s at) 8) n) short ∙ by (eqb (be4 s at) 1) refl;
        kind = read_cut reads4 4 (omega (arith, d.low, d.holds)) ∙ d.kind;
        low = d.low;
        high = d.high;
        holds = d.holds;
        fits = omega (arith, length_cut);
        inner = omega (arith, length_cut, d.low, d.holds);
      }
    where
      here : at + 0 ≡ at
      here = omega arith

      short : be4 (whole s at) 0 ≡ be4 s at
      short = read_cut reads4 0 (omega (arith, d.low, d.holds)) ∙ ap (be4 s) here

      by : (t : Bool) → eqb (be4 s at) 1 ≡ t → when (eqb (be4 s at) 1) (be8 (whole s at) 8) (be4 s at) ≡ z
      by true y =
          let e : 16 ≡ h = rw y at d.head in
          rw y (read_cut reads8 8 (omega (arith, e, d.holds)) ∙ rw y at d.size)
      by false y = rw y (rw y at d.size)

  pub found_alone : FoundBox (whole s at) 0 h (length (whole s at)) k
  found_alone = rw length_cut found_cut

  pub head_cut : head_of (whole s at) 0 ≡ head_of s at
  head_cut = found_cut.head ∙ sym d.head

  pub size_cut : size_of (whole s at) 0 ≡ size_of s at
  size_cut = found_cut.size ∙ sym d.size

-- a chunk cut out with its data box
unfoldable pub chunk_cut : List ℕ → ℕ → List ℕ
chunk_cut s x = whole s x ++ whole s (mdat_at s x)

module _ (s : List ℕ) (x : ℕ) (f : ChunkAt s x) where
  -- its two boxes
  moof_is : FoundBox (whole s x) 0 f.0.0 (length (whole s x)) f.0.2
  moof_is = let d = f.0 in found_alone s x d.0 d.1 d.2 d.3

  mdat_is : FoundBox (whole s (mdat_at s x)) 0 f.1.0 (length (whole s (mdat_at s x))) f.1.2
  mdat_is = let d = f.1 in found_alone s (mdat_at s x) d.0 d.1 d.2 d.3

  -- it ends on a box, and its boxes are those two, one behind the other
  pub cut_ends : EndsOnBox (chunk_cut s x)
  unfolding chunk_cut
  cut_ends =
      ends_append (whole s x) (whole s (mdat_at s x)) (one_ends (whole s x) f.0.0 f.0.2 moof_is)
      (one_ends (whole s (mdat_at s x)) f.1.0 f.1.2 mdat_is)

  pub cut_boxes : boxes (chunk_cut s x) 0
      ≡ record { at = 0; inner = f.0.0; size = length (whole s x); kind = f.0.2 }
      ∷ box_on (length (whole s x)) (record { at = 0; inner = f.1.0; size = length (whole s (mdat_at s x)); kind = f.1.2 })
      ∷ []
  unfolding chunk_cut
  cut_boxes =
      let m = whole s x in
      let p = whole s (mdat_at s x) in
      boxes_append m p (one_ends m f.0.0 f.0.2 moof_is)
      ∙ ap₂ {C = List Box} (λ (u v : List Box). u ++ map (box_on (length m)) v) (one_box m f.0.0 f.0.2 moof_is)
      (one_box p f.1.0 f.1.2 mdat_is)

  -- its bytes, and where its data box stands
  bytes_cut : whole (chunk_cut s x) 0 ≡ whole s x
  unfolding chunk_cut
  bytes_cut =
      whole_front (whole s x) (whole s (mdat_at s x)) 0 f.0.0 (length (whole s x)) f.0.2 moof_is
      ∙ one_whole (whole s x) f.0.0 f.0.2 moof_is

  mdat_at_cut : mdat_at (chunk_cut s x) 0 ≡ length (whole s x) + 0
  unfolding mdat_at
  mdat_at_cut = let e : length (whole (chunk_cut s x) 0) ≡ length (whole s x) = ap length bytes_cut in omega (arith, e)

  mdat_head_cut : head_of (chunk_cut s x) (length (whole s x) + 0) ≡ head_of s (mdat_at s x)
  unfolding chunk_cut
  mdat_head_cut =
      let d = f.1 in head_behind (whole s x) (whole s (mdat_at s x)) 0 ∙ head_cut s (mdat_at s x) d.0 d.1 d.2 d.3

  mdat_size_cut : size_of (chunk_cut s x) (length (whole s x) + 0) ≡ size_of s (mdat_at s x)
  unfolding chunk_cut
  mdat_size_cut =
      let d = f.1 in size_behind (whole s x) (whole s (mdat_at s x)) 0 ∙ size_cut s (mdat_at s x) d.0 d.1 d.2 d.3

  -- its start, its end and its rules
  pub start_cut : start_at (chunk_cut s x) 0 ≡ start_at s x
  unfolding start_at
  start_cut = ap start_of bytes_cut

  pub end_cut : (h : Header) → end_at (chunk_cut s x) h 0 ≡ end_at s h x
  unfolding end_at
  end_cut h = ap (λ (m : List ℕ). end_of m h.defaults) bytes_cut

  pub shape_cut : (h : Header) → shape_at s h x ≡ moved x (shape_at (chunk_cut s x) h 0)
  unfolding shape_at
  shape_cut h =
      ap (moved x) (sym (moved_by_0 (shape (whole (chunk_cut s x) 0) h.id) ∙ ap (λ (m : List ℕ). shape m h.id) bytes_cut))

  pub timing_cut : (h : Header) (prev : Option ℕ) → timing_at s h prev x ≡ moved x (timing_at (chunk_cut s x) h prev 0)
  unfolding timing_at
  timing_cut h prev =
      let m = mdat_at s x in
      rw (bytes_cut, mdat_at_cut, mdat_head_cut, mdat_size_cut)
      (ap (moved x) (sym (moved_by_0 (timing (whole s x) h.defaults (head_of s m) (size_of s m - head_of s m) prev))))
