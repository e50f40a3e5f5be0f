-- What the rest of a track comes to, as soon as the header of its first box is there whole: refused, gathered, or passed by.
use mathlib.Core.Path.{◌≡◌, refl, sym, ap, ap₂, ◌∙◌}
use mathlib.Core.Bool.{Bool, true, false, true≢false}
use mathlib.Core.List.{List, [], ◌++◌}
use Prim.Native.Nat.{ℕ, ◌+◌, ◌-◌, ◌≤◌, ◌<◌}
use native.Mathlib.Omega.{arith}
use lib.ListN.{length, take, drop, length-append}
use lib.Seq.{length-take-le, drop-append-add}
use lib.Dec.{ltb, eqb}
use borrow.Author.Tests.{le-ltb, lt-ltb, le-leb, lt-leb, ltb-true, ltb-false}
use Rattle.numbers.specs.Numbers.{when}
use Rattle.rules.specs.Kinds.{mdat}
use Rattle.rules.specs.Limits.{box_limit}
use Rattle.rules.specs.Boxes.{Box, sized, look, head_of, size_of, kind_of}
use Rattle.rules.specs.Framing.{on_framing, rule5, framing}
use Rattle.rules.specs.Course.{and_box}
use Rattle.rules.specs.Pieces.{gathered, large}
use Rattle.rules.specs.Rules.{Course, Framing, Judged, breaks}
use Rattle.std.specs.Prelude.{Ok, Err}
use Rattle.rules.specs.declared.Look.{Look}
use Rattle.rules.specs.declared.Look.TheVariants.{Nothing, Short, Small, Beyond, Good}
use Rattle.rules.proofs.Forest.{look_found, nothing_left}
use Rattle.pieces.specs.Rest.{box_framing, waits_after, rest}
use Rattle.pieces.specs.State.{halved, kept_moof}
use Rattle.pieces.proofs.Unfolding.{after_box, rest_step, rest_by_lem}
use Rattle.pieces.proofs.Whole.{head_length, kind_whole, size_whole, look_whole}
use Rattle.pieces.proofs.Courses.{ungathered, leaf_on_top, never_large, own_unread, none_waits, none_after, none_kept, breaks_order}

-- a box that is no container, before the limits: one box more
pub framed_leaf : (b : List ℕ) (at n h z k : ℕ) → n < box_limit → gathered k ≡ false → box_framing b at n h z k ≡ Ok (n + 1)
unfolding box_framing rule5 framing
framed_leaf b at n h z k l g = rw (lt-leb box_limit n l, never_large k z g, leaf_on_top k (ungathered k g))

-- a header of s that is there whole, with the bytes u behind it
module _ (s u w : List ℕ) (c : Course) (at n : ℕ) (l : head_of s 0 ≤ length s) where
  abbrev h : ℕ
  h = head_of s 0

  abbrev z : ℕ
  z = size_of s 0

  abbrev k : ℕ
  k = kind_of s 0

  abbrev b : List ℕ
  b = take (head_of s 0) s ++ u

  same_large : large (kind_of b 0) (size_of b 0) ≡ large k z
  same_large = ap₂ large (kind_whole s u h l (omega arith)) (size_whole s u h l (omega arith))

  stood : rest w c at n b ≡ rest_step w c at n b (sized (h + length u) h z k)
  stood = rest_by_lem w c at n b (sized (h + length u) h z k) (look_whole s u h l (omega arith))

  -- by whether the size is too small, and whether the box ends beyond the bytes that there are
  by_size : (r : Judged)
      → ((t y : Bool) → ltb z h ≡ t → ltb (h + length u) z ≡ y → rest_step w c at n b (when t Small (when y Beyond (Good h z k))) ≡ r)
      → rest w c at n b ≡ r
  unfolding sized
  by_size r f = stood ∙ f (ltb z h) (ltb (h + length u) z) refl refl

  -- 5 comes before all
  pub decided_5 : box_limit ≤ n → rest w c at n b ≡ breaks 5 0 at
  unfolding box_framing rule5
  decided_5 m = by_size (breaks 5 0 at) by
    where
      by : (t y : Bool) → ltb z h ≡ t → ltb (h + length u) z ≡ y → rest_step w c at n b (when t Small (when y Beyond (Good h z k))) ≡ breaks 5 0 at
      by true y p q = rw (le-leb box_limit n m)
      by false true p q = rw (le-leb box_limit n m)
      by false false p q = rw (le-leb box_limit n m)

  module _ (m : n < box_limit) where
    -- 3, where the size is below the header's
    pub decided_3 : z < h → rest w c at n b ≡ breaks 3 0 at
    decided_3 y = by_size (breaks 3 0 at) by
      where
        by : (t y : Bool) → ltb z h ≡ t → ltb (h + length u) z ≡ y → rest_step w c at n b (when t Small (when y Beyond (Good h z k))) ≡ breaks 3 0 at
        by true y p q = rw (lt-leb box_limit n m)
        by false t p q = absurd (true≢false (sym (lt-ltb z h y) ∙ p))

    -- 29, before 4
    pub decided_29 : h ≤ z → large k z ≡ true → rest w c at n b ≡ breaks 29 0 at
    unfolding box_framing rule5
    decided_29 o g = by_size (breaks 29 0 at) by
      where
        by : (t y : Bool) → ltb z h ≡ t → ltb (h + length u) z ≡ y → rest_step w c at n b (when t Small (when y Beyond (Good h z k))) ≡ breaks 29 0 at
        by true y p q = absurd (true≢false (sym p ∙ le-ltb z h o))
        by false true p q = rw (lt-leb box_limit n m, same_large ∙ g)
        by false false p q = rw (lt-leb box_limit n m, g)

    -- a box that is not gathered passes by, and is taken into the course at once
    pub decided_pass : h ≤ z → gathered k ≡ false → (kept : List ℕ)
        → rest w c at n b
        ≡ when (ltb (length u) (z - h)) (breaks 4 0 at)
        (let d = and_box [] w c (record { at = at; inner = h; size = z; kind = k }) in rest (kept_moof d kept) d (at + z) (n + 1) (drop (z - h) u))
    decided_pass o g kept = by_size _ by
      where
        x : Box
        x = record { at = at; inner = h; size = z; kind = k }

        d : Course
        d = and_box [] w c x

        none : halved d ≡ false
        none = none_waits [] w c x (ungathered k g).no_moof

        after : drop z b ≡ drop (z - h) u
        after =
            let e : length (take h s) ≡ h = length-take-le h s l in
            let f : z ≡ length (take h s) + (z - h) = omega (arith, e) in
            ap (λ (i : ℕ). drop i b) f ∙ drop-append-add (take h s) u (z - h)

        by : (t y : Bool) → ltb z h ≡ t → ltb (h + length u) z ≡ y
            → rest_step w c at n b (when t Small (when y Beyond (Good h z k)))
            ≡ when (ltb (length u) (z - h)) (breaks 4 0 at) (rest (kept_moof d kept) d (at + z) (n + 1) (drop (z - h) u))
        by true y p q = absurd (true≢false (sym p ∙ le-ltb z h o))
        by false true p q =
            rw (lt-leb box_limit n m, same_large ∙ never_large k z g, lt-ltb (length u) (z - h) (omega (arith, ltb-true (h + length u) z q)))
        by false false p q =
            rw (le-ltb (length u) (z - h) (omega (arith, ltb-false (h + length u) z q)))
            (ap (λ (r : Framing). on_framing r (after_box rest w c at b h z k) (λ i p. breaks i 0 p)) (framed_leaf b at n h z k m g)
            ∙ ap (λ (e : Course). rest (waits_after e (take z b)) e (at + z) (n + 1) (drop z b)) (own_unread (take z b) w c x (ungathered k g))
            ∙ ap₂ (λ (v y : List ℕ). rest v d (at + z) (n + 1) y) (none_after d (take z b) none ∙ sym (none_kept d kept none)) after)

  -- where a `moof` waits, a box that is no `mdat` breaks the order, whatever else comes of it
  pub decided_order : halved c ≡ true → eqb k mdat ≡ false → rest w c at n b ≡ rest [] (Err at) at n b
  unfolding and_box
  decided_order y e =
      stood ∙ by (sized (h + length u) h z k) (look_whole s u h l (omega arith)) ∙ sym (rest_by_lem [] (Err at) at n b _ (look_whole s u h l (omega arith)))
    where
      by : (o : Look) → look b 0 ≡ o → rest_step w c at n b o ≡ rest_step [] (Err at) at n b o
      by Nothing q =
          let f : ⊥ = omega (arith, nothing_left b 0 q, length-append (take h s) u, length-take-le h s l, (head_length s 0).0) in absurd f
      by Short q = refl
      by Small q = refl
      by Beyond q = refl
      by (Good i j v) q =
          let f : v ≡ k = sym (look_found b 0 i j v q).kind ∙ kind_whole s u h l (omega arith) in
          let g : and_box (take j b) w c (record { at = at; inner = i; size = j; kind = v }) ≡ Err at =
          breaks_order (take j b) w c (record { at = at; inner = i; size = j; kind = v }) y (ap (λ (a : ℕ). eqb a mdat) f ∙ e) in
          after_same (box_framing b at n i j v) (λ m. ap (λ (a : Course). rest (waits_after a (take j b)) a (at + j) m (drop j b)) g)
        where
          after_same : {f g : ℕ → Judged} (r : Framing) → ((m : ℕ) → f m ≡ g m) → on_framing r f (λ i p. breaks i 0 p) ≡ on_framing r g (λ i p. breaks i 0 p)
          after_same (Ok m) p = p m
          after_same (Err e) q = refl
