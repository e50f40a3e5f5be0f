-- The chunks of an appended slice: those of the front keep their rules, those of the rest are under theirs, moved, from the front's last end on.
use mathlib.Core.Path.{◌≡◌, refl, sym, ap, ap₂, subst, ◌∙◌}
use mathlib.Core.Bool.{Bool, true, false}
use mathlib.Core.List.{List, [], ◌∷◌, ◌++◌, map}
use Prim.Native.Nat.{ℕ, ◌+◌, ◌-◌}
use native.Mathlib.Omega.{arith}
use lib.ListN.{length}
use lib.Dec.{eqb}
use Rattle.numbers.specs.Numbers.{when}
use Rattle.rules.specs.Kinds.{moof}
use Rattle.rules.specs.Rules.{◌then◌, moved, Rule}
use Rattle.rules.specs.Boxes.{Box, boxes, places_of, head_of, size_of, whole}
use Rattle.rules.specs.Order.{step6, on_stepped}
use Rattle.rules.specs.Chunk.{shape, timing, start_of, end_of, sync_in}
use Rattle.rules.specs.Track.{chunks_from, chunks, mdat_at, shape_at, timing_at, start_at, end_at, sync_at, last_end, rules_of_chunks}
use Rattle.rules.specs.Plans.{All}
use Rattle.std.specs.Prelude.{Option, None, Some}
use Rattle.rules.specs.declared.Stage.{Stage}
use Rattle.rules.specs.declared.Stage.TheVariants.{Start, Typed, Headed, Halved, Paired}
use Rattle.rules.specs.declared.Header.{Header}
use Rattle.rules.proofs.Then.{then_assoc, moved_then, moved_moved}
use Rattle.rules.proofs.Forest.{FoundBox}
use Rattle.rules.proofs.Walk.{Siblings, boxes_siblings, after_moof, mdat_next}
use Rattle.appending.proofs.Front.{whole_front, head_front, size_front, whole_behind, head_behind, size_behind}
use Rattle.appending.proofs.Append.{EndsOnBox}
use Rattle.appending.proofs.AppendOrder.{stage_from, stage_led, LeadsOn, chunks_append}
use Rattle.appending.proofs.AppendHeader.{BoxAt}

-- the chunk at a place is in the slice, and so is its data box
abbrev pub ChunkAt : List ℕ → ℕ → Type 0
ChunkAt s x = BoxAt s x × BoxAt s (mdat_at s x)

-- a stage at which no `mdat` is awaited
abbrev pub Settled : Stage → Type 0
Settled Start = Unit {0}
Settled Typed = Unit {0}
Settled Headed = Unit {0}
Settled Halved = ⊥
Settled Paired = Unit {0}

abbrev Rests : Option Stage → Type 0
Rests (Some g) = Settled g
Rests None = ⊥

-- boxes that lead to such a stage hold every chunk with its data box
in_full : (s : List ℕ) (at : ℕ) (g h : Stage) (xs : List Box) → Siblings s at xs → stage_from g xs ≡ Some h → Settled h
    → All (ChunkAt s) (places_of moof xs)
unfolding stage_from places_of
in_full s at g h [] y e r = tt
in_full s at g h (x ∷ xs) y e r =
    go (step6 g x.kind) refl e (eqb x.kind moof) refl (λ k q. in_full s (at + x.size) k h xs y.2 q r)
  where
    d : FoundBox s at x.inner x.size x.kind
    d = y.1

    next : (zs : List Box) → Siblings s (at + x.size) zs → stage_from Halved zs ≡ Some h → BoxAt s (at + x.size)
    next [] w q = absurd (subst Rests (sym q) r)
    next (z ∷ zs) w q = (z.inner, z.size, z.kind, w.1)

    here : stage_from Halved xs ≡ Some h → ChunkAt s x.at
    here q =
        let m : mdat_at s x.at ≡ at + x.size = rw y.0 (mdat_next s d) in
        ((x.inner, x.size, x.kind, rw y.0 d), rw m (next xs y.2 q))

    go : (p : Option Stage) → step6 g x.kind ≡ p → on_stepped p (λ k. stage_from k xs) None ≡ Some h → (t : Bool) → eqb x.kind moof ≡ t
        → ((k : Stage) → stage_from k xs ≡ Some h → All (ChunkAt s) (places_of moof xs))
        → All (ChunkAt s) (when t (x.at ∷ places_of moof xs) (places_of moof xs))
    go None u q t n f = absurd (subst LeadsOn (sym q) tt)
    go (Some k) u q false n f = f k q
    go (Some k) u q true n f = (here (rw (after_moof g x.kind k n u) q), f k q)

pub chunks_in_full : (s : List ℕ) (h : Stage) → stage_led s ≡ Some h → Settled h → All (ChunkAt s) (chunks s)
unfolding chunks_from
chunks_in_full s h e r = in_full s 0 Start h (boxes s 0) (boxes_siblings s 0) e r

-- the rules of chunks and others behind them
pub rules_joined : (s : List ℕ) (h : Header) (prev : Option ℕ) (xs ys : List ℕ)
    → rules_of_chunks s h prev (xs ++ ys) ≡ (rules_of_chunks s h prev xs then rules_of_chunks s h (last_end s h prev xs) ys)
unfolding rules_of_chunks last_end ◌then◌
rules_joined s h prev [] ys = refl
rules_joined s h prev (x ∷ xs) ys =
    let rest = rules_of_chunks s h (Some (end_at s h x)) xs in
    let more = rules_of_chunks s h (last_end s h (Some (end_at s h x)) xs) ys in
    ap (λ (r : Rule). shape_at s h x then timing_at s h prev x then r) (rules_joined s h (Some (end_at s h x)) xs ys)
    ∙ ap (λ (r : Rule). shape_at s h x then r) (sym (then_assoc (timing_at s h prev x) rest more))
    ∙ sym (then_assoc (shape_at s h x) (timing_at s h prev x then rest) more)

module _ (a b : List ℕ) where
  -- a chunk of the front
  module _ (x : ℕ) (f : ChunkAt a x) where
    bytes : whole (a ++ b) x ≡ whole a x
    bytes = let d = f.0 in whole_front a b x d.0 d.1 d.2 d.3

    pub start_front : start_at (a ++ b) x ≡ start_at a x
    unfolding start_at
    start_front = ap start_of bytes

    pub end_front : (h : Header) → end_at (a ++ b) h x ≡ end_at a h x
    unfolding end_at
    end_front h = ap (λ (m : List ℕ). end_of m h.defaults) bytes

    pub sync_front : (h : Header) → sync_at (a ++ b) h x ≡ sync_at a h x
    unfolding sync_at
    sync_front h = ap (λ (m : List ℕ). sync_in m h.defaults) bytes

    pub shape_front : (h : Header) → shape_at (a ++ b) h x ≡ shape_at a h x
    unfolding shape_at
    shape_front h = ap (λ (m : List ℕ). moved x (shape m h.id)) bytes

    mdat_front : mdat_at (a ++ b) x ≡ mdat_at a x
    unfolding mdat_at
    mdat_front = ap (λ (m : List ℕ). x + length m) bytes

    pub timing_front : (h : Header) (prev : Option ℕ) → timing_at (a ++ b) h prev x ≡ timing_at a h prev x
    unfolding timing_at
    timing_front h prev =
        let d = f.1 in
        let head : head_of (a ++ b) (mdat_at a x) ≡ head_of a (mdat_at a x) = head_front a b (mdat_at a x) d.0 d.1 d.2 d.3 in
        let size : size_of (a ++ b) (mdat_at a x) ≡ size_of a (mdat_at a x) = size_front a b (mdat_at a x) d.0 d.1 d.2 d.3 in
        rw (bytes, mdat_front, head, size)

  -- the chunks of the front
  pub rules_front : (h : Header) (prev : Option ℕ) (xs : List ℕ) → All (ChunkAt a) xs
      → rules_of_chunks (a ++ b) h prev xs ≡ rules_of_chunks a h prev xs
  unfolding rules_of_chunks
  rules_front h prev [] f = refl
  rules_front h prev (x ∷ xs) f =
      rw (shape_front x f.0 h, timing_front x f.0 h prev, end_front x f.0 h, rules_front h (Some (end_at a h x)) xs f.1)

  pub ends_front : (h : Header) (prev : Option ℕ) (xs : List ℕ) → All (ChunkAt a) xs → last_end (a ++ b) h prev xs ≡ last_end a h prev xs
  unfolding last_end
  ends_front h prev [] f = refl
  ends_front h prev (x ∷ xs) f = rw (end_front x f.0 h, ends_front h (Some (end_at a h x)) xs f.1)

  -- a chunk of the rest
  pub start_behind : (x : ℕ) → start_at (a ++ b) (length a + x) ≡ start_at b x
  unfolding start_at
  start_behind x = ap start_of (whole_behind a b x)

  pub end_behind : (h : Header) (x : ℕ) → end_at (a ++ b) h (length a + x) ≡ end_at b h x
  unfolding end_at
  end_behind h x = ap (λ (m : List ℕ). end_of m h.defaults) (whole_behind a b x)

  pub sync_behind : (h : Header) (x : ℕ) → sync_at (a ++ b) h (length a + x) ≡ sync_at b h x
  unfolding sync_at
  sync_behind h x = ap (λ (m : List ℕ). sync_in m h.defaults) (whole_behind a b x)

  pub shape_behind : (h : Header) (x : ℕ) → shape_at (a ++ b) h (length a + x) ≡ moved (length a) (shape_at b h x)
  unfolding shape_at
  shape_behind h x =
      ap (λ (m : List ℕ). moved (length a + x) (shape m h.id)) (whole_behind a b x)
      ∙ sym (moved_moved (length a) x (shape (whole b x) h.id))

  mdat_behind : (x : ℕ) → mdat_at (a ++ b) (length a + x) ≡ length a + mdat_at b x
  unfolding mdat_at
  mdat_behind x = let e : length (whole (a ++ b) (length a + x)) ≡ length (whole b x) = ap length (whole_behind a b x) in omega (arith, e)

  pub timing_behind : (h : Header) (prev : Option ℕ) (x : ℕ) → timing_at (a ++ b) h prev (length a + x) ≡ moved (length a) (timing_at b h prev x)
  unfolding timing_at
  timing_behind h prev x =
      let m = mdat_at b x in
      rw (whole_behind a b x, mdat_behind x, head_behind a b m, size_behind a b m)
      (sym (moved_moved (length a) x (timing (whole b x) h.defaults (head_of b m) (size_of b m - head_of b m) prev)))

  -- the chunks of the rest
  pub rules_behind : (h : Header) (prev : Option ℕ) (xs : List ℕ)
      → rules_of_chunks (a ++ b) h prev (map (λ x. length a + x) xs) ≡ moved (length a) (rules_of_chunks b h prev xs)
  unfolding rules_of_chunks moved
  rules_behind h prev [] = refl
  rules_behind h prev (x ∷ xs) =
      let rest = rules_of_chunks b h (Some (end_at b h x)) xs in
      rw (shape_behind h x, timing_behind h prev x, end_behind h x, rules_behind h (Some (end_at b h x)) xs)
      (sym (moved_then (length a) (shape_at b h x) (timing_at b h prev x then rest)
      ∙ ap (λ (r : Rule). moved (length a) (shape_at b h x) then r) (moved_then (length a) (timing_at b h prev x) rest)))

  -- the chunks of the whole: the front's, then the rest's, moved, from the front's last end on
  pub rules_append : (h : Header) (prev : Option ℕ) → EndsOnBox a → All (ChunkAt a) (chunks a)
      → rules_of_chunks (a ++ b) h prev (chunks (a ++ b))
      ≡ (rules_of_chunks a h prev (chunks a)
      then moved (length a) (rules_of_chunks b h (last_end a h prev (chunks a)) (chunks b)))
  rules_append h prev c f =
      let behind = map (λ x. length a + x) (chunks b) in
      ap (rules_of_chunks (a ++ b) h prev) (chunks_append a b c)
      ∙ rules_joined (a ++ b) h prev (chunks a) behind
      ∙ ap₂ {C = Rule} (λ (r : Rule) (p : Option ℕ). r then rules_of_chunks (a ++ b) h p behind) (rules_front h prev (chunks a) f)
      (ends_front h prev (chunks a) f)
      ∙ ap (λ (r : Rule). rules_of_chunks a h prev (chunks a) then r) (rules_behind h (last_end a h prev (chunks a)) (chunks b))
