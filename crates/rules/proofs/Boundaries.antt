-- An accepted track: its fragments run from boundary to boundary, each on a sync sample, its chunks in turn and each fed from its own data box.
use mathlib.Core.Path.{◌≡◌, refl, sym, ap, ap₂, ◌∙◌}
use mathlib.Core.Bool.{Bool, true, false}
use mathlib.Core.Option.{some}
use mathlib.Core.List.{List, [], ◌∷◌, ◌++◌, map}
use Prim.Native.Nat.{ℕ, zero, suc, ◌-◌, ◌≤◌}
use native.Mathlib.Nat.{not-suc-le-zero}
use native.Mathlib.Omega.{arith}
use lib.ListN.{length, take, length-append, length-map}
use borrow.Author.Tests.{eqb-true, eq-eqb}
use Rattle.numbers.specs.Numbers.{when}
use Rattle.rules.specs.Rules.{◌then◌}
use Rattle.rules.specs.Boxes.{head_of, size_of, whole}
use Rattle.rules.specs.Chunk.{start_of, tfdt_in, first_run, sync_in, follows, opens, rule19, rule20, rule21, rule22, timing}
use Rattle.rules.specs.Track.{ruling, rules_of_chunks, header_of, chunks, mdat_at, shape_at, timing_at, start_at, end_at, sync_at, Fragment, continuing, begun_among, in_fragments, fragments, first_moofs, fragment_count, last_end, end_list, ticks, boundaries}
use Rattle.rules.specs.Player.{Piece, Stretch, fed_at, piece_at, stretch_at, fits, in_turn, clock_after, ends_at}
use Rattle.rules.specs.Plans.{All}
use Rattle.std.specs.Prelude.{Option, None, Some, Ok}
use Rattle.rules.specs.declared.Header.{Header}
use Rattle.rules.proofs.Then.{then_first, then_second, must_holds, moved_held}
use Rattle.rules.proofs.Walk.{DataBox, data_boxes, some_chunk}
use Rattle.rules.proofs.Tiling.{fed_at_lem}
use Rattle.rules.proofs.Fragments.{begun, opens_alike, some_fragment}
use Rattle.rules.proofs.Sound.{accepted_keeps}

-- a fragment from a tick to another: it starts at the one and ends at the other, sync, its first chunk fed and the others in turn from that one's end
abbrev pub Spans : Stretch → ℕ → ℕ → Type 0
Spans f a b =
    (f.lead.from ≡ a)
    × (ends_at f ≡ b)
    × (f.sync ≡ true)
    × (f.lead.fed ≡ true)
    × (in_turn (some f.lead.to) f.rest ≡ true)

-- fragments that run from a start over the ends given, as many as there are ends: each from the last end
abbrev pub TilesFrom : List Stretch → ℕ → List ℕ → Type 0
TilesFrom fs a [] = Unit {0}
TilesFrom [] a (b ∷ bs) = ⊥
TilesFrom (f ∷ fs) a (b ∷ bs) = Spans f a b × TilesFrom fs b bs

-- the same over boundaries: the start, then the ends
abbrev pub Tiled : List Stretch → List ℕ → Type 0
Tiled fs [] = Unit {0}
Tiled fs (a ∷ bs) = TilesFrom fs a bs

-- fragments over fewer ends
pub tiles_fewer : (fs : List Stretch) (a : ℕ) (bs : List ℕ) (n : ℕ) → TilesFrom fs a bs → TilesFrom fs a (take n bs)
tiles_fewer fs a bs zero h = tt
tiles_fewer fs a [] (suc n) h = tt
tiles_fewer [] a (b ∷ bs) (suc n) h = absurd h
tiles_fewer (f ∷ fs) a (b ∷ bs) (suc n) h = (h.0, tiles_fewer fs b bs n h.1)

-- what the timing says of a chunk, for the player
module _ (s : List ℕ) (h : Header) (prev : Option ℕ) (x : ℕ) (t : timing_at s h prev x ≡ Ok tt) where
  timed : timing (whole s x) h.defaults (head_of s (mdat_at s x)) (size_of s (mdat_at s x) - head_of s (mdat_at s x)) prev ≡ Ok tt
  unfolding timing_at
  timed = moved_held x _ t

  behind_start : rule20 (whole s x) h.defaults
      then rule21 (whole s x) h.defaults prev
      then rule22 (whole s x) h.defaults (head_of s (mdat_at s x)) (size_of s (mdat_at s x) - head_of s (mdat_at s x))
      ≡ Ok tt
  unfolding timing
  behind_start = then_second _ _ timed

  -- rule 19: the `tfdt` follows the previous end
  followed : follows prev (start_at s x) ≡ true
  unfolding timing rule19 start_at
  followed = must_holds (follows prev (start_of (whole s x))) 19 (tfdt_in (whole s x)) (then_first _ _ timed)

  -- rule 21: the first sample is sync, where the track's first chunk is asked
  opened : opens prev (sync_at s h x) ≡ true
  unfolding rule21 sync_at
  opened =
      must_holds (opens prev (sync_in (whole s x) h.defaults)) 21 (first_run (whole s x)) (then_first _ _ (then_second _ _ behind_start))

  -- rule 22: the samples' bytes are the next ones
  fed : DataBox s x → fed_at s h x ≡ true
  fed b = fed_at_lem s h x (then_second _ _ (then_second _ _ behind_start)) b

-- rule 19 after an end: the `tfdt` is that end
starts : (s : List ℕ) (h : Header) (e x : ℕ) → timing_at s h (Some e) x ≡ Ok tt → start_at s x ≡ e
unfolding follows
starts s h e x t = eqb-true (start_at s x) e (followed s h (Some e) x t)

-- rule 21 before any end: the first sample is sync
on_sync : (s : List ℕ) (h : Header) (x : ℕ) → timing_at s h None x ≡ Ok tt → sync_at s h x ≡ true
unfolding opens
on_sync s h x t = opened s h None x t

-- chunks that their rules accept: the timing of the first, and those after it
module _ (s : List ℕ) (h : Header) (prev : Option ℕ) (x : ℕ) (xs : List ℕ) (r : rules_of_chunks s h prev (x ∷ xs) ≡ Ok tt) where
  behind_shape : timing_at s h prev x then rules_of_chunks s h (Some (end_at s h x)) xs ≡ Ok tt
  unfolding rules_of_chunks
  behind_shape = then_second (shape_at s h x) (timing_at s h prev x then rules_of_chunks s h (Some (end_at s h x)) xs) r

  first_timed : timing_at s h prev x ≡ Ok tt
  first_timed = then_first (timing_at s h prev x) (rules_of_chunks s h (Some (end_at s h x)) xs) behind_shape

  behind_first : rules_of_chunks s h (Some (end_at s h x)) xs ≡ Ok tt
  behind_first = then_second (timing_at s h prev x) (rules_of_chunks s h (Some (end_at s h x)) xs) behind_shape

-- what the player meets of fragments and of the chunks that continue one, and the ends of fragments
module _ (s : List ℕ) (h : Header) where
  abbrev met : List Fragment → List Stretch
  met fs = map (stretch_at s h) fs

  abbrev going_on : List ℕ → List Piece
  going_on xs = map (piece_at s h) (continuing (sync_at s h) xs)

  abbrev ends : List Fragment → List ℕ
  ends fs = map (λ f. ends_at (stretch_at s h f)) fs

  -- chunks after an end that their rules accept: those that continue the fragment go in turn from that end
  in_turn_lem : (e : ℕ) (xs : List ℕ) → rules_of_chunks s h (Some e) xs ≡ Ok tt → All (DataBox s) xs → in_turn (some e) (going_on xs) ≡ true
  unfolding continuing in_turn fits piece_at
  in_turn_lem e [] r b = refl
  in_turn_lem e (x ∷ xs) r b = go (sync_at s h x) (in_turn_lem (end_at s h x) xs (behind_first s h (Some e) x xs r) b.1)
    where
      t : timing_at s h (Some e) x ≡ Ok tt
      t = first_timed s h (Some e) x xs r

      go : (y : Bool) → in_turn (some (end_at s h x)) (going_on xs) ≡ true
          → in_turn (some e) (map (piece_at s h) (when y [] (x ∷ continuing (sync_at s h) xs))) ≡ true
      go true n = refl
      go false n = rw (eq-eqb e (start_at s x) (sym (starts s h e x t)), fed s h (Some e) x t b.0, n)

  -- and the fragments that begin among them run from where those end, each over its own end
  later : (e : ℕ) (xs : List ℕ) → rules_of_chunks s h (Some e) xs ≡ Ok tt → All (DataBox s) xs
      → TilesFrom (met (begun_among (sync_at s h) xs)) (clock_after e (going_on xs)) (ends (begun_among (sync_at s h) xs))
  unfolding continuing begun_among clock_after piece_at stretch_at
  later e [] r b = tt
  later e (x ∷ xs) r b = go (sync_at s h x) refl (later (end_at s h x) xs l b.1)
    where
      l : rules_of_chunks s h (Some (end_at s h x)) xs ≡ Ok tt
      l = behind_first s h (Some e) x xs r

      t : timing_at s h (Some e) x ≡ Ok tt
      t = first_timed s h (Some e) x xs r

      go : (y : Bool) → sync_at s h x ≡ y
          → TilesFrom (met (begun_among (sync_at s h) xs)) (clock_after (end_at s h x) (going_on xs)) (ends (begun_among (sync_at s h) xs))
          → TilesFrom (met (when y (begun (sync_at s h) x xs ∷ begun_among (sync_at s h) xs) (begun_among (sync_at s h) xs)))
          (clock_after e (map (piece_at s h) (when y [] (x ∷ continuing (sync_at s h) xs))))
          (ends (when y (begun (sync_at s h) x xs ∷ begun_among (sync_at s h) xs) (begun_among (sync_at s h) xs)))
      go true q n = ((starts s h e x t, refl, q, fed s h (Some e) x t b.0, in_turn_lem (end_at s h x) xs l b.1), n)
      go false q n = n

  -- the starts of the fragments that begin among chunks after an end, and the last end: where those before them end, then their ends
  later_ticks : (e : ℕ) (xs : List ℕ) → rules_of_chunks s h (Some e) xs ≡ Ok tt
      → map (start_at s) (first_moofs (begun_among (sync_at s h) xs)) ++ end_list (last_end s h (Some e) xs)
      ≡ clock_after e (going_on xs) ∷ ends (begun_among (sync_at s h) xs)
  unfolding continuing begun_among last_end clock_after piece_at stretch_at
  later_ticks e [] r = refl
  later_ticks e (x ∷ xs) r = go (sync_at s h x) (later_ticks (end_at s h x) xs (behind_first s h (Some e) x xs r))
    where
      go : (y : Bool)
          → map (start_at s) (first_moofs (begun_among (sync_at s h) xs)) ++ end_list (last_end s h (Some (end_at s h x)) xs)
          ≡ clock_after (end_at s h x) (going_on xs) ∷ ends (begun_among (sync_at s h) xs)
          → map (start_at s) (first_moofs (when y (begun (sync_at s h) x xs ∷ begun_among (sync_at s h) xs) (begun_among (sync_at s h) xs)))
          ++ end_list (last_end s h (Some (end_at s h x)) xs)
          ≡ clock_after e (map (piece_at s h) (when y [] (x ∷ continuing (sync_at s h) xs)))
          ∷ ends (when y (begun (sync_at s h) x xs ∷ begun_among (sync_at s h) xs) (begun_among (sync_at s h) xs))
      go true n =
          ap₂ {C = List ℕ} (λ (a : ℕ) (bs : List ℕ). a ∷ bs) (starts s h e x (first_timed s h (Some e) x xs r)) n
      go false n = n

  -- the fragments of a track whose chunks their rules accept, the first of them where it likes
  tiled_from : (xs : List ℕ) → rules_of_chunks s h None xs ≡ Ok tt → All (DataBox s) xs
      → Tiled (met (in_fragments (sync_at s h) xs)) (ticks s h xs)
  unfolding ticks last_end in_fragments piece_at stretch_at
  tiled_from [] r b = tt
  tiled_from (x ∷ xs) r b =
      let t = first_timed s h None x xs r in
      let l = behind_first s h None x xs r in
      rw (later_ticks (end_at s h x) xs l)
      ((refl, refl, on_sync s h x t, fed s h None x t b.0, in_turn_lem (end_at s h x) xs l b.1), later (end_at s h x) xs l b.1)

  -- and each of them begins on a sync chunk, the first as any other
  all_begin : (xs : List ℕ) → rules_of_chunks s h None xs ≡ Ok tt → in_fragments (sync_at s h) xs ≡ begun_among (sync_at s h) xs
  unfolding in_fragments begun_among
  all_begin [] r = refl
  all_begin (x ∷ xs) r = opens_alike (sync_at s h) x xs (on_sync s h x (first_timed s h None x xs r))

-- each chunk of an accepted track has its data box right behind it
pub boxed_data : (s : List ℕ) → ruling s ≡ Ok tt → All (DataBox s) (chunks s)
boxed_data s r = data_boxes s (accepted_keeps s r).0.2

-- it has a fragment
pub a_fragment : (s : List ℕ) → ruling s ≡ Ok tt → 1 ≤ fragment_count s
unfolding fragment_count fragments
a_fragment s r = some_fragment (sync_at s (header_of s)) (chunks s) (some_chunk s (accepted_keeps s r).0.2)

-- its fragments run from boundary to boundary
pub tiled : (s : List ℕ) → ruling s ≡ Ok tt → Tiled (map (stretch_at s (header_of s)) (fragments s)) (boundaries s)
unfolding boundaries fragments
tiled s r = tiled_from s (header_of s) (chunks s) (accepted_keeps s r).1 (boxed_data s r)

-- and they are those that begin on a sync chunk: rule 21 has the track's first be one
pub begin_on_sync : (s : List ℕ) → ruling s ≡ Ok tt → fragments s ≡ begun_among (sync_at s (header_of s)) (chunks s)
unfolding fragments
begin_on_sync s r = all_begin s (header_of s) (chunks s) (accepted_keeps s r).1

pub opens_on_sync : (s : List ℕ) → ruling s ≡ Ok tt → first_moofs (fragments s) ≡ first_moofs (begun_among (sync_at s (header_of s)) (chunks s))
opens_on_sync s r = ap first_moofs (begin_on_sync s r)

-- there is one boundary more than there are fragments
one_end : (s : List ℕ) (h : Header) (e : ℕ) (xs : List ℕ) → length (end_list (last_end s h (Some e) xs)) ≡ 1
unfolding last_end
one_end s h e [] = refl
one_end s h e (x ∷ xs) = one_end s h (end_at s h x) xs

some_ticks : (s : List ℕ) (h : Header) (x : ℕ) (xs : List ℕ) → length (ticks s h (x ∷ xs)) ≡ suc (length (in_fragments (sync_at s h) (x ∷ xs)))
unfolding ticks last_end
some_ticks s h x xs =
    let fs = in_fragments (sync_at s h) (x ∷ xs) in
    let e = length-append (map (start_at s) (first_moofs fs)) (end_list (last_end s h (Some (end_at s h x)) xs)) in
    let n = length-map (first_moofs fs) (start_at s) in
    let m = length-map fs (λ f. f.first) in
    e ∙ omega (arith, n, m, one_end s h (end_at s h x) xs)

ticks_length : (s : List ℕ) (h : Header) (xs : List ℕ) → 1 ≤ length (in_fragments (sync_at s h) xs)
    → length (ticks s h xs) ≡ suc (length (in_fragments (sync_at s h) xs))
unfolding in_fragments
ticks_length s h [] l = absurd (not-suc-le-zero l)
ticks_length s h (x ∷ xs) l = some_ticks s h x xs

pub boundaries_length : (s : List ℕ) → 1 ≤ fragment_count s → length (boundaries s) ≡ suc (fragment_count s)
unfolding boundaries fragment_count fragments
boundaries_length s l = ticks_length s (header_of s) (chunks s) l

-- tracks of as many fragments have as many boundaries
same_length : (s₁ s₂ : List ℕ) (h₁ h₂ : Header) (xs ys : List ℕ)
    → length (in_fragments (sync_at s₁ h₁) xs) ≡ length (in_fragments (sync_at s₂ h₂) ys)
    → length (ticks s₁ h₁ xs) ≡ length (ticks s₂ h₂ ys)
unfolding ticks last_end in_fragments
same_length s₁ s₂ h₁ h₂ [] [] e = refl
same_length s₁ s₂ h₁ h₂ [] (y ∷ ys) e = let z : ⊥ = omega (arith, e) in absurd z
same_length s₁ s₂ h₁ h₂ (x ∷ xs) [] e = let z : ⊥ = omega (arith, e) in absurd z
same_length s₁ s₂ h₁ h₂ (x ∷ xs) (y ∷ ys) e =
    some_ticks s₁ h₁ x xs ∙ ap suc e ∙ sym (some_ticks s₂ h₂ y ys)

pub as_many : (s₁ s₂ : List ℕ) → fragment_count s₁ ≡ fragment_count s₂ → length (boundaries s₁) ≡ length (boundaries s₂)
unfolding boundaries fragment_count fragments
as_many s₁ s₂ e = same_length s₁ s₂ (header_of s₁) (header_of s₂) (chunks s₁) (chunks s₂) e
