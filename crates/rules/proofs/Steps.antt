-- The first half, step by step: what every plan of an accepted set means for each fragment that it takes, chunk by chunk.
use mathlib.Core.Path.{◌≡◌, sym, ap, subst, ◌∙◌}
use mathlib.Core.Bool.{true, false}
use mathlib.Core.Option.{some, some-injective}
use mathlib.Core.List.{List, [], ◌∷◌, map}
use Prim.Native.Nat.{ℕ, zero, suc, ◌+◌, ◌<◌}
use native.Mathlib.Nat.{not-suc-le-zero, le_of_suc-le-suc}
use native.Mathlib.Omega.{arith}
use lib.ListN.{length, take, get_elem?, get_or}
use lib.Seq.{get_or-take}
use Rattle.rules.specs.Track.{ruling, header_of, chunks, start_at, end_at, sync_at, Fragment, fragments, fragment_count, boundaries}
use Rattle.rules.specs.Set.{track0, set_ruling}
use Rattle.rules.specs.Player.{Stretch, piece_at, stretch_at, clock_after}
use Rattle.rules.specs.Plans.{All, Plan}
use Rattle.std.specs.Prelude.{Ok}
use Rattle.std.proofs.lemmas.Bool.{not-true, not-false}
use Rattle.rules.proofs.Laws.{all_at, all_map, below, is_below, map_at}
use Rattle.rules.proofs.Walk.{DataBox}
use Rattle.rules.proofs.Fragments.{chunks_of, chunks_in, last_of, last_chunk, all_chunks, others_non_sync, of_each}
use Rattle.rules.proofs.Boundaries.{Spans, TilesFrom, Tiled, boxed_data, tiled, boundaries_length}
use Rattle.rules.proofs.Samples.{EachOf, whole_sample, lies, payload_at, mdat_end, samples_whole, samples_lie}
use Rattle.rules.proofs.Stuck.{pieces_of, non_sync, sync_is, InTurn, went_in_turn}
use Rattle.rules.proofs.FirstHalf.{LikeFirst, all_alike}

-- the step of number j of a plan takes the fragment f of the track s: it chooses s, and f is its j-th fragment
abbrev pub Takes : List (List ℕ) → List ℕ → ℕ → List ℕ → Fragment → Type 0
Takes ss plan j s f = (i : ℕ) × (get_elem? plan j ≡ some i) × (get_elem? ss i ≡ some s) × (get_elem? (fragments s) j ≡ some f)

-- the clock over chunks in turn, from a tick to another: it is each one's `tfdt`, and then its end
abbrev pub ClockOver : List ℕ → ℕ → List ℕ → ℕ → Type 0
ClockOver s a [] b = a ≡ b
ClockOver s a (x ∷ xs) b = (a ≡ start_at s x) × ClockOver s (end_at s (header_of s) x) xs b

-- where it ends, the last chunk does
last_end_lem : (s : List ℕ) (x : ℕ) (xs : List ℕ) (b : ℕ) → ClockOver s (end_at s (header_of s) x) xs b → end_at s (header_of s) (last_of x xs) ≡ b
last_end_lem s x [] b c = c
last_end_lem s x (y ∷ ys) b c = last_end_lem s y ys b c.1

-- every sample of the chunk at x is whole: the next bytes inside its own chunk's data box
abbrev pub WholeSamples : List ℕ → ℕ → Type 0
WholeSamples s x = EachOf (whole_sample (mdat_end s x)) s x

-- chunks in turn from a clock: that clock over them, and each one's samples whole
over : (s : List ℕ) (a : ℕ) (xs : List ℕ) (b : ℕ) → InTurn (some a) s xs → clock_after a (pieces_of s xs) ≡ b
    → ClockOver s a xs b × All (WholeSamples s) xs
unfolding clock_after piece_at
over s a [] b r e = (e, tt)
over s a (x ∷ xs) b r e = let y = over s (end_at s (header_of s) x) xs b r.2 e in ((r.0, y.0), (r.1, y.1))

-- the j-th of fragments that run from boundary to boundary
tiles_at : (fs : List Stretch) (a : ℕ) (bs : List ℕ) (j : ℕ) (f : Stretch) → TilesFrom fs a bs → j < length bs → get_elem? fs j ≡ some f
    → Spans f (get_or (a ∷ bs) j 0) (get_or bs j 0)
tiles_at fs a [] j f t l e = absurd (not-suc-le-zero l)
tiles_at [] a (b ∷ bs) j f t l e = absurd t
tiles_at (q ∷ fs) a (b ∷ bs) zero f t l e = subst (λ (y : Stretch). Spans y a b) (some-injective q f e) t.0
tiles_at (q ∷ fs) a (b ∷ bs) (suc j) f t l e = tiles_at fs b bs j f t.1 (le_of_suc-le-suc l) e

-- a fragment of a track runs from the j-th of boundaries to the next: the clock over all its chunks in turn, the first sample sync, and each chunk's
-- samples whole
abbrev pub RunsOver : List ℕ → ℕ → Fragment → List ℕ → Type 0
RunsOver s j f bs =
    ClockOver s (get_or bs j 0) (chunks_of f) (get_or bs (suc j) 0)
    × (non_sync s f.first ≡ false)
    × All (WholeSamples s) (chunks_of f)

-- the j-th fragment of an accepted track runs over the track's boundaries
pub fragment_at : (s : List ℕ) → ruling s ≡ Ok tt → (j : ℕ) (f : Fragment) → get_elem? (fragments s) j ≡ some f → RunsOver s j f (boundaries s)
unfolding piece_at stretch_at fragment_count
fragment_at s r j f e =
    let l = is_below (fragments s) j f e in
    let n : length (boundaries s) ≡ suc (fragment_count s) = boundaries_length s (omega (arith, l)) in
    go (boundaries s) (omega (arith, l, n)) (tiled s r)
  where
    fs : List Stretch
    fs = map (stretch_at s (header_of s)) (fragments s)

    spanned : (a b : ℕ) → Spans (stretch_at s (header_of s) f) a b
        → ClockOver s a (chunks_of f) b × (non_sync s f.first ≡ false) × All (WholeSamples s) (chunks_of f)
    spanned a b y =
        let end = end_at s (header_of s) f.first in
        let c = over s end f.others b (went_in_turn (some end) s f.others y.4) y.1 in
        ((sym y.0, c.0), not-true (non_sync s f.first) (sym (sync_is s f.first) ∙ y.2), (samples_whole s f.first y.3, c.1))

    go : (bs : List ℕ) → suc j < length bs → Tiled fs bs → RunsOver s j f bs
    go [] l t = absurd (not-suc-le-zero l)
    go (a ∷ bs) l t =
        spanned (get_or (a ∷ bs) j 0) (get_or bs j 0)
        (tiles_at fs a bs j (stretch_at s (header_of s) f) t (le_of_suc-le-suc l) (map_at (stretch_at s (header_of s)) (fragments s) j f e))

-- no chunk is missing: the chunks of a track's fragments, one fragment behind the other, are the track's chunks
pub no_chunk_missing : (s : List ℕ) → chunks_in (fragments s) ≡ chunks s
unfolding fragments
no_chunk_missing s = all_chunks (sync_at s (header_of s)) (chunks s)

-- so what holds of every chunk of a track holds of every chunk of a fragment of it
each_chunk : (P : ℕ → Type 0) (s : List ℕ) (j : ℕ) (f : Fragment) → All P (chunks s) → get_elem? (fragments s) j ≡ some f → All P (chunks_of f)
each_chunk P s j f a e =
    all_at (λ y. All P (chunks_of y)) (fragments s) j f (of_each P (fragments s) (subst (All P) (sym (no_chunk_missing s)) a)) e

module _ (ss : List (List ℕ)) (plan : List ℕ) (h : set_ruling ss ≡ Ok tt) (p : Plan ss plan) where
  -- the ticks that the plan passes
  abbrev pub ticked : List ℕ
  ticked = take (length plan + 1) (boundaries (track0 ss))

  -- a track of the set is like its track 0
  like : (i : ℕ) (s : List ℕ) → get_elem? ss i ≡ some s → LikeFirst (track0 ss) s
  like i s e = all_at (LikeFirst (track0 ss)) ss i s (all_alike ss h) e

  -- no fragment is missing: each step of the plan takes a fragment
  pub no_fragment_missing : (j : ℕ) → j < length plan → (s : List ℕ) × (f : Fragment) × Takes ss plan j s f
  unfolding fragment_count
  no_fragment_missing j l =
      let c = below plan j l in
      let n = below ss c.0 (all_at (λ i. i < length ss) plan j c.0 p.0.1 c.1) in
      let y = below (fragments n.0) j (omega (arith, l, p.1, (like c.0 n.0 n.1).2)) in
      (n.0, y.0, (c.0, c.1, n.1, y.1))

  module _ (j : ℕ) (s : List ℕ) (f : Fragment) (t : Takes ss plan j s f) where
    short : j < length plan
    short = is_below plan j t.0 t.1

    told : RunsOver s j f (boundaries s)
    told = fragment_at s (like t.0 s t.2).0 j f t.3

    -- a tick that the plan passes is the track's boundary of that number
    tick_at : (k : ℕ) → k < length plan + 1 → get_or ticked k 0 ≡ get_or (boundaries s) k 0
    tick_at k l =
        get_or-take (length plan + 1) (boundaries (track0 ss)) k 0 l
        ∙ ap (λ (bs : List ℕ). get_or bs k 0) (sym (like t.0 s t.2).3)

    -- the clock over the chunks of the fragment that step j takes: from the j-th tick passed to the next it is each chunk's `tfdt` in turn, and then
    -- that `tfdt` plus the chunk's durations
    pub clock_in_turn : ClockOver s (get_or ticked j 0) (chunks_of f) (get_or ticked (suc j) 0)
    clock_in_turn = rw (tick_at j (omega (arith, short)), tick_at (suc j) (omega (arith, short))) told.0

    -- so the j-th tick passed is the start of the fragment: its first chunk's `tfdt`
    pub clock_is_tfdt : get_or ticked j 0 ≡ start_at s f.first
    clock_is_tfdt = clock_in_turn.0

    -- and the clock after it is its end: the next tick passed is its last chunk's `tfdt` plus durations
    pub clock_after_is_end : get_or ticked (suc j) 0 ≡ end_at s (header_of s) (last_chunk f)
    clock_after_is_end = sym (last_end_lem s f.first f.others (get_or ticked (suc j) 0) clock_in_turn.1)

    -- it starts on a sync sample
    pub starts_on_sync : non_sync s f.first ≡ false
    starts_on_sync = told.1

    -- and no chunk that continues it does
    pub continues_non_sync : All (λ x. non_sync s x ≡ true) f.others
    unfolding fragments
    continues_non_sync =
        all_map (λ x. sync_at s (header_of s) x ≡ false) (λ x. non_sync s x ≡ true) f.others
        (λ x e. not-false (non_sync s x) (sym (sync_is s x) ∙ e))
        (all_at (λ y. All (λ x. sync_at s (header_of s) x ≡ false) y.others) (fragments s) j f
        (others_non_sync (sync_at s (header_of s)) (chunks s)) t.3)

    -- the data box of each of its chunks stands right behind it, of type `mdat` and inside the track
    pub own_data_box : All (DataBox s) (chunks_of f)
    own_data_box = each_chunk (DataBox s) s j f (boxed_data s (like t.0 s t.2).0) t.3

    -- each sample comes whole from its own chunk's data box, the next bytes each time
    pub samples_whole_and_next : All (WholeSamples s) (chunks_of f)
    samples_whole_and_next = told.2

    -- so, in plain numbers, each sample of each run of each chunk: its bytes begin at or behind the first byte of its chunk's data box's payload and end
    -- at or before that data box's end, and the data box ends inside the track
    pub each_sample_inside : All (λ x. EachOf (lies (payload_at s x) (mdat_end s x) (length s)) s x) (chunks_of f)
    each_sample_inside = inside (chunks_of f) own_data_box samples_whole_and_next
      where
        inside : (xs : List ℕ) → All (DataBox s) xs → All (WholeSamples s) xs
            → All (λ x. EachOf (lies (payload_at s x) (mdat_end s x) (length s)) s x) xs
        inside [] a b = tt
        inside (x ∷ xs) a b = (samples_lie s x a.0.2 b.0, inside xs a.1 b.1)

  -- each fragment starts on the tick where the last ended, whichever tracks the two steps chose
  pub starts_where_the_last_ended : (j : ℕ) (s s' : List ℕ) (f f' : Fragment) → Takes ss plan j s f → Takes ss plan (suc j) s' f'
      → start_at s' f'.first ≡ end_at s (header_of s) (last_chunk f)
  starts_where_the_last_ended j s s' f f' t t' = sym (clock_is_tfdt (suc j) s' f' t') ∙ clock_after_is_end j s f t
