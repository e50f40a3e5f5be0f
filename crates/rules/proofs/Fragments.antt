-- The grouping of chunks in fragments: no chunk is lost and none stands twice, and how it goes over chunks one behind the other.
use mathlib.Core.Path.{◌≡◌, refl, sym, ap, ◌∙◌}
use mathlib.Core.Bool.{Bool, true, false}
use mathlib.Core.List.{List, [], ◌∷◌, ◌++◌, map}
use Prim.Native.Nat.{ℕ, suc, ◌+◌, ◌≤◌}
use native.Mathlib.Nat.{not-suc-le-zero}
use native.Mathlib.Omega.{arith}
use lib.ListN.{length}
use Rattle.numbers.specs.Numbers.{when}
use Rattle.rules.specs.Track.{Fragment, continuing, begun_among, in_fragments, first_moofs}
use Rattle.rules.specs.Course.{each_sync}
use Rattle.rules.specs.Plans.{All}
use Rattle.std.proofs.lemmas.Bool.{and_parts}

-- the chunks of a fragment, and those of fragments, one behind the other
abbrev pub chunks_of : Fragment → List ℕ
chunks_of f = f.first ∷ f.others

unfoldable pub chunks_in : List Fragment → List ℕ
chunks_in [] = []
chunks_in (f ∷ fs) = chunks_of f ++ chunks_in fs

-- the last chunk of a fragment
abbrev pub last_of : ℕ → List ℕ → ℕ
last_of x [] = x
last_of x (y ∷ ys) = last_of y ys

abbrev pub last_chunk : Fragment → ℕ
last_chunk f = last_of f.first f.others

-- the fragment that a chunk begins, with those behind it
abbrev pub begun : (ℕ → Bool) → ℕ → List ℕ → Fragment
begun sync x xs = record { first = x; others = continuing sync xs }

module _ (sync : ℕ → Bool) where
  -- a sync chunk begins a fragment and continues none
  pub begins_one_lem : (x : ℕ) (xs : List ℕ) → sync x ≡ true → begun_among sync (x ∷ xs) ≡ begun sync x xs ∷ begun_among sync xs
  unfolding begun_among
  begins_one_lem x xs e = rw e

  pub continues_none : (x : ℕ) (xs : List ℕ) → sync x ≡ true → continuing sync (x ∷ xs) ≡ []
  unfolding continuing
  continues_none x xs e = rw e

  -- a non-sync chunk begins none and continues one
  pub begins_none : (x : ℕ) (xs : List ℕ) → sync x ≡ false → begun_among sync (x ∷ xs) ≡ begun_among sync xs
  unfolding begun_among
  begins_none x xs e = rw e

  pub continues_one : (x : ℕ) (xs : List ℕ) → sync x ≡ false → continuing sync (x ∷ xs) ≡ x ∷ continuing sync xs
  unfolding continuing
  continues_one x xs e = rw e

  -- a track's first chunk that is sync begins a fragment as any other does
  pub opens_alike : (x : ℕ) (xs : List ℕ) → sync x ≡ true → in_fragments sync (x ∷ xs) ≡ begun_among sync (x ∷ xs)
  unfolding in_fragments
  opens_alike x xs e = sym (begins_one_lem x xs e)

  -- chunks behind one: those that continue its fragment, then those of the fragments that begin among them, are all of them in order
  pub none_lost : (xs : List ℕ) → continuing sync xs ++ chunks_in (begun_among sync xs) ≡ xs
  unfolding continuing begun_among chunks_in
  none_lost [] = refl
  none_lost (x ∷ xs) = go (sync x) (none_lost xs)
    where
      go : (t : Bool) → continuing sync xs ++ chunks_in (begun_among sync xs) ≡ xs
          → when t [] (x ∷ continuing sync xs) ++ chunks_in (when t (begun sync x xs ∷ begun_among sync xs) (begun_among sync xs)) ≡ x ∷ xs
      go true e = ap {B = List ℕ} (λ (ys : List ℕ). x ∷ ys) e
      go false e = ap {B = List ℕ} (λ (ys : List ℕ). x ∷ ys) e

  -- the chunks of a track's fragments are the track's chunks: none is lost, and none stands twice
  pub all_chunks : (xs : List ℕ) → chunks_in (in_fragments sync xs) ≡ xs
  unfolding in_fragments chunks_in
  all_chunks [] = refl
  all_chunks (x ∷ xs) = ap {B = List ℕ} (λ (ys : List ℕ). x ∷ ys) (none_lost xs)

  -- no chunk that continues a fragment is sync
  pub continuing_non_sync : (xs : List ℕ) → All (λ x. sync x ≡ false) (continuing sync xs)
  unfolding continuing
  continuing_non_sync [] = tt
  continuing_non_sync (x ∷ xs) = go (sync x) refl (continuing_non_sync xs)
    where
      go : (t : Bool) → sync x ≡ t → All (λ y. sync y ≡ false) (continuing sync xs)
          → All (λ y. sync y ≡ false) (when t [] (x ∷ continuing sync xs))
      go true e a = tt
      go false e a = (e, a)

  -- a fragment as it is to be: its first chunk sync, no other
  abbrev pub WellBegun : Fragment → Type 0
  WellBegun f = (sync f.first ≡ true) × All (λ x. sync x ≡ false) f.others

  -- each fragment that begins among chunks is
  pub all_well_begun : (xs : List ℕ) → All WellBegun (begun_among sync xs)
  unfolding begun_among
  all_well_begun [] = tt
  all_well_begun (x ∷ xs) = go (sync x) refl (all_well_begun xs)
    where
      go : (t : Bool) → sync x ≡ t → All WellBegun (begun_among sync xs)
          → All WellBegun (when t (begun sync x xs ∷ begun_among sync xs) (begun_among sync xs))
      go true e a = ((e, continuing_non_sync xs), a)
      go false e a = a

  -- of a track's fragments no chunk but the first is sync
  pub others_non_sync : (xs : List ℕ) → All (λ f. All (λ x. sync x ≡ false) f.others) (in_fragments sync xs)
  unfolding in_fragments
  others_non_sync [] = tt
  others_non_sync (x ∷ xs) = (continuing_non_sync xs, only (begun_among sync xs) (all_well_begun xs))
    where
      only : (fs : List Fragment) → All WellBegun fs → All (λ f. All (λ y. sync y ≡ false) f.others) fs
      only [] a = tt
      only (f ∷ fs) a = (a.0.1, only fs a.1)

  -- how many fragments begin: one more with each sync chunk, at most one with each
  pub begins_more : (x : ℕ) (xs : List ℕ) → length (begun_among sync (x ∷ xs)) ≡ length (begun_among sync xs) + when (sync x) 1 0
  unfolding begun_among
  begins_more x xs = go (sync x)
    where
      go : (t : Bool) → length (when t (begun sync x xs ∷ begun_among sync xs) (begun_among sync xs)) ≡ length (begun_among sync xs) + when t 1 0
      go true = omega arith
      go false = omega arith

  pub begin_few : (xs : List ℕ) → length (begun_among sync xs) ≤ length xs
  unfolding begun_among
  begin_few [] = omega arith
  begin_few (x ∷ xs) = go (sync x) (begin_few xs)
    where
      go : (t : Bool) → length (begun_among sync xs) ≤ length xs
          → length (when t (begun sync x xs ∷ begun_among sync xs) (begun_among sync xs)) ≤ suc (length xs)
      go true h = omega (arith, h)
      go false h = omega (arith, h)

  -- a track's fragments: one, and those that begin behind its first chunk
  pub fragments_length : (x : ℕ) (xs : List ℕ) → length (in_fragments sync (x ∷ xs)) ≡ suc (length (begun_among sync xs))
  unfolding in_fragments
  fragments_length x xs = refl

  pub fragments_few : (xs : List ℕ) → length (in_fragments sync xs) ≤ length xs
  unfolding in_fragments
  fragments_few [] = omega arith
  fragments_few (x ∷ xs) = omega (arith, begin_few xs)

  pub some_fragment : (xs : List ℕ) → 1 ≤ length xs → 1 ≤ length (in_fragments sync xs)
  unfolding in_fragments
  some_fragment [] l = absurd (not-suc-le-zero l)
  some_fragment (x ∷ xs) l = omega arith

  -- chunks and more behind them: the fragments that begin among the first, then those that begin among the others
  pub begin_append : (xs ys : List ℕ) → first_moofs (begun_among sync (xs ++ ys)) ≡ first_moofs (begun_among sync xs) ++ first_moofs (begun_among sync ys)
  unfolding begun_among
  begin_append [] ys = refl
  begin_append (x ∷ xs) ys = go (sync x) (begin_append xs ys)
    where
      go : (t : Bool) → first_moofs (begun_among sync (xs ++ ys)) ≡ first_moofs (begun_among sync xs) ++ first_moofs (begun_among sync ys)
          → first_moofs (when t (begun sync x (xs ++ ys) ∷ begun_among sync (xs ++ ys)) (begun_among sync (xs ++ ys)))
          ≡ first_moofs (when t (begun sync x xs ∷ begun_among sync xs) (begun_among sync xs)) ++ first_moofs (begun_among sync ys)
      go true e = ap {B = List ℕ} (λ (zs : List ℕ). x ∷ zs) e
      go false e = e

  pub begin_append_length : (xs ys : List ℕ) → length (begun_among sync (xs ++ ys)) ≡ length (begun_among sync xs) + length (begun_among sync ys)
  unfolding begun_among
  begin_append_length [] ys = omega arith
  begin_append_length (x ∷ xs) ys = go (sync x) (begin_append_length xs ys)
    where
      go : (t : Bool) → length (begun_among sync (xs ++ ys)) ≡ length (begun_among sync xs) + length (begun_among sync ys)
          → length (when t (begun sync x (xs ++ ys) ∷ begun_among sync (xs ++ ys)) (begun_among sync (xs ++ ys)))
          ≡ length (when t (begun sync x xs ∷ begun_among sync xs) (begun_among sync xs)) + length (begun_among sync ys)
      go true e = omega (arith, e)
      go false e = e

  -- the same of a track's fragments, where it has a chunk
  pub fragments_append : (xs ys : List ℕ) → 1 ≤ length xs
      → first_moofs (in_fragments sync (xs ++ ys)) ≡ first_moofs (in_fragments sync xs) ++ first_moofs (begun_among sync ys)
  unfolding in_fragments
  fragments_append [] ys l = absurd (not-suc-le-zero l)
  fragments_append (x ∷ xs) ys l = ap {B = List ℕ} (λ (zs : List ℕ). x ∷ zs) (begin_append xs ys)

  pub fragments_append_length : (xs ys : List ℕ) → 1 ≤ length xs
      → length (in_fragments sync (xs ++ ys)) ≡ length (in_fragments sync xs) + length (begun_among sync ys)
  unfolding in_fragments
  fragments_append_length [] ys l = absurd (not-suc-le-zero l)
  fragments_append_length (x ∷ xs) ys l = let e = begin_append_length xs ys in omega (arith, e)

  -- where each chunk is sync, each begins a fragment
  pub each_begins : (xs : List ℕ) → each_sync sync xs ≡ true → first_moofs (begun_among sync xs) ≡ xs
  unfolding each_sync begun_among
  each_begins [] h = refl
  each_begins (x ∷ xs) h =
      ap first_moofs (begins_one_lem x xs (and_parts (sync x) (each_sync sync xs) h).0)
      ∙ ap {B = List ℕ} (λ (ys : List ℕ). x ∷ ys) (each_begins xs (and_parts (sync x) (each_sync sync xs) h).1)

  pub each_fragment : (xs : List ℕ) → each_sync sync xs ≡ true → first_moofs (in_fragments sync xs) ≡ xs
  unfolding in_fragments each_sync
  each_fragment [] h = refl
  each_fragment (x ∷ xs) h =
      ap {B = List ℕ} (λ (ys : List ℕ). x ∷ ys) (each_begins xs (and_parts (sync x) (each_sync sync xs) h).1)

-- two tests that agree on chunks group them alike
module _ (sync also : ℕ → Bool) where
  pub alike_continuing : (xs : List ℕ) → All (λ x. sync x ≡ also x) xs → continuing sync xs ≡ continuing also xs
  unfolding continuing
  alike_continuing [] a = refl
  alike_continuing (x ∷ xs) a = rw (a.0, alike_continuing xs a.1)

  pub alike_begun : (xs : List ℕ) → All (λ x. sync x ≡ also x) xs → begun_among sync xs ≡ begun_among also xs
  unfolding begun_among
  alike_begun [] a = refl
  alike_begun (x ∷ xs) a = rw (a.0, alike_continuing xs a.1, alike_begun xs a.1)

  pub alike_fragments : (xs : List ℕ) → All (λ x. sync x ≡ also x) xs → in_fragments sync xs ≡ in_fragments also xs
  unfolding in_fragments
  alike_fragments [] a = refl
  alike_fragments (x ∷ xs) a = rw (alike_continuing xs a.1, alike_begun xs a.1)

-- chunks that all stand elsewhere: so do the fragments' first ones
pub begin_moved : (sync : ℕ → Bool) (to : ℕ → ℕ) (xs : List ℕ)
    → first_moofs (begun_among sync (map to xs)) ≡ map to (first_moofs (begun_among (λ x. sync (to x)) xs))
unfolding begun_among
begin_moved sync to [] = refl
begin_moved sync to (x ∷ xs) = go (sync (to x)) (begin_moved sync to xs)
  where
    go : (t : Bool) → first_moofs (begun_among sync (map to xs)) ≡ map to (first_moofs (begun_among (λ y. sync (to y)) xs))
        → first_moofs (when t (begun sync (to x) (map to xs) ∷ begun_among sync (map to xs)) (begun_among sync (map to xs)))
        ≡ map to (first_moofs (when t (begun (λ y. sync (to y)) x xs ∷ begun_among (λ y. sync (to y)) xs) (begun_among (λ y. sync (to y)) xs)))
    go true e = ap {B = List ℕ} (λ (zs : List ℕ). to x ∷ zs) e
    go false e = e

pub fragments_moved : (sync : ℕ → Bool) (to : ℕ → ℕ) (xs : List ℕ)
    → first_moofs (in_fragments sync (map to xs)) ≡ map to (first_moofs (in_fragments (λ x. sync (to x)) xs))
unfolding in_fragments
fragments_moved sync to [] = refl
fragments_moved sync to (x ∷ xs) = ap {B = List ℕ} (λ (zs : List ℕ). to x ∷ zs) (begin_moved sync to xs)

-- what holds of all the chunks of fragments holds of those of each
module _ (P : ℕ → Type 0) where
  split : (xs ys : List ℕ) → All P (xs ++ ys) → All P xs × All P ys
  split [] ys a = (tt, a)
  split (x ∷ xs) ys a = let b = split xs ys a.1 in ((a.0, b.0), b.1)

  pub of_each : (fs : List Fragment) → All P (chunks_in fs) → All (λ f. All P (chunks_of f)) fs
  unfolding chunks_in
  of_each [] a = tt
  of_each (f ∷ fs) a = let b = split (chunks_of f) (chunks_in fs) a in (b.0, of_each fs b.1)
