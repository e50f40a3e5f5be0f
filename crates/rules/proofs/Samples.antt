-- The samples of a chunk, one by one: where the player's test of them holds, and where it fails.
use mathlib.Core.Path.{◌≡◌, refl, ap}
use mathlib.Core.Logic.{◌⊎◌, inl, inr}
use mathlib.Core.Bool.{Bool, true, false, ◌&&◌, false≢true}
use mathlib.Core.List.{List, [], ◌∷◌}
use Prim.Native.Nat.{ℕ, zero, suc, ◌+◌, ◌≤◌, ◌<◌}
use native.Mathlib.Nat.{not-suc-le-zero}
use native.Mathlib.Omega.{arith}
use native.Mathlib.Decide.{ℕ_discrete}
use lib.Dec.{leb}
use lib.ListN.{length}
use lib.IntN.{ℤ, pos, negsuc, ◌+ℤ◌}
use borrow.Author.Tests.{leb-true, le-leb, eq-eqb, eqb-true}
use Rattle.numbers.specs.Numbers.{is_place}
use Rattle.rules.specs.Boxes.{head_of, size_of, whole}
use Rattle.rules.specs.Chunk.{count_of, bytes_of, sum_to, run_bytes, runs_in, defaults_in}
use Rattle.rules.specs.Track.{header_of, mdat_at}
use Rattle.rules.specs.Player.{samples_fed, run_start, runs_fed, fed_at}
use Rattle.rules.specs.declared.Defaults.{Defaults}
use Rattle.std.proofs.lemmas.Bool.{and_parts, and_from}

-- of a sample: where its bytes begin in the track, the next byte of the data box, and its size
abbrev pub OfSample : Type 1
OfSample = ℤ → ℕ → ℕ → Type 0

-- the i-th sample of a run whose samples begin at `start`, where the run's next byte is at `next`
abbrev pub SampleAt : OfSample → List ℕ → Defaults → ℕ → ℤ → ℕ → ℕ → Type 0
SampleAt q m d r start next i = q (start +ℤ pos (sum_to (bytes_of m d r) i)) (next + sum_to (bytes_of m d r) i) (bytes_of m d r i)

-- every sample of runs, and some sample of them
abbrev pub EverySample : OfSample → ℕ → List ℕ → Defaults → ℤ → ℕ → List ℕ → Type 0
EverySample q x m d before next [] = Unit {0}
EverySample q x m d before next (r ∷ rs) =
    ((i : ℕ) → i < count_of m r → SampleAt q m d r (run_start x m before r) next i)
    × EverySample q x m d (run_start x m before r +ℤ pos (run_bytes m d r)) (next + run_bytes m d r) rs

abbrev pub SomeSample : OfSample → ℕ → List ℕ → Defaults → ℤ → ℕ → List ℕ → Type 0
SomeSample q x m d before next [] = ⊥
SomeSample q x m d before next (r ∷ rs) =
    ((i : ℕ) × (i < count_of m r) × SampleAt q m d r (run_start x m before r) next i)
    ⊎ SomeSample q x m d (run_start x m before r +ℤ pos (run_bytes m d r)) (next + run_bytes m d r) rs

-- its bytes are the next ones and end inside the data box; they aren't the next ones; they end past the data box
abbrev pub whole_sample : ℕ → OfSample
whole_sample till place next size = (place ≡ pos next) × (next + size ≤ till)

abbrev pub not_next : OfSample
not_next place next size = place ≡ pos next → ⊥

abbrev pub past_till : ℕ → OfSample
past_till till place next size = till < next + size

-- in plain numbers: its bytes begin at a place at or behind `from`, end at or before `till`, and `till` is inside `len` bytes
abbrev pub lies : ℕ → ℕ → ℕ → OfSample
lies from till len place next size = (b : ℕ) × (place ≡ pos b) × (from ≤ b) × (b + size ≤ till) × (till ≤ len)

-- a signed number that is a place
pub place_is : (o : ℤ) (e : ℕ) → is_place o e ≡ true → o ≡ pos e
unfolding is_place
place_is (pos n) e h = ap pos (eqb-true n e h)
place_is (negsuc n) e h = absurd (false≢true h)

is_place_lem : (o : ℤ) (e : ℕ) → o ≡ pos e → is_place o e ≡ true
unfolding is_place
is_place_lem o e h = rw h (eq-eqb e e refl)

module _ (m : List ℕ) (d : Defaults) (r : ℕ) (start : ℤ) (next till : ℕ) where
  -- the two tests of sample i
  here : ℕ → Bool
  here i = is_place (start +ℤ pos (sum_to (bytes_of m d r) i)) (next + sum_to (bytes_of m d r) i)

  inside : ℕ → Bool
  inside i = leb (next + sum_to (bytes_of m d r) (suc i)) till

  -- and where it holds every sample is
  whole_run : (n : ℕ) → samples_fed m d r start next till n ≡ true → (i : ℕ) → i < n → SampleAt (whole_sample till) m d r start next i
  unfolding samples_fed sum_to here inside
  whole_run zero h i l = absurd (not-suc-le-zero l)
  whole_run (suc n) h i l = go (ℕ_discrete i n) (whole_run n (and_parts (samples_fed m d r start next till n) (here n) both).0 i)
    where
      both : (samples_fed m d r start next till n && here n) ≡ true
      both = (and_parts (samples_fed m d r start next till n && here n) (inside n) h).0

      last : SampleAt (whole_sample till) m d r start next n
      last = (
        place_is (start +ℤ pos (sum_to (bytes_of m d r) n)) (next + sum_to (bytes_of m d r) n)
            (and_parts (samples_fed m d r start next till n) (here n) both).1,
        omega (
          arith,
          leb-true (next + (sum_to (bytes_of m d r) n + bytes_of m d r n)) till
              (and_parts (samples_fed m d r start next till n && here n) (inside n) h).1,
        ),
      )

      go : Dec (i ≡ n) → (i < n → SampleAt (whole_sample till) m d r start next i) → SampleAt (whole_sample till) m d r start next i
      go (yes e) f = rw e last
      go (no e) f = f (omega (arith, e))

  -- where every sample of a run is whole the player's test holds
  run_whole : (n : ℕ) → ((i : ℕ) → i < n → SampleAt (whole_sample till) m d r start next i) → samples_fed m d r start next till n ≡ true
  unfolding samples_fed sum_to here inside
  run_whole zero f = refl
  run_whole (suc n) f =
      let w = f n (omega arith) in
      and_from (samples_fed m d r start next till n && here n) (inside n)
      (and_from (samples_fed m d r start next till n) (here n) (run_whole n (λ i l. f i (omega arith)))
      (is_place_lem (start +ℤ pos (sum_to (bytes_of m d r) n)) (next + sum_to (bytes_of m d r) n) w.0))
      (le-leb (next + (sum_to (bytes_of m d r) n + bytes_of m d r n)) till (omega (arith, w.1)))

-- the player's test of runs holds exactly where every sample is whole
pub every_fed : (x : ℕ) (m : List ℕ) (d : Defaults) (before : ℤ) (next till : ℕ) (rs : List ℕ)
    → EverySample (whole_sample till) x m d before next rs → runs_fed x m d before next till rs ≡ true
unfolding runs_fed
every_fed x m d before next till [] h = refl
every_fed x m d before next till (r ∷ rs) h =
    let start = run_start x m before r in
    and_from (samples_fed m d r start next till (count_of m r)) (runs_fed x m d (start +ℤ pos (run_bytes m d r)) (next + run_bytes m d r) till rs)
    (run_whole m d r start next till (count_of m r) h.0)
    (every_fed x m d (start +ℤ pos (run_bytes m d r)) (next + run_bytes m d r) till rs h.1)

pub fed_every : (x : ℕ) (m : List ℕ) (d : Defaults) (before : ℤ) (next till : ℕ) (rs : List ℕ)
    → runs_fed x m d before next till rs ≡ true → EverySample (whole_sample till) x m d before next rs
unfolding runs_fed
fed_every x m d before next till [] h = tt
fed_every x m d before next till (r ∷ rs) h =
    let start = run_start x m before r in
    let first = samples_fed m d r start next till (count_of m r) in
    let rest = runs_fed x m d (start +ℤ pos (run_bytes m d r)) (next + run_bytes m d r) till rs in (
      whole_run m d r start next till (count_of m r) (and_parts first rest h).0,
      fed_every x m d (start +ℤ pos (run_bytes m d r)) (next + run_bytes m d r) till rs (and_parts first rest h).1,
    )

-- what holds of every sample fails of none
clash : (q w : OfSample) → ((place : ℤ) (next size : ℕ) → q place next size → w place next size → ⊥)
    → (x : ℕ) (m : List ℕ) (d : Defaults) (before : ℤ) (next : ℕ) (rs : List ℕ)
    → EverySample q x m d before next rs → SomeSample w x m d before next rs → ⊥
clash q w f x m d before next [] e s = s
clash q w f x m d before next (r ∷ rs) e (inl s) =
    f (run_start x m before r +ℤ pos (sum_to (bytes_of m d r) s.0)) (next + sum_to (bytes_of m d r) s.0) (bytes_of m d r s.0)
    (e.0 s.0 s.1) s.2
clash q w f x m d before next (r ∷ rs) e (inr s) =
    clash q w f x m d (run_start x m before r +ℤ pos (run_bytes m d r)) (next + run_bytes m d r) rs e.1 s

-- where the `mdat` payload of the chunk at x begins, and where the `mdat` ends
abbrev pub payload_at : List ℕ → ℕ → ℕ
payload_at s x = mdat_at s x + head_of s (mdat_at s x)

abbrev pub mdat_end : List ℕ → ℕ → ℕ
mdat_end s x = mdat_at s x + size_of s (mdat_at s x)

-- every sample, and some sample, of the chunk at x of a track: from the first byte of its `mdat` payload
abbrev pub EachOf : OfSample → List ℕ → ℕ → Type 0
EachOf q s x =
    EverySample q x (whole s x) (defaults_in (whole s x) (header_of s).defaults) (pos x) (payload_at s x) (runs_in (whole s x))

abbrev pub SomeOf : OfSample → List ℕ → ℕ → Type 0
SomeOf q s x =
    SomeSample q x (whole s x) (defaults_in (whole s x) (header_of s).defaults) (pos x) (payload_at s x) (runs_in (whole s x))

-- a chunk feeds the player exactly where each of its samples is whole
pub chunk_fed : (s : List ℕ) (x : ℕ) → EachOf (whole_sample (mdat_end s x)) s x → fed_at s (header_of s) x ≡ true
unfolding fed_at
chunk_fed s x h =
    every_fed x (whole s x) (defaults_in (whole s x) (header_of s).defaults) (pos x) (payload_at s x) (mdat_end s x) (runs_in (whole s x)) h

pub samples_whole : (s : List ℕ) (x : ℕ) → fed_at s (header_of s) x ≡ true → EachOf (whole_sample (mdat_end s x)) s x
unfolding fed_at
samples_whole s x h =
    fed_every x (whole s x) (defaults_in (whole s x) (header_of s).defaults) (pos x) (payload_at s x) (mdat_end s x) (runs_in (whole s x)) h

-- samples that are whole, the next byte being behind `from`, lie between it and the data box's end
lying : (from till len : ℕ) → till ≤ len → (x : ℕ) (m : List ℕ) (d : Defaults) (before : ℤ) (next : ℕ) (rs : List ℕ) → from ≤ next
    → EverySample (whole_sample till) x m d before next rs → EverySample (lies from till len) x m d before next rs
lying from till len u x m d before next [] l h = tt
lying from till len u x m d before next (r ∷ rs) l h = (
  λ i j. let w = h.0 i j in (next + sum_to (bytes_of m d r) i, w.0, omega (arith, l), w.1, u),
  lying from till len u x m d (run_start x m before r +ℤ pos (run_bytes m d r)) (next + run_bytes m d r) rs (omega (arith, l)) h.1,
)

pub samples_lie : (s : List ℕ) (x : ℕ) → mdat_end s x ≤ length s → EachOf (whole_sample (mdat_end s x)) s x
    → EachOf (lies (payload_at s x) (mdat_end s x) (length s)) s x
samples_lie s x u h =
    lying (payload_at s x) (mdat_end s x) (length s) u x (whole s x) (defaults_in (whole s x) (header_of s).defaults) (pos x) (payload_at s x)
    (runs_in (whole s x)) (omega arith) h

-- a sample that is not whole leaves the player unfed
pub unfed : (w : OfSample) (s : List ℕ) (x : ℕ)
    → ((place : ℤ) (next size : ℕ) → whole_sample (mdat_end s x) place next size → w place next size → ⊥)
    → SomeOf w s x → fed_at s (header_of s) x ≡ false
unfed w s x f h = go (fed_at s (header_of s) x) refl
  where
    go : (t : Bool) → fed_at s (header_of s) x ≡ t → t ≡ false
    go false e = refl
    go true e =
        absurd (clash (whole_sample (mdat_end s x)) w f x (whole s x) (defaults_in (whole s x) (header_of s).defaults) (pos x) (payload_at s x)
        (runs_in (whole s x)) (samples_whole s x e) h)
