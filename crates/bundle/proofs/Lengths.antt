-- Laws of a bundle's length: what the lengths of its tracks say of it, track by track, and that within the limit it breaks neither 1 nor 24.
use Prim.Native.Nat.{ℕ, zero, suc, ◌+◌, ◌≤◌, ◌<◌}
use mathlib.Core.Path.{◌≡◌, refl}
use mathlib.Core.List.{List, [], ◌∷◌, ◌++◌, map}
use native.Mathlib.Numerals.{add-one}
use native.Mathlib.Omega.{arith}
use lib.ListN.{length, take, set, get_or, length-append}
use lib.Seq.{take-suc, take-suc-set}
use borrow.Author.Tests.{le-leb}
use Rattle.rules.specs.Limits.{byte_limit}
use Rattle.rules.specs.Track.{rule1}
use Rattle.rules.specs.Bundle.{rule24, tracks}
use Rattle.std.specs.Prelude.{Ok}
use Rattle.rules.proofs.Then.{must_true}
use Rattle.bundle.specs.Front.{record_of, bundle_of, LengthsFit, bundle_length}
use Rattle.bundle.proofs.Written.{packed, unpacked}

-- one track more at the end
more : (ns : List ℕ) (n : ℕ) → bundle_length (ns ++ (n ∷ [])) ≡ bundle_length ns + 6 + n
unfolding bundle_length
more [] n = omega arith
more (m ∷ ns) n = omega (arith, more ns n)

-- the next length, where it stands and where it is stored
pub next_length : (ns : List ℕ) (k : ℕ) → k < length ns → bundle_length (take (k + 1) ns) ≡ bundle_length (take k ns) + 6 + get_or ns k 0
next_length ns k h = rw (add-one k, take-suc ns k 0 h) (more (take k ns) (get_or ns k 0))

pub stored_length : (ns : List ℕ) (k n : ℕ) → k < length ns → bundle_length (take (k + 1) (set ns k n)) ≡ bundle_length (take k ns) + 6 + n
stored_length ns k n h = rw (add-one k, take-suc-set ns k n h) (more (take k ns) n)

-- fewer tracks are no longer
pub fewer : (ns : List ℕ) (k m : ℕ) → k ≤ m → bundle_length (take k ns) ≤ bundle_length (take m ns)
unfolding bundle_length
fewer [] zero zero h = omega arith
fewer [] zero (suc m) h = omega arith
fewer [] (suc k) zero h = absurd (omega arith)
fewer [] (suc k) (suc m) h = omega arith
fewer (n ∷ ns) zero m h = omega arith
fewer (n ∷ ns) (suc k) zero h = absurd (omega arith)
fewer (n ∷ ns) (suc k) (suc m) h = omega (arith, fewer ns k m (omega arith))

-- a bundle is as long as its tracks' lengths say
pub bundle_length_lem : (ss : List (List ℕ)) → length (bundle_of ss) ≡ bundle_length (map length ss)
unfolding bundle_of bundle_length
bundle_length_lem [] = refl
bundle_length_lem (s ∷ ss) = omega (arith, length-append (record_of s) (bundle_of ss), bundle_length_lem ss)

-- within the limit each length fits in four bytes
each_fits : (ss : List (List ℕ)) → bundle_length (map length ss) ≤ byte_limit → LengthsFit ss
unfolding bundle_length
each_fits [] h = tt
each_fits (s ∷ ss) h = (omega arith, each_fits ss (omega arith))

-- 1 to 16 tracks whose lengths are within the limit: their bundle breaks neither 1 nor 24, and its tracks are those
pub bundled : (ss : List (List ℕ)) → 0 < length ss → length ss ≤ 16 → bundle_length (map length ss) ≤ byte_limit
    → (rule1 (length (bundle_of ss)) ≡ Ok tt) × (rule24 (bundle_of ss) ≡ Ok tt) × (tracks (bundle_of ss) ≡ ss)
unfolding rule1
bundled ss some few h = (
  must_true 1 0 (le-leb (length (bundle_of ss)) byte_limit (omega (arith, bundle_length_lem ss))),
  packed ss some few (each_fits ss h),
  unpacked ss few (each_fits ss h),
)
