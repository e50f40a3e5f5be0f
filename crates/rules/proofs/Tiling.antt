-- Rule 22 and the player: where sample bytes tile the data box, each sample's bytes are the next bytes inside it.
use mathlib.Core.Path.{◌≡◌, sym, ap, ◌∙◌}
use mathlib.Core.Bool.{Bool, true, false, not, true≢false}
use mathlib.Core.List.{List, [], ◌∷◌}
use Prim.Native.Nat.{ℕ, zero, suc, ◌+◌, ◌-◌, ◌≤◌, ◌<◌}
use native.Mathlib.Nat.{not-suc-le-zero}
use native.Mathlib.Decide.{ℕ_discrete}
use native.Mathlib.Omega.{arith}
use lib.ListN.{length}
use lib.Dec.{eqb}
use lib.IntN.{ℤ, pos, ◌+ℤ◌}
use borrow.Author.Tests.{eqb-true}
use Rattle.numbers.specs.Numbers.{has, signed, is_place, when}
use Rattle.rules.specs.Rules.{must}
use Rattle.rules.specs.Boxes.{head_of, size_of, whole}
use Rattle.rules.specs.Fields.{field, box_flags}
use Rattle.rules.specs.Chunk.{count_of, bytes_of, sum_to, run_bytes, bytes_in, runs_in, defaults_in, offset_is, placed, rule22runs, rule22}
use Rattle.rules.specs.Track.{mdat_at}
use Rattle.rules.specs.Player.{run_start, fed_at}
use Rattle.std.specs.Prelude.{Ok}
use Rattle.rules.specs.declared.Defaults.{Defaults}
use Rattle.rules.specs.declared.Header.{Header}
use Rattle.std.proofs.lemmas.Bool.{not-true}
use Rattle.rules.proofs.Then.{then_first, then_second, must_holds}
use Rattle.rules.proofs.Walk.{DataBox}
use Rattle.rules.proofs.Samples.{place_is, EverySample, whole_sample, every_fed}

-- a sample's size is among its run's sizes
sum_below : (q : ℕ → ℕ) (i n : ℕ) → i < n → sum_to q i + q i ≤ sum_to q n
unfolding sum_to
sum_below q i zero l = absurd (not-suc-le-zero l)
sum_below q i (suc n) l = go (ℕ_discrete i n) (sum_below q i n)
  where
    go : Dec (i ≡ n) → (i < n → sum_to q i + q i ≤ sum_to q n) → sum_to q i + q i ≤ sum_to q n + q n
    go (yes e) f = rw e (omega arith)
    go (no e) f = let h = f (omega (arith, e)) in omega (arith, h)

-- a run that rule 22 places begins at the next byte
run_start_lem : (x : ℕ) (m : List ℕ) (first : Bool) (e : ℕ) (before : ℤ) (r : ℕ) → placed first m r e ≡ true
    → (first ≡ false → before ≡ pos (x + e)) → run_start x m before r ≡ pos (x + e)
unfolding placed offset_is run_start
run_start_lem x m first e before r p b = go (has (box_flags m r) 0x1) p
  where
    go : (t : Bool) → when t (is_place (signed (field m r 8)) e) (not first) ≡ true
        → when t (pos x +ℤ signed (field m r 8)) before ≡ pos (x + e)
    go true q = ap (λ (z : ℤ). pos x +ℤ z) (place_is (signed (field m r 8)) e q)
    go false q = b (not-true first q)

-- runs that rule 22 places, whose sizes end inside the data box: every sample is whole
tiled_samples : (x : ℕ) (m : List ℕ) (d : Defaults) (first : Bool) (e : ℕ) (before : ℤ) (next till : ℕ) (rs : List ℕ)
    → rule22runs m d first e rs ≡ Ok tt → next ≡ x + e → (first ≡ false → before ≡ pos (x + e))
    → next + bytes_in m d rs ≤ till → EverySample (whole_sample till) x m d before next rs
unfolding rule22runs bytes_in run_bytes
tiled_samples x m d first e before next till [] h n b i = tt
tiled_samples x m d first e before next till (r ∷ rs) h n b i = (
  λ j l. (
    ap (λ (z : ℤ). z +ℤ pos (sum_to (bytes_of m d r) j)) start,
    omega (arith, i, sum_below (bytes_of m d r) j (count_of m r) l),
  ),
  tiled_samples x m d false (e + run_bytes m d r) (run_start x m before r +ℤ pos (run_bytes m d r)) (next + run_bytes m d r) till rs
      (then_second (must (placed first m r e) 22 r) (rule22runs m d false (e + run_bytes m d r) rs) h)
      (omega arith)
      (λ _. ap (λ (z : ℤ). z +ℤ pos (run_bytes m d r)) start ∙ ap pos (omega arith))
      (omega arith),
)
  where
    start : run_start x m before r ≡ pos next
    start =
        run_start_lem x m first e before r
        (must_holds (placed first m r e) 22 r
        (then_first (must (placed first m r e) 22 r) (rule22runs m d false (e + run_bytes m d r) rs) h))
        b
        ∙ ap pos (sym n)

-- a chunk that rule 22 accepts feeds the player
pub fed_at_lem : (s : List ℕ) (h : Header) (x : ℕ)
    → rule22 (whole s x) h.defaults (head_of s (mdat_at s x)) (size_of s (mdat_at s x) - head_of s (mdat_at s x)) ≡ Ok tt
    → DataBox s x → fed_at s h x ≡ true
unfolding fed_at rule22 mdat_at
fed_at_lem s h x r b =
    let m = whole s x in
    let d = defaults_in m h.defaults in
    let head = head_of s (mdat_at s x) in
    let size = size_of s (mdat_at s x) in
    let first = rule22runs m d true (length m + head) (runs_in m) in
    let last = must (eqb (bytes_in m d (runs_in m)) (size - head)) 22 (length m) in
    let sum : bytes_in m d (runs_in m) ≡ size - head =
    eqb-true (bytes_in m d (runs_in m)) (size - head)
    (must_holds (eqb (bytes_in m d (runs_in m)) (size - head)) 22 (length m) (then_second first last r)) in
    every_fed x m d (pos x) (mdat_at s x + head) (mdat_at s x + size) (runs_in m)
    (tiled_samples x m d true (length m + head) (pos x) (mdat_at s x + head) (mdat_at s x + size) (runs_in m) (then_first first last r)
    (omega arith) (λ e. absurd (true≢false e)) (omega (arith, sum, b.1)))
