-- Laws of the records: one record more, and where they end.
use mathlib.Core.Path.{◌≡◌, refl, sym, ap, ◌∙◌}
use mathlib.Core.List.{List}
use mathlib.Core.Bool.{Bool}
use Prim.Native.Nat.{ℕ, zero, suc, ◌+◌, ◌-◌, ◌≤◌, ◌<◌}
use native.Mathlib.Omega.{arith}
use lib.ListN.{length}
use lib.Dec.{ltb, eqb-suc-zero}
use borrow.Author.Tests.{lt-ltb, le-ltb}
use Rattle.numbers.specs.Numbers.{when}
use Rattle.rules.specs.Limits.{record_limit}
use Rattle.rules.specs.Bundle.{record_at, on_mark, Records, none, wrong, track, records_from, records, rule24_from, rule24, tracks_of, tracks}
use Rattle.rules.specs.declared.Mark.{Mark}
use Rattle.rules.specs.declared.Mark.TheVariants.{Nothing, Wrong, Track}
use Rattle.rules.specs.Rules.{breaks}
use Rattle.std.specs.Prelude.{Result, Ok}
use Rattle.bundle.specs.declared.BadRecord.{BadRecord}
use Rattle.bundle.specs.Says.{SaysBundle, ended_of}

-- the records from a place on, where `left` more may come
pub records_by : (left : ℕ) (b : List ℕ) (at : ℕ) (r : Mark) → record_at b at ≡ r
    → records_from (suc left) b at ≡ on_mark r none (wrong at) (λ n. track (at + 6) n (records_from left b (at + 6 + n)))
unfolding records_from
records_by left b at r e = ap (λ (x : Mark). on_mark x none (wrong at) (λ n. track (at + 6) n (records_from left b (at + 6 + n)))) e

-- one of the records that may come
left_suc : (k : ℕ) → k < record_limit → record_limit - k ≡ suc (record_limit - (k + 1))
left_suc k h = omega arith

-- what stands at a place decides, while records may come
pub here : (b : List ℕ) (at k : ℕ) → k < record_limit → {r : Mark} → r ≡ record_at b at
    → records_from (record_limit - k) b at ≡ on_mark r none (wrong at) (λ n. track (at + 6) n (records_from (record_limit - (k + 1)) b (at + 6 + n)))
here b at k h {r} e = ap (λ (l : ℕ). records_from l b at) (left_suc k h) ∙ records_by (record_limit - (k + 1)) b at r (sym e)

-- no more records may come
pub full : (b : List ℕ) (at k : ℕ) → record_limit ≤ k → records_from (record_limit - k) b at ≡ when (ltb at (length b)) (wrong at) none
unfolding records_from
full b at k h = ap (λ (l : ℕ). records_from l b at) (let z : record_limit - k ≡ 0 = omega arith in z)

-- k records were good, and the bundle comes to what is left from `at` on
pub record RecordsTo (b : List ℕ) (at k : ℕ) : Type 0 where
  pub rule : rule24 b ≡ rule24_from k (records_from (record_limit - k) b at)
  pub count : length (tracks b) ≡ k + length (tracks_of b (records_from (record_limit - k) b at))
  pub few : k ≤ record_limit
  pub inner : at ≤ length b

pub going_begins : (b : List ℕ) → RecordsTo b 0 0
unfolding rule24 tracks records
going_begins b = record { rule = refl; count = omega arith; few = omega arith; inner = omega arith }

-- k records and no bytes after them
ended_says : (b : List ℕ) (k : ℕ) → rule24 b ≡ rule24_from k none → length (tracks b) ≡ k → SaysBundle (ended_of k) b
unfolding ended_of rule24_from
ended_says b zero e f = (e, sym f)
ended_says b (suc k) e f =
    rw (eqb-suc-zero k) (e ∙ ap (λ (t : Bool). when t (breaks 24 0 0) (Ok tt)) (eqb-suc-zero k), sym f, omega arith)

module _ (b : List ℕ) {at k : ℕ} (g : RecordsTo b at k) where
  module _ (h : k < record_limit) where
    pub going_on : {n : ℕ} {r : Mark} → r ≡ record_at b at → r ≡ Track n → at + 6 + n ≤ length b → RecordsTo b (at + 6 + n) (k + 1)
    unfolding rule24_from tracks_of
    going_on {n} e f i =
        record {
          rule = g.rule ∙ ap (rule24_from k) (here b at k h (sym f ∙ e));
          count = omega (arith, g.count, ap (λ (x : Records). length (tracks_of b x)) (here b at k h (sym f ∙ e)));
          few = omega arith;
          inner = i;
        }

    pub going_wrong : {r : Mark} → r ≡ record_at b at → r ≡ Wrong → (rule24 b ≡ breaks 24 k at) × (k ≡ length (tracks b))
    unfolding rule24_from tracks_of
    going_wrong e f =
        (g.rule ∙ ap (rule24_from k) (here b at k h (sym f ∙ e)), omega (arith, g.count, ap (λ (x : Records). length (tracks_of b x)) (here b at k h (sym f ∙ e))))

    pub going_nothing : {r : Mark} → r ≡ record_at b at → r ≡ Nothing → records_from (record_limit - k) b at ≡ none
    going_nothing e f = here b at k h (sym f ∙ e)

  module _ (h : record_limit ≤ k) where
    more : at < length b → records_from (record_limit - k) b at ≡ wrong at
    more i = full b at k h ∙ ap (λ (t : Bool). when t (wrong at) none) (lt-ltb at (length b) i)

    pub going_more : at < length b → (rule24 b ≡ breaks 24 k at) × (k ≡ length (tracks b))
    unfolding rule24_from tracks_of
    going_more i =
        (g.rule ∙ ap (rule24_from k) (more i), omega (arith, g.count, ap (λ (x : Records). length (tracks_of b x)) (more i)))

    pub going_full : length b ≤ at → records_from (record_limit - k) b at ≡ none
    going_full i = full b at k h ∙ ap (λ (t : Bool). when t (wrong at) none) (le-ltb at (length b) i)

  -- no bytes are left
  pub going_ended : {r : Result ℕ BadRecord} → r ≡ ended_of k → records_from (record_limit - k) b at ≡ none → SaysBundle r b
  unfolding rule24_from tracks_of
  going_ended {r} e n =
      rw e (ended_says b k (g.rule ∙ ap (rule24_from k) n) (omega (arith, g.count, ap (λ (x : Records). length (tracks_of b x)) n)))
