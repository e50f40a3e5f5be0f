-- Laws of the walk over the runs: one run more, and the runs in a front of the `moof` box by box.
use Rattle.std.proofs.Common.{◌≡◌, ℕ, ◌+◌, ◌<◌, ◌≤◌, Bool, true, false, eqb, leb, List, [], ◌∷◌, length, sym, refl, ap, ◌∙◌, subst, mul-le-mul_left, mul-zero, mul-suc, arith, eq-eqb, ne_eqb, eqb-true, leb-false, leb-true}
use borrow.Author.Tests.{eqb-false}
use Rattle.numbers.specs.Numbers.{when}
use Rattle.rules.specs.Kinds.{trun}
use Rattle.rules.specs.Limits.{sample_limit}
use Rattle.rules.specs.Boxes.{boxes}
use Rattle.rules.specs.Rules.{◌then◌, must, PlacedUpTo, Rule, breaks}
use Rattle.rules.specs.Fields.{box_flags, body}
use Rattle.rules.specs.Chunk.{run_head, stride, count_of, run_form, rule15runs, not_both, rule16runs, samples_of, run_bytes, durations_of, bytes_in, first_flags_of, first_flags, is_sync, rule22runs}
use Rattle.std.specs.Prelude.{Ok}
use Rattle.rules.specs.declared.Defaults.{Defaults}
use Rattle.rules.specs.declared.Spot.{Spot}
use Rattle.rules.proofs.Forest.{places_end}
use Rattle.rules.proofs.Then.{then_holds, then_breaks, then_assoc, then_first}
use Rattle.rules.proofs.Untracked.{then_is, must_is}
use Rattle.boxes.specs.Siblings.{FirstOf}
use Rattle.boxes.specs.declared.Sibling.{Sibling}
use Rattle.boxes.proofs.Walks.{first_hit, first_miss}
use Rattle.runs.specs.Trun.{FilledRun}
use Rattle.runs.specs.Runs.{runs_at, Due, SaysDue, AndSamples, SpansAll, PassedRuns, Walked}
use Rattle.runs.specs.declared.Span.{Span}
use Rattle.runs.specs.declared.Totals.{Totals}

-- sums are asked for where the samples are few
pub due_by : (want : Bool) (clash : Rule) (samples : ℕ) → want ≡ true → clash ≡ Ok tt → SaysDue (leb samples sample_limit) want clash samples
due_by want clash samples w h =
    let by : (t : Bool) → leb samples sample_limit ≡ t → SaysDue t want clash samples
    = elim [
      | true ↦ λ y. (w, h, leb-true samples sample_limit y)
      | false ↦ λ y d. omega (arith, d.2, leb-false samples sample_limit y)
    ] in
    by (leb samples sample_limit) refl

-- a run that is filled and has a sample: the first's fields stand in the run
module _ (m : List ℕ) (r : Spot) (f n : ℕ) (p : FilledRun m r f n) where
  pub one_inside : (n ≡ 0 → ⊥) → r.head + run_head f + stride f ≤ r.size
  one_inside some =
      let h : 0 < n = omega (arith, some) in
      omega (arith, p.fills, mul-suc (stride f) 0, mul-zero (stride f), mul-le-mul_left (stride f) h)

-- the first sample after a run more
first_on :
    (s n : ℕ) (x next : Bool) (here rest : ℕ) → next ≡ when (eqb s 0) (when (eqb n 0) x (is_sync here)) x →
    when (eqb s 0) (is_sync (when (eqb n 0) rest here)) x ≡ when (eqb (s + n) 0) (is_sync rest) next
first_on s n x next here rest e =
    let by : (t u : Bool) → eqb s 0 ≡ t → eqb n 0 ≡ u →
    when (eqb s 0) (is_sync (when (eqb n 0) rest here)) x ≡ when (eqb (s + n) 0) (is_sync rest) next
    = elim [
      | true ↦ elim [
        | true ↦ λ y z. rw (y, z, eq-eqb (s + n) 0 (omega (arith, eqb-true s 0 y, eqb-true n 0 z)))
        | false ↦ λ y z. rw (e, y, z, ne_eqb (s + n) 0 (λ o. eqb-false n 0 z (omega (arith, o))))
      ]
      | false ↦ λ u y z. rw (e, y, ne_eqb (s + n) 0 (λ o. eqb-false s 0 y (omega (arith, o))))
    ] in
    by (eqb s 0) (eqb n 0) refl refl

-- sums that are asked for after a run were before
pub due_before_run :
    (want : Bool) (t : Totals) (clash q : Rule) (n : ℕ) → clash ≡ (t.clash then q) → Due want clash (t.samples + n) → Due want t.clash t.samples
due_before_run want t clash q n told due = (due.0, then_first t.clash q (sym told ∙ due.1), omega (arith, due.2))

-- before the first run
pub walked_none :
    (m : List ℕ) (want : Bool) (d : Defaults) (from : ℕ) (all : List ℕ) →
    Walked m want d from all all (record { clash = Ok tt; samples = 0; span = record { ticks = 0; bytes = 0; lead = true; sync = true; tiled = Ok tt } })
walked_none m want d from all =
    record {
      passed = record { sized = refl; clash = sym (then_holds _ refl); samples = omega arith; place = tt };
      sums = λ e.
          record {
            ticks = omega arith;
            bytes = omega arith;
            sync = refl;
            tiled = sym (then_holds _ refl ∙ ap (λ (p : ℕ). rule22runs m d true p all) (omega arith));
            small = (omega arith, omega arith);
            place = tt;
          };
    }

-- a rule at a place up to n, then a test there
placed_then : (n : ℕ) (r : Rule) (t : Bool) (k p : ℕ) → PlacedUpTo n r → p ≤ n → PlacedUpTo n (r then must t k p)
placed_then n r t k p h l = then_is (PlacedUpTo n) r (must t k p) h (must_is (PlacedUpTo n) t k p tt l)

-- past the next run, which has its form
module _ (m : List ℕ) (want : Bool) (d : Defaults) (from : ℕ) (all : List ℕ) (r : ℕ) (rest : List ℕ) (t : Totals)
    (w : Walked m want d from all (r ∷ rest) t) (right : body 15 (run_form m r) m r ≡ Ok tt) (low : r ≤ length m)
    (f n : ℕ) (flags : f ≡ box_flags m r) (count : n ≡ count_of m r)
    (ok : Bool) (tested : ok ≡ not_both f) (clash : Rule) (told : clash ≡ (t.clash then must ok 16 r)) where
  passed_on : (b : Span) → PassedRuns m all rest (record { clash = clash; samples = t.samples + n; span = b })
  unfolding rule15runs rule16runs samples_of
  passed_on b =
      record {
        sized = w.passed.sized ∙ then_holds _ right;
        clash = w.passed.clash ∙ rw (told, tested, flags) (sym (then_assoc t.clash _ (rule16runs m rest)));
        samples = omega (arith, w.passed.samples, count);
        place = rw told (placed_then (length m) t.clash ok 16 r w.passed.place low);
      }

  -- where sums are not asked for, whatever stands for what the samples span
  pub walked_out : (b : Span) → (Due want clash (t.samples + n) → ⊥) → Walked m want d from all rest (record { clash = clash; samples = t.samples + n; span = b })
  walked_out b idle = record { passed = passed_on b; sums = λ e. absurd (idle e) }

  -- where they are
  module _ (due : Due want clash (t.samples + n)) (b : Span) (s : AndSamples m d from t.samples r n t.span b) where
    spans_on : SpansAll m d from all rest (t.samples + n) b
    unfolding durations_of bytes_in first_flags rule22runs
    spans_on =
        let a = w.sums (due_before_run want t clash (must ok 16 r) n told due) in
        let place : from + t.span.bytes + run_bytes m d r ≡ from + b.bytes = omega (arith, s.bytes) in
        record {
          ticks = omega (arith, a.ticks, s.ticks);
          bytes = omega (arith, a.bytes, s.bytes);
          sync = a.sync ∙ rw (← count) (first_on t.samples n t.span.sync b.sync (first_flags_of m d r) (first_flags m d rest) s.sync);
          tiled = a.tiled ∙ rw (place, s.tiled, s.lead) (sym (then_assoc t.span.tiled _ _));
          small = s.small;
          place = rw s.tiled (placed_then (length m) t.span.tiled _ 22 r a.place low);
        }

    pub walked_in : Walked m want d from all rest (record { clash = clash; samples = t.samples + n; span = b })
    walked_in = record { passed = passed_on b; sums = λ e. spans_on }

-- the runs from a place on, by the boxes from there on
module _ (s : List ℕ) (at : ℕ) where
  pub runs_over : boxes s at ≡ [] → runs_at s at ≡ []
  unfolding runs_at
  runs_over o = places_end s at trun o

  module _ {q : ℕ} {b : Sibling} (f : FirstOf s at q b) where
    pub runs_next : b.kind ≡ trun → runs_at s at ≡ b.spot.at ∷ runs_at s q
    unfolding runs_at
    runs_next e = first_hit f e

    pub runs_same : (b.kind ≡ trun → ⊥) → runs_at s at ≡ runs_at s q
    unfolding runs_at
    runs_same n = first_miss f n

-- all runs passed, a box passed that is no run, and a run that has another form
module _ (m : List ℕ) (want : Bool) (d : Defaults) (from : ℕ) (all left : List ℕ) (t : Totals) (w : Walked m want d from all left t) where
  pub walked_same : (rest : List ℕ) → left ≡ rest → Walked m want d from all rest t
  walked_same rest e = subst (λ (rs : List ℕ). Walked m want d from all rs t) e w

  pub walked_wrong : (r : ℕ) (rest : List ℕ) → left ≡ r ∷ rest → body 15 (run_form m r) m r ≡ breaks 15 0 r → rule15runs m all ≡ breaks 15 0 r
  unfolding rule15runs
  walked_wrong r rest e wrong = w.passed.sized ∙ ap (rule15runs m) e ∙ then_breaks _ wrong
