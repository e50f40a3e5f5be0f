-- Laws of the stages: where a rule breaks, the first that does, and what is left where those before hold.
use mathlib.Core.Path.{◌≡◌, sym, ap, subst, ◌∙◌}
use mathlib.Core.List.{List, []}
use mathlib.Core.Bool.{Bool, true, ◌&&◌}
use Prim.Native.Nat.{ℕ, ◌+◌, ◌*◌, ◌≤◌}
use native.Mathlib.Omega.{arith}
use lib.ListN.{length}
use lib.Dec.{leb, eqb}
use borrow.Author.Tests.{leb-true, ne_eqb}
use Rattle.numbers.specs.Numbers.{when}
use Rattle.rules.specs.Limits.{sample_limit}
use Rattle.rules.specs.Rules.{◌then◌, must, PlacedUpTo, Rule}
use Rattle.rules.specs.Counts.{counts}
use Rattle.rules.specs.Chunk.{entries_in_moof, entries_in_traf, traf_in, runs_in, rule14, rule15, rule15runs, rule16runs, rule16, flagged, rule17, samples_of, few, rule18, shape}
use Rattle.rules.specs.Chunk.{durations_of, bytes_in, first_flags, duration_in, end_of, is_sync, sync_in, opens, follows, lasts}
use Rattle.rules.specs.Chunk.{rule19, rule20, rule21, rule22runs, rule22, timing}
use Rattle.rules.specs.declared.Entry.{Entry}
use Rattle.std.specs.Prelude.{Option, Result, Ok, Err}
use Rattle.rules.specs.declared.Refusal.{Refusal}
use Rattle.rules.specs.declared.Defaults.{Defaults}
use Rattle.rules.specs.declared.Spot.{Spot}
use Rattle.std.proofs.lemmas.Bool.{and_parts}
use Rattle.rules.proofs.Then.{then_holds, then_breaks, then_last, then_assoc, then_first, then_second, must_holds}
use Rattle.rules.proofs.Untracked.{Untracked, then_is, must_is, counts_untracked, before_sums_untracked, of_sums_untracked}
use Rattle.boxes.specs.Stands.{Stands}
use Rattle.chunk.specs.Bodies.{MoofIn, BodyIn}
use Rattle.runs.specs.Runs.{Due, SpansAll, PassedRuns}
use Rattle.chunk.specs.Answers.{says, SaysChunk}
use Rattle.chunk.specs.declared.Interval.{Interval}
use Rattle.chunk.specs.declared.around.Setting.{Setting}
use Rattle.chunk.specs.declared.bodies.BodyValues.{BodyValues}
use Rattle.chunk.specs.declared.bodies.InMoof.{InMoof}
use Rattle.runs.specs.declared.Span.{Span}
use Rattle.runs.specs.declared.Totals.{Totals}

-- past a rule that breaks
stops : {r : Rule} (q : Rule) {e : Refusal} → r ≡ Err e → (r then q) ≡ Err e
stops q {e = e} is = then_breaks q {n = e.number} {t = e.track} {p = e.place} is

-- a rule that breaks, breaks on track 0, at a place in the `moof` or at its end
abbrev pub Own : List ℕ → Refusal → Type 0
Own m e = (e.track ≡ 0) × (e.place ≤ length m)

owned : (m : List ℕ) {r : Rule} {e : Refusal} → Untracked r → PlacedUpTo (length m) r → r ≡ Err e → Own m e
owned m u low is = (subst Untracked is u, subst (PlacedUpTo (length m)) is low)

-- counts that break
pub counts_break :
    (n : ℕ) (m : List ℕ) (at : ℕ) (es : List Entry) (r : Rule) {e : Refusal} → r ≡ counts n m at es → PlacedUpTo (length m) r → r ≡ Err e →
    (counts n m at es ≡ Err e) × Own m e
counts_break n m at es r is low b = (sym is ∙ b, owned m {r = r} (rw is (counts_untracked n m at es)) low b)

module _ (m : List ℕ) (s : Setting) {e : Refusal} where
  pub broken_moof : (counts 14 m 0 entries_in_moof ≡ Err e) × Own m e → SaysChunk (Err e) m s
  unfolding shape rule14
  broken_moof b = (stops _ (stops _ (stops _ b.0)), b.1.0, b.1.1)

  pub broken_traf : counts 14 m 0 entries_in_moof ≡ Ok tt → (counts 14 m (traf_in m) entries_in_traf ≡ Err e) × Own m e → SaysChunk (Err e) m s
  unfolding shape rule14
  broken_traf o b = (stops _ (stops _ (then_holds _ o ∙ b.0)), b.1.0, b.1.1)

  pub broken_15 : rule14 m ≡ Ok tt → rule15 m ≡ Err e → Own m e → SaysChunk (Err e) m s
  unfolding shape
  broken_15 o b l = (stops _ (then_holds _ o ∙ stops _ b), l.0, l.1)

pub right_14 : (m : List ℕ) → counts 14 m 0 entries_in_moof ≡ Ok tt → counts 14 m (traf_in m) entries_in_traf ≡ Ok tt → rule14 m ≡ Ok tt
unfolding rule14
right_14 m a b = then_holds _ a ∙ b

-- a test at a box that stands in the `moof`, and one before other rules
module _ {m : List ℕ} {b : Spot} (st : Stands m b) (t : Bool) (k : ℕ) where
  last : PlacedUpTo (length m) (must t k b.at)
  last = must_is (PlacedUpTo (length m)) t k b.at tt (omega (arith, st.fits))

  next : (q : Rule) → PlacedUpTo (length m) q → PlacedUpTo (length m) (must t k b.at then q)
  next q l = then_is (PlacedUpTo (length m)) _ q last l

-- rules 16 to 19 over what was read
module _ (m : List ℕ) (d : Defaults) (x : InMoof) (k : BodyValues) (t : Totals)
    (found : MoofIn m x) (told : BodyIn m d k) (passed : PassedRuns m (runs_in m) [] t) where
  clash_is : t.clash ≡ rule16runs m (runs_in m)
  unfolding rule16runs
  clash_is = sym (passed.clash ∙ then_last t.clash)

  samples_is : t.samples ≡ samples_of m (runs_in m)
  unfolding samples_of
  samples_is = omega (arith, passed.samples)

  module _ (id : ℕ) (prev : Option ℕ) where
    pub before_sums :
        ((((must (flagged k.flags) 16 x.tfhd.at then t.clash) then must (eqb k.id id) 17 x.tfhd.at)
        then must (few t.samples) 18 x.traf.at) then must (follows prev k.start) 19 x.tfdt.at)
        ≡ (rule16 m then rule17 m id then rule18 m then rule19 m prev)
    unfolding rule16 rule17 rule18 rule19
    before_sums =
        rw (told.flags, told.id, told.start, clash_is, samples_is, found.tfhd.place, found.traf.place, found.tfdt.place) (simp then_assoc)

    pub before_sums_placed :
        PlacedUpTo (length m)
        ((((must (flagged k.flags) 16 x.tfhd.at then t.clash) then must (eqb k.id id) 17 x.tfhd.at)
        then must (few t.samples) 18 x.traf.at) then must (follows prev k.start) 19 x.tfdt.at)
    before_sums_placed =
        and_then _ _
        (and_then _ _ (and_then _ _ (next found.tfhd.stands _ 16 _ passed.place) (last found.tfhd.stands _ 17)) (last found.traf.stands _ 18))
        (last found.tfdt.stands _ 19)
      where
        and_then : (r q : Rule) → PlacedUpTo (length m) r → PlacedUpTo (length m) q → PlacedUpTo (length m) (r then q)
        and_then = then_is (PlacedUpTo (length m))

    -- where they hold, the sums were asked for
    module _ (want : Bool) (worth : want ≡ (flagged k.flags && eqb k.id id && follows prev k.start))
        (good : (rule16 m then rule17 m id then rule18 m then rule19 m prev) ≡ Ok tt) where
      pub few_samples : few t.samples ≡ true
      unfolding rule18
      few_samples = rw samples_is (must_holds _ 18 _ (then_first _ _ (then_second _ _ (then_second _ _ good))))

      pub sums_due : Due want t.clash t.samples
      unfolding rule16 rule17 rule19
      sums_due =
          let first = then_first _ _ good in (
            worth
                ∙ rw (
                  told.flags,
                  told.id,
                  told.start,
                  must_holds _ 16 _ (then_first _ _ first),
                  must_holds _ 17 _ (then_first _ _ (then_second _ _ good)),
                  must_holds _ 19 _ (then_second _ _ (then_second _ _ (then_second _ _ good))),
                ),
            clash_is ∙ then_second _ _ first,
            leb-true t.samples sample_limit (and_parts (leb 1 t.samples) _ few_samples).1,
          )

-- rules 20 to 22 over what was read and the samples span
module _ (m : List ℕ) (d : Defaults) (x : InMoof) (k : BodyValues) (n : ℕ) (a : Span) (head : ℕ)
    (found : MoofIn m x) (told : BodyIn m d k) (right : few n ≡ true)
    (s : SpansAll m k.own (length m + head) (runs_in m) [] n a) where
  some : 1 ≤ n
  some = leb-true 1 n (and_parts _ (leb n sample_limit) right).0

  pub ticks_low : a.ticks ≤ 4294967295 * sample_limit
  ticks_low = omega (arith, s.small.0, leb-true n sample_limit (and_parts (leb 1 n) _ right).1)

  ticks_are : duration_in m d ≡ a.ticks
  unfolding duration_in durations_of
  ticks_are = rw (← told.own) (omega (arith, s.ticks))

  bytes_are : bytes_in m k.own (runs_in m) ≡ a.bytes
  unfolding bytes_in
  bytes_are = omega (arith, s.bytes)

  sync_is : is_sync (first_flags m k.own (runs_in m)) ≡ a.sync
  sync_is = s.sync ∙ ap (λ (b : Bool). when b (is_sync (first_flags m k.own [])) a.sync) (ne_eqb n 0 (λ e. omega (arith, e, some)))

  tiled_is : rule22runs m k.own true (length m + head) (runs_in m) ≡ a.tiled
  unfolding rule22runs
  tiled_is = s.tiled ∙ then_last a.tiled

  -- 20, and the end
  pub lasts_is : rule20 m d ≡ must (lasts k.start a.ticks) 20 x.run.at
  unfolding rule20
  lasts_is = rw (ticks_are, ← told.start, found.run.place)

  pub end_is : {e : ℕ} → e ≡ k.start + a.ticks → e ≡ end_of m d
  unfolding end_of
  end_is e = e ∙ rw (← told.start, ticks_are)

  -- whether the first sample is sync
  pub opens_on : a.sync ≡ sync_in m d
  unfolding sync_in
  opens_on = rw (← told.own) (sym sync_is)

  -- 21 and 22
  module _ (payload : ℕ) (prev : Option ℕ) (rule : Rule)
      (is : rule ≡ ((must (opens prev a.sync) 21 x.run.at then a.tiled) then must (eqb a.bytes payload) 22 (length m))) where
    pub rest_is : rule ≡ (rule21 m d prev then rule22 m d head payload)
    unfolding rule21 rule22
    rest_is = is ∙ then_assoc _ _ _ ∙ rw (opens_on, ← told.own, bytes_are, tiled_is, found.run.place)

    pub rest_breaks : {e : Refusal} → rule ≡ Err e → ((rule21 m d prev then rule22 m d head payload) ≡ Err e) × Own m e
    rest_breaks e =
        let low : PlacedUpTo (length m) rule =
        rw is (then_is (PlacedUpTo (length m)) _ _ (next found.run.stands _ 21 _ s.place) (must_is (PlacedUpTo (length m)) _ 22 _ tt (omega arith))) in
        (sym rest_is ∙ e, owned m {r = rule} (rw rest_is (of_sums_untracked m d head payload prev)) low e)

-- rules may be grouped
regroup : (a b c d e : Rule) → ((a then b then c) then (d then e)) ≡ ((a then b then c then d) then e)
regroup a b c d e = simp then_assoc

pub right_15 : (m : List ℕ) (t : Totals) → rule15 m ≡ rule15runs m (runs_in m) → PassedRuns m (runs_in m) [] t → rule15 m ≡ Ok tt
unfolding rule15runs
right_15 m t sized passed = sized ∙ passed.sized

-- where 14 and 15 hold, the rest: 16 to 19, then 20 to 22
module _ (m : List ℕ) (s : Setting) (right : rule14 m ≡ Ok tt) (sized : rule15 m ≡ Ok tt) where
  abbrev d : Defaults
  d = s.header.defaults

  abbrev before : Rule
  before = rule16 m then rule17 m s.header.id then rule18 m then rule19 m s.prev

  abbrev after : Rule
  after = rule20 m d then rule21 m d s.prev then rule22 m d s.head s.payload

  rest_of : (shape m s.header.id then timing m d s.head s.payload s.prev) ≡ (before then after)
  unfolding shape timing
  rest_of = ap (λ (r : Rule). r then timing m d s.head s.payload s.prev) (then_holds _ right ∙ then_holds _ sized) ∙ regroup _ _ _ _ _

  pub broken_19 : {v : Rule} {e : Refusal} → v ≡ before → PlacedUpTo (length m) v → v ≡ Err e → SaysChunk (Err e) m s
  broken_19 {v} is low e =
      let l = owned m {r = v} (rw is (before_sums_untracked m s.header.id s.prev)) low e in
      (rest_of ∙ stops _ (sym is ∙ e), l.0, l.1)

  pub settled : before ≡ Ok tt → (r : Result Interval Refusal) → says r after m d → SaysChunk r m s
  settled good (Ok f) k = (rest_of ∙ then_holds _ good ∙ k.0, k.1, k.2, k.3, k.4)
  settled good (Err e) k = (rest_of ∙ then_holds _ good ∙ k.0, k.1, k.2)
