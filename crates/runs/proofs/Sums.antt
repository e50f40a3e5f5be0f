-- Laws of sums over samples: one more, equal terms, some and some more, two columns for one, a constant term, and places a step apart.
use Rattle.std.proofs.Common.{◌≡◌, ℕ, zero, suc, ◌+◌, ◌*◌, ◌-◌, ◌/◌, ◌<◌, ◌≤◌, min, Bool, true, false, eqb, List, [], ◌++◌, length, take, drop, sym, refl, ap, ◌∙◌, inl, inr, add-zero, add-suc, suc-mul, suc-add, mul-le-mul_left, mul-zero, zero-mul, mul-suc, mul-add, mul_comm, mul-div_cancel, add-one, arith, append-nil, get_or-take, get_or-drop}
use Rattle.std.proofs.Math.Nat.{add-mul-div_left, div-eq_of_lt, mul-div_cancel_left}
use Rattle.std.proofs.lemmas.Bool.{cases_lt}
use Rattle.std.proofs.lemmas.List.{get_or_append_left, get_or-append-add, length-append, length-drop, length-take-le, nil_from_length}
use Rattle.numbers.specs.Numbers.{byte, be4, has, when}
use Rattle.rules.specs.Limits.{sample_limit}
use Rattle.rules.specs.Fields.{field}
use Rattle.rules.specs.Rules.{◌then◌, must, Rule}
use Rattle.rules.specs.declared.Defaults.{Defaults}
use Rattle.rules.specs.declared.Spot.{Spot}
use Rattle.rules.specs.Chunk.{bytes_for, run_head, stride, sample_at, duration_of, bytes_of, sum_to, run_duration, run_bytes, first_flags_of, is_sync, placed}
use Rattle.runs.proofs.Flags.{stride_ticks, reach_size}
use Rattle.runs.specs.Trun.{FilledRun}
use Rattle.runs.specs.Runs.{SmallSums, AndSamples}
use Rattle.runs.specs.declared.Span.{Span}
use Rattle.runs.specs.Samples.{every_four, Summed, FewRows}

-- the first place
step_none : (at step : ℕ) → at ≡ at + step * 0
step_none at step = omega (arith, mul-zero step)

-- one sample more, and all of them
pub summed_more : (g : ℕ → ℕ) (i sum x : ℕ) → Summed g i sum → x ≡ g i → x ≤ 4294967295 → Summed g (i + 1) (sum + x)
unfolding sum_to
summed_more g i sum x s e b = rw add-one (record { total = omega arith; small = omega arith })

pub summed_end : (g : ℕ → ℕ) (i n sum : ℕ) → Summed g i sum → i ≡ n → Summed g n sum
summed_end g i n sum s e = rw e at s

-- the number of one row alone
pub summed_one : (m : List ℕ) (at step x : ℕ) → x ≡ be4 m at → x ≤ 4294967295 → Summed (every_four m at step) 1 x
unfolding sum_to
summed_one m at step x e b = record { total = omega (arith, e, ap (be4 m) (step_none at step)); small = omega (arith, b) }

-- equal samples have equal sums
sum_same : (g h : ℕ → ℕ) (n : ℕ) → ((i : ℕ) → i < n → g i ≡ h i) → sum_to g n ≡ sum_to h n
unfolding sum_to
sum_same g h zero e = refl
sum_same g h (suc n) e = omega (arith, sum_same g h n (λ i l. e i (omega (arith, l))), e n (omega arith))

pub summed_same : (g h : ℕ → ℕ) (n sum : ℕ) → ((i : ℕ) → g i ≡ h i) → Summed g n sum → Summed h n sum
summed_same g h n sum e s = record { total = s.total ∙ sum_same g h n (λ i l. e i); small = s.small }

-- some samples, and so many more from where these end
sum_join : (g h : ℕ → ℕ) (i : ℕ) → ((j : ℕ) → h j ≡ g (i + j)) → (k : ℕ) → sum_to g (i + k) ≡ sum_to g i + sum_to h k
unfolding sum_to
sum_join g h i e zero = rw (add-zero i) (omega arith)
sum_join g h i e (suc k) = rw add-suc (omega (arith, sum_join g h i e k, e k))

-- rows that come first, and others behind them: the numbers of both
module _ (all part rest : List ℕ) (cut : all ≡ part ++ rest) where
  in_part : (p : ℕ) → p + 4 ≤ length part → be4 all p ≡ be4 part p
  unfolding be4
  in_part p h =
      rw cut (omega (
        arith,
        get_or_append_left part rest 0 p (omega (arith, h)),
        get_or_append_left part rest 0 (p + 1) (omega (arith, h)),
        get_or_append_left part rest 0 (p + 2) (omega (arith, h)),
        get_or_append_left part rest 0 (p + 3) (omega (arith, h)),
      ))

  in_rest : (p q : ℕ) → q ≡ length part + p → be4 all q ≡ be4 rest p
  unfolding be4
  in_rest p q e =
      let at : (k : ℕ) → byte all (q + k) ≡ byte rest (p + k) = λ k. rw cut (ap (byte (part ++ rest)) (omega (arith, e)) ∙ get_or-append-add part rest (p + k) 0) in
      omega (arith, ap (byte all) (add-zero q), ap (byte rest) (add-zero p), at 0, at 1, at 2, at 3)

  module _ (at step i : ℕ) (s : 0 < step) (fits : at + 4 ≤ step) (whole : length part ≡ step * i) where
    rows_more : length all / step ≡ i + length rest / step
    rows_more =
        let l : length all ≡ length rest + step * i = rw cut (omega (arith, length-append part rest, whole)) in
        rw l (omega (arith, add-mul-div_left (length rest) i s))

    sums_more : (k : ℕ) → sum_to (every_four all at step) (i + k) ≡ sum_to (every_four part at step) i + sum_to (every_four rest at step) k
    sums_more k =
        sum_join (every_four all at step) (every_four rest at step) i
        (λ j. sym (in_rest (at + step * j) (at + step * (i + j)) (omega (arith, whole, mul-add step i j)))) k
        ∙ ap (λ (x : ℕ). x + sum_to (every_four rest at step) k)
        (sum_same (every_four all at step) (every_four part at step) i
        (λ j l. in_part (at + step * j) (omega (arith, fits, whole, mul-suc step j, mul-le-mul_left step l))))

-- the sum so far is that of all rows but those that are left
pub record AllButLeft (all left : List ℕ) (at step sum : ℕ) : Type 0 where
  pub total : sum_to (every_four all at step) (length all / step) ≡ sum + sum_to (every_four left at step) (length left / step)
  pub small : sum + 4294967295 * (length left / step) ≤ 4294967295 * (length all / step)

pub left_none : (all left : List ℕ) (at step sum : ℕ) → length left < step → AllButLeft all left at step sum → Summed (every_four all at step) (length all / step) sum
unfolding sum_to
left_none all left at step sum short a =
    let none : length left / step ≡ 0 = div-eq_of_lt short in
    record { total = sym (a.total ∙ rw none (add-zero sum)); small = omega (arith, a.small) }

-- whole rows more, or all that are left
module _ (all left part rest : List ℕ) (at step sum s : ℕ) (cut : left ≡ part ++ rest) (pos : 0 < step) (a : AllButLeft all left at step sum) where
  pub left_less :
      (i : ℕ) → at + 4 ≤ step → length part ≡ step * i → Summed (every_four part at step) i s → AllButLeft all rest at step (sum + s)
  left_less i fits whole p =
      let more = rows_more left part rest cut at step i pos fits whole in
      let sums : sum_to (every_four left at step) (length left / step) ≡ sum_to (every_four part at step) i + sum_to (every_four rest at step) (length rest / step)
      = rw more (sums_more left part rest cut at step i pos fits whole (length rest / step)) in
      record { total = omega (arith, a.total, sums, p.total); small = omega (arith, a.small, more, p.small) }

  -- in parts of k rows
  pub left_part :
      (k : ℕ) → at + 4 ≤ step → length part ≡ min (k * step) (length left) → Summed (every_four part at step) (length part / step) s →
      AllButLeft all rest at step (sum + s)
  unfolding sum_to
  left_part k fits size p =
      elim (cases_lt (length left) (k * step)) [
        | inl short ↦
            let none : rest ≡ [] = nil_from_length rest (omega (arith, ap length cut, length-append part rest, size)) in
            let same : left ≡ part = cut ∙ rw none (append-nil part) in
            let end : length rest / step ≡ 0 = rw none (div-eq_of_lt pos) in
            record {
              total = a.total ∙ rw (same, end, ← p.total) (omega arith);
              small = rw end (omega (arith, a.small, p.small, ap (λ (xs : List ℕ). length xs / step) same));
            }
        | inr long ↦
            let whole : length part ≡ step * k = omega (arith, size, mul_comm k step) in
            let count : length part / step ≡ k = ap (λ (l : ℕ). l / step) (whole ∙ mul_comm step k) ∙ mul-div_cancel k pos in
            left_less k fits whole (rw count at p)
      ]

-- numbers side by side: the first of each two, and the second
sum_pairs : (m : List ℕ) (from n : ℕ) → sum_to (every_four m from 4) (n + n) ≡ sum_to (every_four m from 8) n + sum_to (every_four m (from + 4) 8) n
unfolding sum_to
sum_pairs m from zero = refl
sum_pairs m from (suc n) =
    let first : from + 4 * (n + n) ≡ from + 8 * n = omega arith in
    let second : from + 4 * suc (n + n) ≡ from + 4 + 8 * n = omega arith in
    rw (suc-add, add-suc n n) (omega (arith, sum_pairs m from n, ap (be4 m) first, ap (be4 m) second))

pub summed_pairs :
    (m : List ℕ) (from n s t : ℕ) → Summed (every_four m from 8) n s → Summed (every_four m (from + 4) 8) n t → Summed (every_four m from 4) (n + n) (s + t)
summed_pairs m from n s t u v = record { total = omega (arith, u.total, v.total, sum_pairs m from n); small = omega (arith, u.small, v.small) }

-- a value that all share
sum_const : (c n : ℕ) → sum_to (λ i. c) n ≡ n * c
unfolding sum_to
sum_const c zero = sym (zero-mul c)
sum_const c (suc n) = omega (arith, sum_const c n, suc-mul n c)

pub summed_const : (c n : ℕ) → c ≤ 4294967295 → Summed (λ i. c) n (n * c)
summed_const c n h = record { total = sym (sum_const c n); small = omega (arith, mul-le-mul_left n h) }

-- rows that are a part of a slice
rows_of :
    (m : List ℕ) (from k at step n sum : ℕ) → 0 < step → at + 4 ≤ step → from + k ≤ length m → k ≡ step * n →
    Summed (every_four (take k (drop from m)) at step) n sum → Summed (every_four m (from + at) step) n sum
unfolding be4
rows_of m from k at step n sum pos fits inside whole s =
    let here : (j q : ℕ) → j < k → q ≡ from + j → byte (take k (drop from m)) j ≡ byte m q
    = λ j q h e. get_or-take k (drop from m) j 0 h ∙ get_or-drop from m j 0 ∙ ap (byte m) (sym e) in
    record {
      total =
          s.total
          ∙ sum_same (every_four (take k (drop from m)) at step) (every_four m (from + at) step) n
          (λ i l. let b : step * i + step ≤ k = omega (arith, whole, mul-suc step i, mul-le-mul_left step l) in
          omega (
            arith,
            here (at + step * i) (from + at + step * i) (omega (arith, b, fits)) (omega arith),
            here (at + step * i + 1) (from + at + step * i + 1) (omega (arith, b, fits)) (omega arith),
            here (at + step * i + 2) (from + at + step * i + 2) (omega (arith, b, fits)) (omega arith),
            here (at + step * i + 3) (from + at + step * i + 3) (omega (arith, b, fits)) (omega arith),
          ));
      small = s.small;
    }

-- the samples of a run: their own values, a step apart from where the fields begin, and the default that they share
module _ (m : List ℕ) (d : Defaults) (r : Spot) (f n : ℕ) (p : FilledRun m r f n) where
  module _ (k step : ℕ) (fore : k ≡ run_head f) (apart : step ≡ stride f) where
    -- the bytes of the fields, and their rows
    abbrev fields : List ℕ
    fields = take (r.at + r.size - (r.at + r.head + k)) (drop (r.at + r.head + k) m)

    fields_size : r.at + r.size - (r.at + r.head + k) ≡ step * n
    fields_size = rw (fore, apart) (omega (arith, p.fills))

    pub fields_inside : r.at + r.head + k ≤ r.at + r.size
    fields_inside = rw fore (omega (arith, p.fills))

    fields_count : 0 < step → length fields / step ≡ n
    fields_count pos =
        let l : length fields ≡ step * n =
        length-take-le _ (drop (r.at + r.head + k) m) (omega (arith, length-drop (r.at + r.head + k) m, p.stands.fits, fields_inside)) ∙ fields_size in
        rw l (mul-div_cancel_left n pos)

    pub fields_few : (least : ℕ) → 0 < least → least ≤ stride f → n ≤ sample_limit → FewRows least step fields
    fields_few least pos low few = (rw apart low, rw (fields_count (omega (arith, pos, low, apart))) few)

    own : (at sum : ℕ) → at + 4 ≤ stride f → Summed (every_four fields at step) (length fields / step) sum → Summed (every_four m (r.at + r.head + k + at) step) n sum
    own at sum fits s =
        let pos : 0 < step = omega (arith, fits, apart) in
        rows_of m (r.at + r.head + k) (r.at + r.size - (r.at + r.head + k)) at step n sum pos (omega (arith, fits, apart)) (omega (arith, p.stands.fits, fields_inside))
        fields_size (rw (fields_count pos) at s)

    pub ticks_own : (sum : ℕ) → has f 0x100 ≡ true → Summed (every_four fields 0 step) (length fields / step) sum → Summed (duration_of m d r.at) n sum
    unfolding duration_of field sample_at
    ticks_own sum e s =
        summed_same (every_four m (r.at + r.head + k + 0) step) (duration_of m d r.at) n sum
        (λ i. rw (← p.flags, e, p.stands.head, ← apart, ← fore) (ap (be4 m) (omega arith)))
        (own 0 sum (stride_ticks f e) s)

    pub bytes_own :
        (sum at : ℕ) → at ≡ bytes_for 4 f 0x100 → has f 0x200 ≡ true → Summed (every_four fields at step) (length fields / step) sum →
        Summed (bytes_of m d r.at) n sum
    unfolding bytes_of field sample_at
    bytes_own sum at q e s =
        summed_same (every_four m (r.at + r.head + k + at) step) (bytes_of m d r.at) n sum
        (λ i. rw (← p.flags, e, p.stands.head, ← apart, ← fore, ← q) (ap (be4 m) (omega arith)))
        (own at sum (rw q (reach_size f e)) s)

  pub ticks_shared : (sum : ℕ) → has f 0x100 ≡ false → Summed (λ i. d.duration) n sum → Summed (duration_of m d r.at) n sum
  unfolding duration_of
  ticks_shared sum e = summed_same (λ i. d.duration) (duration_of m d r.at) n sum (λ i. rw (← p.flags, e))

  pub bytes_shared : (sum : ℕ) → has f 0x200 ≡ false → Summed (λ i. d.size) n sum → Summed (bytes_of m d r.at) n sum
  unfolding bytes_of
  bytes_shared sum e = summed_same (λ i. d.size) (bytes_of m d r.at) n sum (λ i. rw (← p.flags, e))

-- what samples span with those of a run more
module _ (m : List ℕ) (d : Defaults) (from before : ℕ) (r : Spot) (f n : ℕ) (p : FilledRun m r f n) (a : Span) (small : SmallSums before a) where
  pub span_more :
      (t u : ℕ) → Summed (duration_of m d r.at) n t → Summed (bytes_of m d r.at) n u →
      (own sync : Bool) (q tiled : Rule) → own ≡ placed a.lead m r.at (from + a.bytes) →
      sync ≡ when (eqb before 0) (when (eqb n 0) a.sync (is_sync (first_flags_of m d r.at))) a.sync →
      q ≡ must own 22 r.at → tiled ≡ (a.tiled then q) →
      AndSamples m d from before r.at n a (record { ticks = a.ticks + t; bytes = a.bytes + u; lead = false; sync = sync; tiled = tiled })
  unfolding run_duration run_bytes
  span_more t u v y own sync q tiled offset first test told =
      record {
        ticks = rw (← p.count, ← v.total);
        bytes = rw (← p.count, ← y.total);
        lead = refl;
        sync = first;
        tiled = rw (← offset, ← test) told;
        small = (omega (arith, v.small, small.0), omega (arith, y.small, small.1));
      }
