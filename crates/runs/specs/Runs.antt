-- The runs of a chunk: what the walk over them knows, and what it answers.
use Rattle.std.specs.Prelude.{◌≡◌, ℕ, ◌+◌, ◌*◌, ◌≤◌, Bool, true, false, List, [], ◌∷◌, length, ◌==◌, Result, Ok, Err}
use Rattle.numbers.specs.Numbers.{when}
use Rattle.rules.specs.Kinds.{trun}
use Rattle.rules.specs.Limits.{sample_limit}
use Rattle.rules.specs.Boxes.{boxes, places_of}
use Rattle.rules.specs.Rules.{◌then◌, PlacedUpTo, Rule, breaks}
use Rattle.rules.specs.Fields.{wrong_body, body}
use Rattle.rules.specs.Chunk.{run_form, first_flags_of, run_duration, run_bytes, samples_of, durations_of, bytes_in, first_flags}
use Rattle.rules.specs.Chunk.{rule15runs, rule16runs, rule22run, rule22runs, is_sync}
use Rattle.rules.specs.declared.Defaults.{Defaults}
use Rattle.rules.specs.declared.Spot.{Spot}
use Rattle.runs.specs.declared.Span.{Span}
use Rattle.runs.specs.declared.Totals.{Totals}
use Rattle.runs.specs.declared.WrongRun.{WrongRun}

-- the places of the runs in a slice from a place on
unfoldable pub runs_at : List ℕ → ℕ → List ℕ
runs_at s at = places_of trun (boxes s at)

-- sums are asked for: they are wanted, rule 16 holds so far, and the samples are few so far
abbrev pub Due : Bool → Rule → ℕ → Type 0
Due want clash samples = (want ≡ true) × (clash ≡ Ok tt) × (samples ≤ sample_limit)

abbrev pub SaysDue : Bool → Bool → Rule → ℕ → Type 0
SaysDue true want clash samples = Due want clash samples
SaysDue false want clash samples = Due want clash samples → ⊥

-- sums over so many samples, each of 32 bits
abbrev pub SmallSums : ℕ → Span → Type 0
SmallSums samples a = (a.ticks ≤ 4294967295 * samples) × (a.bytes ≤ 4294967295 * samples)

-- those that are asked for are such
abbrev pub Low : Bool → Totals → Type 0
Low want t = Due want t.clash t.samples → SmallSums t.samples t.span

-- whether the first sample is sync, after so many samples and then the n of the run at a place: that run's first where it has one and none was before
abbrev pub sync_after : ℕ → ℕ → Bool → List ℕ → Defaults → ℕ → Bool
sync_after before n sync m d r = when (before == 0) (when (n == 0) sync (is_sync (first_flags_of m d r))) sync

-- b is what samples span, a, with the n of the run at a place, after so many samples, where the bytes of all begin at a place
pub record AndSamples (m : List ℕ) (d : Defaults) (from before r n : ℕ) (a b : Span) : Type 0 where
  pub ticks : b.ticks ≡ a.ticks + run_duration m d r
  pub bytes : b.bytes ≡ a.bytes + run_bytes m d r
  pub lead : b.lead ≡ false
  pub sync : b.sync ≡ sync_after before n a.sync m d r
  pub tiled : b.tiled ≡ (a.tiled then rule22run m a.lead (from + a.bytes) r)
  pub small : SmallSums (before + n) b

-- what the samples of the runs passed span, so many, where some of all are left and the bytes of all begin at a place
pub record SpansAll (m : List ℕ) (d : Defaults) (from : ℕ) (all left : List ℕ) (samples : ℕ) (a : Span) : Type 0 where
  pub ticks : durations_of m d all ≡ a.ticks + durations_of m d left
  pub bytes : bytes_in m d all ≡ a.bytes + bytes_in m d left
  pub sync : is_sync (first_flags m d all) ≡ when (samples == 0) (is_sync (first_flags m d left)) a.sync
  pub tiled : rule22runs m d true from all ≡ (a.tiled then rule22runs m d a.lead (from + a.bytes) left)
  pub small : SmallSums samples a
  pub place : PlacedUpTo (length m) a.tiled

-- rules 15 and 16 of the runs passed, and their samples, where some of all are left
pub record PassedRuns (m all left : List ℕ) (t : Totals) : Type 0 where
  pub sized : rule15runs m all ≡ rule15runs m left
  pub clash : rule16runs m all ≡ (t.clash then rule16runs m left)
  pub samples : samples_of m all ≡ t.samples + samples_of m left
  pub place : PlacedUpTo (length m) t.clash

-- what the walk knows of all runs where some are left: of those passed, and the sums, where they are asked for
pub record Walked (m : List ℕ) (want : Bool) (d : Defaults) (from : ℕ) (all left : List ℕ) (t : Totals) : Type 0 where
  pub passed : PassedRuns m all left t
  pub sums : Due want t.clash t.samples → SpansAll m d from all left t.samples t.span

-- what is known where the run at a place is left is known where it is passed
abbrev pub Onward : List ℕ → Bool → Defaults → ℕ → ℕ → Totals → Totals → Type 0
Onward m want d from r t u = (all rest : List ℕ) → Walked m want d from all (r ∷ rest) t → Walked m want d from all rest u

-- one run more, or the place of one that has another form
abbrev pub SaysNext : Result Totals WrongRun → List ℕ → Spot → Bool → Defaults → ℕ → Totals → Type 0
SaysNext (Ok u) m r want d from t = Onward m want d from r.at t u × (u.samples ≤ t.samples + 4294967295)
SaysNext (Err w) m r want d from t = (body 15 (run_form m r.at) m r.at ≡ wrong_body 15 (run_form m r.at) m r.at) × (w.place ≡ r.at)

-- what all runs come to, or the place of the first that has another form
abbrev pub SaysRuns : Result Totals WrongRun → List ℕ → Bool → Defaults → ℕ → List ℕ → Type 0
SaysRuns (Ok t) m want d from rs = Walked m want d from rs [] t
SaysRuns (Err w) m want d from rs = (rule15runs m rs ≡ breaks 15 0 w.place) × (w.place ≤ length m)
