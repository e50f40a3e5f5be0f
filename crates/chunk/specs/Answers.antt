-- What the check of a chunk answers.
use Rattle.std.specs.Prelude.{ℕ, ◌+◌, ◌≤◌, ◌≡◌, true, false, length, List, Option, None, Some, Result, Ok, Err}
use Rattle.rules.specs.Limits.{tick_limit}
use Rattle.rules.specs.Rules.{◌then◌, Rule}
use Rattle.rules.specs.Chunk.{shape, timing, start_of, end_of, sync_in, lasts}
use Rattle.rules.specs.declared.Defaults.{Defaults}
use Rattle.rules.specs.declared.Refusal.{Refusal}
use Rattle.chunk.specs.declared.Interval.{Interval}
use Rattle.chunk.specs.declared.around.Setting.{Setting}

-- 20, by a start and a duration
abbrev pub SaysLasting : Option ℕ → ℕ → ℕ → Type 0
SaysLasting (Some e) s t = (lasts s t ≡ true) × (e ≡ s + t) × (e ≤ tick_limit)
SaysLasting None s t = lasts s t ≡ false

-- a rule of the chunk whose `moof` has the bytes m holds, with its start, its end, up to the last tick, and whether its first sample is sync; or it
-- breaks, as a rule of one track, at a place in those bytes, or their end
abbrev pub says : Result Interval Refusal → Rule → List ℕ → Defaults → Type 0
says (Ok f) rule m d = (rule ≡ Ok tt) × (f.start ≡ start_of m) × (f.end ≡ end_of m d) × (f.end ≤ tick_limit) × (f.sync ≡ sync_in m d)
says (Err e) rule m d = (rule ≡ Err e) × (e.track ≡ 0) × (e.place ≤ length m)

-- 14 to 22
abbrev pub SaysChunk : Result Interval Refusal → List ℕ → Setting → Type 0
SaysChunk r m s = says r (shape m s.header.id then timing m s.header.defaults s.head s.payload s.prev) m s.header.defaults
