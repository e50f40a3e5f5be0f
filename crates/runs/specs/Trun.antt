-- Rule 15: what the reader of a run answers.
use Rattle.std.specs.Prelude.{◌≡◌, ℕ, ◌+◌, ◌*◌, List, Option, Some, None, Ok}
use Rattle.rules.specs.Fields.{box_flags, wrong_body, body}
use Rattle.rules.specs.Chunk.{run_form, run_head, stride, count_of}
use Rattle.rules.specs.declared.Spot.{Spot}
use Rattle.boxes.specs.Stands.{Stands}
use Rattle.runs.specs.declared.trun.Trun.{Trun}

-- a run that stands there, with its flags and its samples, whose fields fill it
pub record FilledRun (m : List ℕ) (r : Spot) (f n : ℕ) : Type 0 where
  pub stands : Stands m r
  pub flags : f ≡ box_flags m r.at
  pub count : n ≡ count_of m r.at
  pub fills : r.size ≡ r.head + run_head f + stride f * n

-- `trun`: version 0 or 1, sized by its flags and its samples
abbrev pub SaysTrun : Option Trun → List ℕ → Spot → Type 0
SaysTrun (Some t) m r = (body 15 (run_form m r.at) m r.at ≡ Ok tt) × (t.spot ≡ r) × FilledRun m r t.flags t.count
SaysTrun None m r = body 15 (run_form m r.at) m r.at ≡ wrong_body 15 (run_form m r.at) m r.at
