-- `set::judge_member` meets its contract. Assumes nothing.
use Rattle.set.proofs.Outcomes.{of_track_accepts, of_track_refuses}
use Rattle.set.proofs.judge_member.Goals as goal

pub returns-clause-accepts : goal.returns-clause-accepts
returns-clause-accepts c = of_track_accepts _ _ _ _ c.of_track.ensures c.judge.ensures.accepts

pub returns-clause-refuses : goal.returns-clause-refuses
returns-clause-refuses c = of_track_refuses _ _ _ _ c.of_track.ensures c.judge.ensures.refuses
