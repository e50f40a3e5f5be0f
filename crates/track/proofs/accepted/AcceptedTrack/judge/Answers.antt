-- `track::accepted::AcceptedTrack::judge` meets its contract. Assumes nothing.
use Rattle.track.proofs.Table.{refuses}
use Rattle.track.proofs.accepted.AcceptedTrack.judge.Goals as goal

pub returns-in_err-facts-clause-refuses : goal.returns-in_err-facts-clause-refuses
returns-in_err-facts-clause-refuses c = refuses c.args.bytes.now c.in_err-facts.ensures c.from_residual.result c.from_residual.ensures.1
