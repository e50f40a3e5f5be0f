-- `runs::and_samples` meets its contract. Assumes nothing.
use Rattle.rules.specs.Rules.{◌then◌}
use Rattle.runs.proofs.Sums.{span_more}
use Rattle.runs.proofs.and_samples.Goals as goal

pub returns : goal.returns
unfolding ◌then◌
returns c =
    let a = c.args in
    span_more _ a.d a.from a.before a.run.spot a.run.flags a.run.count c.requires.filled_run.0 a.a c.requires.small_sums _ _ c.sums_of-sums.ensures.ticks c.sums_of-sums.ensures.bytes
    c.is_placed-own.result c.sync_after-sync.result c.must.result c.and-tiled.result
    c.is_placed-own.ensures c.sync_after-sync.ensures c.must.ensures c.and-tiled.ensures
