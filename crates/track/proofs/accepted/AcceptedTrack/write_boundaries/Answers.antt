-- `track::accepted::AcceptedTrack::write_boundaries` meets its contract. Assumes nothing.
use mathlib.Core.Path.{sym, ap, ◌∙◌}
use mathlib.Core.Logic.{inl}
use Rattle.std.specs.Iterator.Adapters.{enumerate_source, enumerate_count}
use Rattle.track.proofs.Table.{accepted_known, end_room, writing_ends, start_room, next_over, none_over, writing_by_begins, by_counted, writing_by_on}
use Rattle.track.proofs.accepted.AcceptedTrack.write_boundaries.Goals as goal

pub loop-k-init : goal.loop-k-init
loop-k-init c = let a = c.args.self in
    let i = c.into_iter-k-iterator.ensures.into_iter_gives in
    let n = c.enumerate-k-items.ensures in
    let w =
    writing_by_begins (accepted_known a.bytes.now (sym a.accepted)) c.requires (ap enumerate_source i ∙ n.source) c.fragments.ensures
    (ap enumerate_count i ∙ n.count) in
    ((tt, tt, inl (by_counted w)), tt, w)

pub bounds-t-k : goal.bounds-t-k
bounds-t-k c = let w = c.loop-k.invariant.2 in
    let n = c.in-Some.ensures.steps in
    rw n.1 (start_room _ _ w.writing (next_over w.over n.0.0))

pub loop-k-preserved : goal.loop-k-preserved
loop-k-preserved c = let n = c.in-Some.ensures.steps in
    let w = writing_by_on c.loop-k.invariant.2 n.0 n.1 n.2 in
    ((tt, tt, inl (by_counted w)), tt, w)

pub put_last-requires : goal.put_last-requires
put_last-requires c = let w = c.loop-k.invariant.2 in end_room _ _ w.writing (none_over w.over c.in-None.ensures.steps.0.0)

pub returns : goal.returns
returns c = let w = c.loop-k.invariant.2 in writing_ends _ _ w.writing (none_over w.over c.in-None.ensures.steps.0.0) c.put_last.ensures
