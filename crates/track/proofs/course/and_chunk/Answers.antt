-- `track::course::and_chunk` meets its contract. Assumes nothing.
use mathlib.Core.Path.{ap, ◌∙◌}
use Prim.Native.Nat.{◌+◌, ◌-◌}
use native.Mathlib.Omega.{arith}
use Rattle.track.proofs.Stepping.{chunk_good, chunk_bad, or_start, one_where}
use Rattle.track.proofs.course.and_chunk.Goals as goal
use Rattle.track.proofs.course.and_chunk.Goals.{then-f, else-f}

pub returns-after-f : goal.returns-after-f
returns-after-f c = let a = c.args in
    let k = rw c.in-Ok.is at c.check_chunk.ensures in
    chunk_good a.f a.m.at a.moof.now a.mdat.head (a.mdat.size - a.mdat.head) _ _ _ _ _ _ k.0 (k.1, k.2, k.4)
    (c.or.ensures ∙ or_start _ _)
    (ap (λ n. a.f.fragments + n) (c.from.ensures ∙ one_where _))
    (elim c.if-f.branch [ then-f w ↦ rw w.if-f.true w.result-is | else-f w ↦ rw w.if-f.false (w.result-is ∙ w.if-f.false) ])

pub moved_by-requires : goal.moved_by-requires
moved_by-requires c = let p = c.requires in
    let k = rw c.in-Err.is at c.check_chunk.ensures in
    (omega (arith, k.2, p.whole_box.1), p.whole_box.2)

pub returns-in-Err : goal.returns-in-Err
returns-in-Err c = let a = c.args in
    let k = rw c.in-Err.is at c.check_chunk.ensures in
    rw c.moved_by.ensures (chunk_bad a.f a.m.at a.moof.now a.mdat.head (a.mdat.size - a.mdat.head) k.0)
