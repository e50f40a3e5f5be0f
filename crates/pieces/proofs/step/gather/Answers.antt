-- `pieces::step::gather` meets its contract. Assumes nothing.
use mathlib.Core.Path.{sym}
use native.Mathlib.Omega.{arith}
use lib.Seq.{length-take-le}
use Rattle.pieces.proofs.Taking.{copied}
use Rattle.pieces.proofs.Heading.{in_bytes, gathered_29, gathered_keeps, gathered_whole, gathered_settles}
use Rattle.pieces.proofs.step.gather.Goals as goal

pub returns-then-b-gt-GATHER_LIMIT-clause-means_headed : goal.returns-then-b-gt-GATHER_LIMIT-clause-means_headed
returns-then-b-gt-GATHER_LIMIT-clause-means_headed c =
    let g = c.requires in rw (c.stop_at.ensures, g.place) (gathered_29 g c.if-b-gt-GATHER_LIMIT.true)

pub slice_bounds-copy_in-end : goal.slice_bounds-copy_in-end
slice_bounds-copy_in-end c = sym (length-take-le c.args.b.head c.args.head.now (in_bytes c.requires))

pub settle_box-requires : goal.settle_box-requires
settle_box-requires c = let g = c.requires in
    rw (c.beginning-course.ensures, g.place, copied c.args.kept.now 0 c.args.head.now c.args.b.head c.copy_in.ensures (in_bytes g)) (gathered_whole g c.if-b-gt-GATHER_LIMIT.false c.if-b.true)

pub returns-then-b-clause-means_headed : goal.returns-then-b-clause-means_headed
returns-then-b-clause-means_headed c =
    let g = c.requires in
    let e = copied c.args.kept.now 0 c.args.head.now c.args.b.head c.copy_in.ensures (in_bytes g) in
    rw e (gathered_settles g c.if-b-gt-GATHER_LIMIT.false c.if-b.true (rw (c.beginning-course.ensures, g.place, e) at c.settle_box.ensures))

pub returns-clause-means_headed : goal.returns-clause-means_headed
returns-clause-means_headed c =
    let g = c.requires in
    rw (c.beginning-course.ensures, g.place, copied c.args.kept.now 0 c.args.head.now c.args.b.head c.copy_in.ensures (in_bytes g))
    (gathered_keeps g c.if-b-gt-GATHER_LIMIT.false (omega (arith, g.holds, c.if-b.false)))
