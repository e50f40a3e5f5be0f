-- `pieces::step::into_box` meets its contract. Assumes nothing.
use native.Mathlib.Omega.{arith}
use Rattle.pieces.proofs.Taking.{copied}
use Rattle.pieces.proofs.Filling.{used_of, box_ends, filled_copies, box_on_lem, box_whole, box_taken}
use Rattle.pieces.proofs.step.into_box.Goals as goal

pub overflow_sub-size : goal.overflow_sub-size
overflow_sub-size c = omega (arith, c.size_of-size.ensures, box_ends c.requires)

pub copy_in-requires : goal.copy_in-requires
copy_in-requires c = filled_copies c.requires (used_of (rw c.size_of-size.ensures at c.min-used.ensures))

pub returns-then-there-size : goal.returns-then-there-size
returns-then-there-size c =
    let u = used_of (rw c.size_of-size.ensures at c.min-used.ensures) in
    rw (copied c.args.kept.now c.args.n c.args.more.now c.min-used.result c.copy_in.ensures u.within) (box_on_lem c.requires u (rw c.size_of-size.ensures at c.if-there-size.true))

pub settle_box-state-requires : goal.settle_box-state-requires
settle_box-state-requires c =
    let u = used_of (rw c.size_of-size.ensures at c.min-used.ensures) in
    rw (c.size_of-size.ensures, copied c.args.kept.now c.args.n c.args.more.now c.min-used.result c.copy_in.ensures u.within)
    (box_whole c.requires u (rw c.size_of-size.ensures at c.if-there-size.false))

pub returns : goal.returns
returns c =
    let u = used_of (rw c.size_of-size.ensures at c.min-used.ensures) in
    let e = copied c.args.kept.now c.args.n c.args.more.now c.min-used.result c.copy_in.ensures u.within in
    rw e
    (box_taken c.requires u (rw c.size_of-size.ensures at c.if-there-size.false)
    (rw (c.size_of-size.ensures, e) at c.settle_box-state.ensures))
