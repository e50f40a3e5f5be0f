-- `pieces::step::into_header` meets its contract. Assumes nothing.
use mathlib.Core.Path.{sym, ◌∙◌}
use native.Mathlib.Omega.{arith}
use Rattle.pieces.proofs.Taking.{copied}
use Rattle.pieces.proofs.Filling.{used_of, header_ends, held_copies, header_on, header_whole, header_taken}
use Rattle.pieces.proofs.step.into_header.Goals as goal

pub overflow_sub-header_end : goal.overflow_sub-header_end
overflow_sub-header_end c = omega (arith, c.header_end.ensures, header_ends c.requires)

pub copy_in-requires : goal.copy_in-requires
copy_in-requires c = held_copies c.requires (used_of (rw c.header_end.ensures at c.min-used.ensures))

pub returns-then-open_header : goal.returns-then-open_header
returns-then-open_header c =
    let u = used_of (rw c.header_end.ensures at c.min-used.ensures) in
    let e = copied c.args.head.now c.args.n c.args.more.now c.min-used.result c.copy_in.ensures u.within in
    rw e (header_on c.requires u (rw e at (sym c.open_header.ensures ∙ c.if-open_header.true)))

pub on_header-state-requires : goal.on_header-state-requires
on_header-state-requires c =
    let u = used_of (rw c.header_end.ensures at c.min-used.ensures) in
    let e = copied c.args.head.now c.args.n c.args.more.now c.min-used.result c.copy_in.ensures u.within in
    rw e (header_whole c.requires u (rw e at (sym c.open_header.ensures ∙ c.if-open_header.false)))

pub returns : goal.returns
returns c =
    let u = used_of (rw c.header_end.ensures at c.min-used.ensures) in
    let e = copied c.args.head.now c.args.n c.args.more.now c.min-used.result c.copy_in.ensures u.within in
    let h = c.on_header-state.ensures in
    rw e (header_taken c.requires u (rw e at h.means_headed) h.kept_len_unchanged)
