-- `pieces::quick::go_on` meets its contract. Assumes nothing.
use mathlib.Core.Path.{sym, ◌∙◌}
use native.Mathlib.Omega.{arith}
use Rattle.pieces.proofs.Quickly.{open_says, passes_on, heads_on, keeps_on}
use Rattle.pieces.proofs.quick.go_on.Goals as goal

pub overflow_sub-size_of : goal.overflow_sub-size_of
overflow_sub-size_of c =
    let o = c.open_box in
    omega (arith, (open_says _ _ (sym o.ensures ∙ c.if-open_box.true)).1, c.size_of.ensures)

pub copy_in-requires : goal.copy_in-requires
copy_in-requires c =
    let o = c.open_box in
    let s = open_says _ _ (sym o.ensures ∙ c.if-open_box.true) in
    omega (arith, s.1, s.2, c.size_of.ensures, c.if-n-size_of.true)

pub returns-in-Skip-clause-goes : goal.returns-in-Skip-clause-goes
returns-in-Skip-clause-goes c = λ d total n. rw c.in-Skip.is (passes_on d total n c.args.head.now c.args.kept.now c.args.piece.now c.in-Skip.left c.in-Skip.place c.if-n-left.true)

pub returns-in-Keep-clause-goes : goal.returns-in-Keep-clause-goes
returns-in-Keep-clause-goes c =
    let o = c.open_box in λ d total n.
    rw (c.in-Keep.is, c.copy_in.ensures)
    (keeps_on d total n c.args.head.now c.args.kept.now c.args.piece.now c.in-Keep.held (omega (arith, c.well_formed))
    (sym o.ensures ∙ c.if-open_box.true)
    (rw c.size_of.ensures at c.if-n-size_of.true))

pub returns-in-Head-clause-goes : goal.returns-in-Head-clause-goes
returns-in-Head-clause-goes c = λ d total n.
    rw (c.in-Head.is, c.copy_in-in-Head.ensures)
    (heads_on d total n c.args.head.now c.args.kept.now c.args.piece.now c.in-Head.held (omega (arith, c.well_formed)) (omega (arith, c.if-n-held.true)))
