-- `pieces::step::pass_over` meets its contract. Assumes nothing.
use Rattle.pieces.proofs.Meaning.{passed_waits, passed_fits, passed_held, passed_means}
use Rattle.pieces.proofs.step.pass_over.Goals as goal

pub slice_bounds-waits-end : goal.slice_bounds-waits-end
slice_bounds-waits-end c = rw c.waits_in.ensures (passed_waits c.requires)

pub and_next-requires : goal.and_next-requires
and_next-requires c = let g = c.requires in
    (rw c.waits_in.ensures (passed_fits g), passed_held g)

pub returns : goal.returns
returns c = rw c.passing.ensures (passed_means c.requires (rw c.waits_in.ensures at c.and_next.ensures))
