-- `header::ftyp::read_ftyp` meets its contract. The loop's invariant: the brands before the bytes that are left are none of the two. Assumes nothing.
use Rattle.std.proofs.Common.{◌≡◌}
use Rattle.std.specs.Slice.Iter.{chunks_exact_rest, chunks_exact_size}
use Rattle.header.proofs.Compatible.{NoneBefore}
use Rattle.header.proofs.ftyp.read_ftyp.Given as goal

abbrev pub invariant-loop-brand : goal.invariant-loop-brand
invariant-loop-brand l =
    goal.iterator-loop-brand.can_next l.brand-iterator
    × goal.iterator-loop-brand.is_finite l.brand-iterator
    × (chunks_exact_size l.brand-iterator ≡ 4)
    × NoneBefore l.f l.head (chunks_exact_rest l.brand-iterator)
