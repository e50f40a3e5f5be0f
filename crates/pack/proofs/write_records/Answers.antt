-- The six bytes and the file's own are those of the next record. Fewer records are no longer than all of them, which are within the limit.
use Rattle.std.proofs.Common.{refl, sym, ap, ◌∙◌, arith}
use Rattle.bundle.specs.Front.{front_of, bundle_length}
use Rattle.pack.proofs.Sizes.{size_of_ready, next_file, first_files}
use Rattle.pack.proofs.write_records.Goals as goal

pub loop-k-init : goal.loop-k-init
unfolding bundle_length
loop-k-init g c = refl

pub put_front-requires : goal.put_front-requires
put_front-requires g c =
    let slots = c.args.slots.now in (
      c.front.ensures ∙ ap front_of (sym (size_of_ready slots c.loop-k.k c.in-Some.is)),
      c.loop-k.invariant,
      omega (arith, first_files slots c.loop-k.k (omega arith)),
    )

pub copy-requires : goal.copy-requires
copy-requires g c = omega (arith, c.in_ok-from.ensures, first_files c.args.slots.now c.loop-k.k (omega arith))

pub loop-k-preserved : goal.loop-k-preserved
loop-k-preserved g c = omega (arith, c.in_ok-from.ensures, c.in_ok-at.ensures, next_file c.args.slots.now c.loop-k.k (omega arith) c.in-Some.is)
