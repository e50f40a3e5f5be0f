-- The next file is open, and the bundle is longer by its record.
use Rattle.std.proofs.Common.{refl, Some, IsSome, arith}
use Rattle.std.proofs.lemmas.List.Elements.{AllWithin-more_set, AllWithin-none}
use Rattle.bundle.specs.Front.{bundle_length}
use Rattle.pack.proofs.Sizes.{stored_file}
use Rattle.pack.proofs.open_all.Goals as goal

pub loop-k-init : goal.loop-k-init
unfolding bundle_length
loop-k-init g c = (omega arith, refl, AllWithin-none IsSome c.args.slots.now 0)

pub loop-k-preserved : goal.loop-k-preserved
loop-k-preserved g c =
    let l = c.loop-k in (
      omega (arith, c.from.ensures, c.in_ok-r.ensures),
      omega (arith, c.from.ensures, stored_file l.slots l.k c.in_ok-r.r (omega arith)),
      AllWithin-more_set l.slots l.k (Some c.in_ok-r.r) (omega arith) IsSome l.invariant.2 refl,
    )
