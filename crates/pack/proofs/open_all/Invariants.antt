-- The first k files are open, and the bundle of their sizes ends here, within the limit.
use Rattle.std.proofs.Common.{◌≤◌, ◌≡◌, take, IsSome}
use Rattle.std.specs.List.{AllWithin}
use Rattle.bundle.specs.Front.{bundle_length}
use Rattle.pack.specs.Sizes.{sizes}
use Rattle.pack.proofs.open_all.Given as goal

abbrev pub invariant-loop-k : goal.invariant-loop-k
invariant-loop-k g l =
    (l.end ≤ 1073741824) × (l.end ≡ bundle_length (take l.k (sizes l.slots))) × AllWithin IsSome l.slots 0 l.k
