-- The records of the first k files are written, and end here.
use Rattle.std.proofs.Common.{◌≡◌, take}
use Rattle.bundle.specs.Front.{bundle_length}
use Rattle.pack.specs.Sizes.{sizes}
use Rattle.pack.proofs.write_records.Given as goal

abbrev pub invariant-loop-k : goal.invariant-loop-k
invariant-loop-k g l = l.at ≡ bundle_length (take l.k (sizes l.slots))
