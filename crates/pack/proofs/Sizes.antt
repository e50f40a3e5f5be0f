-- Laws of the files' bytes: what one file more says of the bundle.
use Rattle.std.proofs.Common.{ℕ, ◌+◌, ◌<◌, ◌≤◌, ◌≡◌, ◌∙◌, ap, subst, take_all, List, Option, Some, None, length, take, get_or, set, arith}
use Rattle.std.proofs.lemmas.List.{length-map, map-set}
use Rattle.std.proofs.Math.ListN.{get_or-map}
use Rattle.bundle.specs.Front.{bundle_length}
use Rattle.bundle.proofs.Lengths.{next_length, stored_length, fewer}
use Rattle.pack.specs.declared.Source.{Source}
use Rattle.pack.specs.Sizes.{size_in, sizes}

-- the size of file k, where it is ready
pub size_of_ready : (slots : List (Option Source)) (k : ℕ) {r : Source} → get_or slots k None ≡ Some r → get_or (sizes slots) k 0 ≡ r.size
size_of_ready slots k e = get_or-map size_in slots k None ∙ ap size_in e

-- the next file, where it stands and where it is stored
pub next_file : (slots : List (Option Source)) (k : ℕ) {r : Source} → k < length slots → get_or slots k None ≡ Some r
    → bundle_length (take (k + 1) (sizes slots)) ≡ bundle_length (take k (sizes slots)) + 6 + r.size
next_file slots k h e =
    next_length (sizes slots) k (omega (arith, length-map slots size_in))
    ∙ ap (λ (n : ℕ). bundle_length (take k (sizes slots)) + 6 + n) (size_of_ready slots k e)

pub stored_file : (slots : List (Option Source)) (k : ℕ) (r : Source) → k < length slots
    → bundle_length (take (k + 1) (sizes (set slots k (Some r)))) ≡ bundle_length (take k (sizes slots)) + 6 + r.size
stored_file slots k r h =
    ap (λ (ns : List ℕ). bundle_length (take (k + 1) ns)) (map-set size_in slots k (Some r))
    ∙ stored_length (sizes slots) k r.size (omega (arith, length-map slots size_in))

-- the first k records are no longer than all of them
pub first_files : (slots : List (Option Source)) (k : ℕ) → k ≤ length slots → bundle_length (take k (sizes slots)) ≤ bundle_length (sizes slots)
first_files slots k h =
    subst (λ (ns : List ℕ). bundle_length (take k (sizes slots)) ≤ bundle_length ns) (take_all (length slots) (sizes slots) (omega (arith, length-map slots size_in)))
    (fewer (sizes slots) k (length slots) h)
