-- Small sets, computed: T by itself is accepted, and so are a shorter track and T a tick later. What T is beside these stands in proofs/Sets.
use Rattle.std.specs.Prelude.{◌≡◌, refl, [], ◌∷◌, Ok}
use Rattle.rules.specs.Bytes.{single, shifted, track_t}
use Rattle.rules.specs.Computed.{computed}
use Rattle.rules.specs.Track.{ruling, fragment_count, timescale}
use Rattle.rules.specs.Rules.{◌then◌, of_track}
use Rattle.rules.specs.Plans.{longest}
use Rattle.rules.specs.Set.{handler, rulings, agree, set_ruling}

-- each of these tracks is accepted by itself
pub t_accepted : ruling track_t ≡ Ok tt
unfolding computed
t_accepted = refl

pub single_accepted : ruling (single 0 108 30) ≡ Ok tt
unfolding computed single
single_accepted = refl

pub shifted_accepted : ruling shifted ≡ Ok tt
unfolding computed shifted
shifted_accepted = refl

-- and has T's handler and timescale
pub single_alike : (handler (single 0 108 30) ≡ handler track_t) × (timescale (single 0 108 30) ≡ timescale track_t)
unfolding computed single
single_alike = (refl, refl)

pub shifted_alike : (handler shifted ≡ handler track_t) × (timescale shifted ≡ timescale track_t)
unfolding computed shifted
shifted_alike = (refl, refl)

-- T has two fragments, and by itself is a set
pub t_fragments : fragment_count track_t ≡ 2
unfolding computed
t_fragments = refl

pub set_of_t : set_ruling (track_t ∷ []) ≡ Ok tt
unfolding set_ruling rulings agree of_track ◌then◌
set_of_t = rw t_accepted

-- plans of T beside a shorter track are compared up to T's two fragments
pub longest_of_two : longest (track_t ∷ single 0 108 30 ∷ []) ≡ 2
unfolding computed single longest
longest_of_two = refl

pub longest_of_none : longest [] ≡ 0
unfolding longest
longest_of_none = refl
