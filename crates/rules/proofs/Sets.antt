-- Small sets that are refused, computed: T beside a shorter track under 27, beside itself a tick later under 28, though the durations agree. They stand
-- behind the definitions that they rest on, since one follows from another.
use Rattle.std.specs.Prelude.{◌≡◌, refl, [], ◌∷◌}
use Rattle.rules.specs.Bytes.{single, shifted, track_t}
use Rattle.rules.specs.Computed.{computed}
use Rattle.rules.specs.Rules.{◌then◌, of_track, breaks}
use Rattle.rules.specs.Set.{rulings, agree, set_ruling}
use Rattle.rules.specs.Sets.{t_accepted, single_accepted, shifted_accepted}

-- the two sets that are refused: what track 1 is beside T, and so of the set
beside_27 : agree track_t 1 (single 0 108 30 ∷ []) ≡ breaks 27 1 630
unfolding computed single
beside_27 = refl

pub set_27 : set_ruling (track_t ∷ single 0 108 30 ∷ []) ≡ breaks 27 1 630
unfolding set_ruling rulings of_track ◌then◌
set_27 = rw (t_accepted, single_accepted) beside_27

beside_28 : agree track_t 1 (shifted ∷ []) ≡ breaks 28 1 492
unfolding computed shifted
beside_28 = refl

pub set_28 : set_ruling (track_t ∷ shifted ∷ []) ≡ breaks 28 1 492
unfolding set_ruling rulings of_track ◌then◌
set_28 = rw (t_accepted, shifted_accepted) beside_28
