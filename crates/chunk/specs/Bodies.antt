-- Rule 15: what the readers of a chunk's boxes answer.
use Rattle.std.specs.Prelude.{ℕ, ◌≡◌, List, Option, None, Some, Ok}
use Rattle.rules.specs.Fields.{box_flags, wrong_body, body}
use Rattle.rules.specs.Chunk.{mfhd_in, traf_in, tfhd_in, tfdt_in, first_run, mfhd_form, tfhd_form, tfdt_form, tfhd_id, start_of, defaults_in}
use Rattle.rules.specs.declared.Defaults.{Defaults}
use Rattle.boxes.specs.Stands.{StandsAt}
use Rattle.chunk.specs.declared.bodies.Tfhd.{Tfhd}
use Rattle.chunk.specs.declared.bodies.InMoof.{InMoof}
use Rattle.chunk.specs.declared.bodies.BodyValues.{BodyValues}

-- `mfhd`: 16, version 0
abbrev pub SaysMfhd : Option (Unit {0}) → List ℕ → Type 0
SaysMfhd (Some u) m = body 15 mfhd_form m (mfhd_in m) ≡ Ok tt
SaysMfhd None m = body 15 mfhd_form m (mfhd_in m) ≡ wrong_body 15 mfhd_form m (mfhd_in m)

-- `tfhd`: version 0, sized by its flags; its flags, its track ID, and its defaults, else those of `trex`
abbrev pub SaysTfhd : Option Tfhd → List ℕ → Defaults → Type 0
SaysTfhd (Some t) m d =
    (body 15 (tfhd_form (box_flags m (tfhd_in m))) m (tfhd_in m) ≡ Ok tt)
    × (t.flags ≡ box_flags m (tfhd_in m))
    × (t.id ≡ tfhd_id m)
    × (t.own ≡ defaults_in m d)
SaysTfhd None m d =
    body 15 (tfhd_form (box_flags m (tfhd_in m))) m (tfhd_in m) ≡ wrong_body 15 (tfhd_form (box_flags m (tfhd_in m))) m (tfhd_in m)

-- `tfdt`: 16 (version 0) or 20 (version 1); the start
abbrev pub SaysTfdt : Option ℕ → List ℕ → Type 0
SaysTfdt (Some t) m = (body 15 tfdt_form m (tfdt_in m) ≡ Ok tt) × (t ≡ start_of m)
SaysTfdt None m = body 15 tfdt_form m (tfdt_in m) ≡ wrong_body 15 tfdt_form m (tfdt_in m)

-- where a chunk's boxes stand
pub record MoofIn (m : List ℕ) (x : InMoof) : Type 0 where
  pub mfhd : StandsAt m (mfhd_in m) x.mfhd
  pub traf : StandsAt m (traf_in m) x.traf
  pub tfhd : StandsAt m (tfhd_in m) x.tfhd
  pub tfdt : StandsAt m (tfdt_in m) x.tfdt
  pub run : StandsAt m (first_run m) x.run

-- what the bodies before the runs say, with the `trex` defaults
pub record BodyIn (m : List ℕ) (d : Defaults) (k : BodyValues) : Type 0 where
  pub flags : k.flags ≡ box_flags m (tfhd_in m)
  pub id : k.id ≡ tfhd_id m
  pub start : k.start ≡ start_of m
  pub own : k.own ≡ defaults_in m d
