-- Where the fields of a chunk's boxes stand.
use Rattle.std.specs.Prelude.{ℕ, ◌+◌, ◌≤◌, ◌≡◌, Bool, true}
use Rattle.rules.specs.Chunk.{bytes_for}
use Rattle.rules.specs.declared.Spot.{Spot}
use Rattle.chunk.specs.declared.layout.Offsets.{Offsets}

-- where a flag is set, the field k bytes behind the header ends in the box
abbrev pub FieldInside : Bool → Spot → ℕ → Type 0
FieldInside set b k = set ≡ true → b.head + k + 4 ≤ b.size

-- how far behind the header of a `tfhd` with these flags each default stands, none further than 32
pub record DefaultsStand (at : Offsets) (f : ℕ) : Type 0 where
  pub duration : at.duration ≡ 8 + bytes_for 8 f 0x1 + bytes_for 4 f 0x2
  pub size : at.size ≡ 8 + bytes_for 8 f 0x1 + bytes_for 4 f 0x2 + bytes_for 4 f 0x8
  pub flags : at.flags ≡ 8 + bytes_for 8 f 0x1 + bytes_for 4 f 0x2 + bytes_for 4 f 0x8 + bytes_for 4 f 0x10
  pub low : at.flags ≤ 32
