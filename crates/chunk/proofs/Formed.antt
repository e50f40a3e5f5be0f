-- Laws of rule 15 before the runs: what a body's form, its flags and the numbers read from it come to.
use mathlib.Core.Path.{◌≡◌, ap, ◌∙◌}
use mathlib.Core.List.{List}
use mathlib.Core.Bool.{Bool, true, false, false≢true}
use Prim.Native.Nat.{ℕ, ◌+◌, ◌-◌, ◌<◌, ◌≤◌}
use native.Mathlib.Omega.{arith}
use lib.Dec.{eqb}
use borrow.Author.Tests.{eq-eqb, ne_eqb, eqb-true}
use Rattle.numbers.specs.Numbers.{be3, be4, be8, has, when}
use Rattle.rules.specs.Boxes.{head_of}
use Rattle.rules.specs.Fields.{short_size, version, box_flags, field, plain, has_form}
use Rattle.rules.specs.Chunk.{bytes_for, tfhd_size, tfhd_in, tfdt_in, start_of, defaults_in, runs_in, first_flags, is_sync, sync_in}
use Rattle.rules.specs.declared.Defaults.{Defaults}
use Rattle.rules.specs.declared.Spot.{Spot}
use Rattle.boxes.specs.Stands.{Stands, StandsAt}
use Rattle.fields.proofs.Forms.{short_is, plain_not}
use Rattle.runs.proofs.First.{flags_read, first_by_flags}
use Rattle.runs.proofs.Flags.{bytes_set}

-- the size that flags ask for
pub tfhd_low : (f : ℕ) → 16 ≤ tfhd_size f
unfolding tfhd_size
tfhd_low f = omega arith

-- the defaults of a `tfhd` that are there end in it
pub reach_duration : (f : ℕ) → has f 0x8 ≡ true → 8 + bytes_for 8 f 0x1 + bytes_for 4 f 0x2 + 12 ≤ tfhd_size f
unfolding tfhd_size
reach_duration f e = omega (arith, bytes_set 4 f 0x8 e)

pub reach_size : (f : ℕ) → has f 0x10 ≡ true → 8 + bytes_for 8 f 0x1 + bytes_for 4 f 0x2 + bytes_for 4 f 0x8 + 12 ≤ tfhd_size f
unfolding tfhd_size
reach_size f e = omega (arith, bytes_set 4 f 0x10 e)

pub reach_flags : (f : ℕ) → has f 0x20 ≡ true → 8 + bytes_for 8 f 0x1 + bytes_for 4 f 0x2 + bytes_for 4 f 0x8 + bytes_for 4 f 0x10 + 12 ≤ tfhd_size f
unfolding tfhd_size
reach_flags f e = omega (arith, bytes_set 4 f 0x20 e)

module _ (m : List ℕ) (b : Spot) (st : Stands m b) where
  -- a `tfhd` that has no room for its flags and its track ID
  pub tfhd_short : b.size - b.head < 8 → has_form (plain (tfhd_size (box_flags m b.at))) m b.at ≡ false
  tfhd_short l =
      let z = tfhd_size (box_flags m b.at) in
      plain_not m b st z (omega (arith, tfhd_low (box_flags m b.at))) (λ e. omega (arith, e, l, tfhd_low (box_flags m b.at)))

  -- a body of version 0 that has its size
  pub plain_size : (a : ℕ) → 8 ≤ a → has_form (plain a) m b.at ≡ true → b.size + 8 ≡ b.head + a
  unfolding has_form
  plain_size a l e =
      let by : (t : Bool) → when t (eqb (short_size m b.at) a) false ≡ true → b.size + 8 ≡ b.head + a
      = elim [
        | true ↦ λ q. omega (arith, short_is m b st, eqb-true (short_size m b.at) a q, st.holds)
        | false ↦ λ q. absurd (false≢true q)
      ] in
      by (eqb (version m b.at) 0) e

-- the start, by the version
module _ (m : List ℕ) (b : Spot) (place : b.at ≡ tfdt_in m) (t : ℕ) where
  pub start_other : (version m b.at ≡ 1 → ⊥) → t ≡ field m b.at 4 → t ≡ start_of m
  unfolding start_of
  start_other v e = rw (← place, ne_eqb (version m b.at) 1 v) e

  pub start_one : version m b.at ≡ 1 → t ≡ be8 m (b.at + head_of m b.at + 4) → t ≡ start_of m
  unfolding start_of
  start_one v e = rw (← place, eq-eqb (version m b.at) 1 v) e

-- the default flags, by the flags of the `tfhd`
module _ (m : List ℕ) (b : Spot) (st : StandsAt m (tfhd_in m) b) (d : Defaults) (f : ℕ) (flags : f ≡ be3 m (b.at + b.head + 1)) where
  flags_are : f ≡ box_flags m b.at
  flags_are = flags_read m b st.stands flags

  pub flags_own :
      (k v : ℕ) → has f 0x20 ≡ true → k ≡ 8 + bytes_for 8 f 0x1 + bytes_for 4 f 0x2 + bytes_for 4 f 0x8 + bytes_for 4 f 0x10 →
      v ≡ be4 m (b.at + b.head + k) → v ≡ (defaults_in m d).flags
  unfolding defaults_in field
  flags_own k v e here is = is ∙ rw (← st.place, ← flags_are, e, ← here, st.stands.head)

  pub flags_default : has f 0x20 ≡ false → d.flags ≡ (defaults_in m d).flags
  unfolding defaults_in
  flags_default e = rw (← st.place, ← flags_are, e)

-- whether the first sample is sync goes by the default flags alone
pub sync_by_flags :
    (m : List ℕ) (d own : Defaults) (rs : List ℕ) → own.flags ≡ (defaults_in m d).flags → rs ≡ runs_in m → is_sync (first_flags m own rs) ≡ sync_in m d
unfolding sync_in
sync_by_flags m d own rs e is = ap is_sync (ap (first_flags m own) is ∙ first_by_flags m own (defaults_in m d) e (runs_in m))
