-- Laws of rule 15: what a body's form comes to, and that of a run.
use Rattle.std.proofs.Common.{◌≡◌, ℕ, ◌+◌, ◌-◌, ◌*◌, ◌<◌, ◌≤◌, true, false, Some, None, List, refl, mul-le-mul, arith}
use Rattle.rules.specs.Fields.{Form, box_flags, field, either, has_form, body}
use Rattle.rules.specs.Chunk.{run_head, stride, count_of, run_size, run_form}
use Rattle.rules.specs.Rules.{breaks}
use Rattle.std.specs.Prelude.{None, Some, Ok}
use Rattle.rules.specs.declared.Spot.{Spot}
use Rattle.rules.proofs.Then.{must_true, must_false}
use Rattle.boxes.specs.Stands.{Stands}
use Rattle.fields.proofs.Forms.{is_neither}
use Rattle.runs.specs.Trun.{SaysTrun}

-- a body that has its form, and one that has not
module _ (f : Form) (m : List ℕ) (at : ℕ) where
  pub body_right : has_form f m at ≡ true → body 15 f m at ≡ Ok tt
  unfolding body
  body_right e = must_true 15 at e

  pub body_wrong : has_form f m at ≡ false → body 15 f m at ≡ breaks 15 0 at
  unfolding body
  body_wrong e = must_false 15 at e

-- the bytes that flags ask for
pub head_low : (f : ℕ) → 8 ≤ run_head f
unfolding run_head
head_low f = omega arith

-- how large the samples' fields of a run get
pub own_fits : (s n : ℕ) → s ≤ 16 → n ≤ 4294967295 → s * n ≤ 68719476720
own_fits s n h k = omega (arith, mul-le-mul {n₁ = s} {m₁ = n} {n₂ = 16} {m₂ = 4294967295} h k)

module _ (m : List ℕ) (b : Spot) (st : Stands m b) where
  -- a run that has no room for its flags and its count
  pub run_short : b.size - b.head < 8 → SaysTrun None m b
  unfolding run_size
  run_short l =
      let z = run_size m b.at in
      let h = head_low (box_flags m b.at) in
      body_wrong (run_form m b.at) m b.at
      (is_neither m b st z z (omega (arith, h)) (omega (arith, h)) (λ e v. omega (arith, e, l, h)) (λ e v. omega (arith, e, l, h)))

  -- one that has, by its version
  module _ (f n s k : ℕ) (flags : f ≡ box_flags m b.at) (count : n ≡ field m b.at 4) (step : s ≡ stride f) (fore : k ≡ run_head f) where
    run_size_lem : 8 + k + s * n ≡ run_size m b.at
    unfolding run_size count_of
    run_size_lem = rw (fore, step, count, flags)

    pub run_told : has_form (either (8 + k + s * n) (8 + k + s * n)) m b.at ≡ true → b.size + 8 ≡ b.head + (8 + k + s * n) → SaysTrun (Some (record { spot = b; flags = f; count = n })) m b
    unfolding count_of
    run_told e z = (
      body_right (run_form m b.at) m b.at (rw run_size_lem at e),
      refl,
      record { stands = st; flags = flags; count = count; fills = rw (← fore, ← step) (omega (arith, z)) },
    )

    pub run_other : has_form (either (8 + k + s * n) (8 + k + s * n)) m b.at ≡ false → SaysTrun None m b
    run_other e = body_wrong (run_form m b.at) m b.at (rw run_size_lem at e)
