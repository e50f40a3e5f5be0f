-- `header::bodies::read_timed` meets its contract. Assumes nothing.
use mathlib.Core.Path.{refl}
use Rattle.fields.proofs.Forms.{as_zero, as_one, as_none}
use Rattle.header.proofs.Read.{good_body, bad, timed_zero, timed_one}
use Rattle.header.proofs.bodies.read_timed.Goals as goal

pub returns-in-Zero : goal.returns-in-Zero
returns-in-Zero c = let h = as_zero _ _ _ _ c.versioned.ensures (rw c.in-Zero.is at c.in_ok-versioned.was) in
    (good_body _ _ _ refl h.0, timed_zero _ _ h.1 c.word.ensures)

pub returns-in-One : goal.returns-in-One
returns-in-One c = let h = as_one _ _ _ _ c.versioned.ensures (rw c.in-One.is at c.in_ok-versioned.was) in
    (good_body _ _ _ refl h.0, timed_one _ _ h.1 c.word-in-One.ensures)

pub returns-in_err-versioned : goal.returns-in_err-versioned
returns-in_err-versioned c = rw c.from_residual.ensures (bad _ _ _ refl (as_none _ _ _ _ c.versioned.ensures c.in_err-versioned.was))
