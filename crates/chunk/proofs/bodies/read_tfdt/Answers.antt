-- `chunk::bodies::read_tfdt` meets its contract. Assumes nothing.
use native.Mathlib.Omega.{arith}
use Rattle.runs.proofs.Formed.{body_right, body_wrong}
use Rattle.fields.proofs.Forms.{as_zero, as_one, as_none}
use Rattle.chunk.proofs.Formed.{start_other, start_one}
use Rattle.chunk.proofs.bodies.read_tfdt.Goals as goal

pub returns-in-Zero : goal.returns-in-Zero
returns-in-Zero c = let p = c.requires in
    let v = as_zero _ _ _ _ c.versioned.ensures (rw c.in-Zero.is at c.in_ok-versioned.was) in
    (rw (← p.place) (body_right _ _ _ v.0), start_other _ c.args.b p.place _ (λ o. omega (arith, o, v.1)) c.word.ensures)

pub returns-in-One : goal.returns-in-One
returns-in-One c = let p = c.requires in
    let v = as_one _ _ _ _ c.versioned.ensures (rw c.in-One.is at c.in_ok-versioned.was) in
    (rw (← p.place) (body_right _ _ _ v.0), start_one _ c.args.b p.place _ v.1 c.double.ensures)

pub returns-in_err-versioned : goal.returns-in_err-versioned
returns-in_err-versioned c = rw c.from_residual.ensures (rw (← c.requires.place) (body_wrong _ _ _ (as_none _ _ _ _ c.versioned.ensures c.in_err-versioned.was)))
