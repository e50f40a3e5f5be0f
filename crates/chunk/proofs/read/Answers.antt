-- `chunk::read` meets its contract. Assumes nothing.
use mathlib.Core.Path.{refl, ◌∙◌}
use native.Mathlib.Omega.{arith}
use Rattle.rules.specs.Chunk.{rule15}
use Rattle.rules.proofs.Then.{then_holds, then_breaks}
use Rattle.chunk.proofs.Judged.{broken_15}
use Rattle.chunk.proofs.read.Goals as goal

pub returns-in_default : goal.returns-in_default
unfolding rule15
returns-in_default c =
    let b = c.requires.1.mfhd in
    rw c.misformed.ensures
    (broken_15 c.args.m.now c.args.s c.requires.2 (rw b.place (then_breaks _ c.in_default.ensures)) (refl, omega (arith, b.stands.fits)))

pub returns-in_default-read_tfhd : goal.returns-in_default-read_tfhd
unfolding rule15
returns-in_default-read_tfhd c =
    let b = c.requires.1.tfhd in
    rw c.misformed-in_default-read_tfhd.ensures
    (broken_15 c.args.m.now c.args.s c.requires.2 (rw b.place (then_holds _ c.in-Some.ensures ∙ (then_breaks _ c.in_default-read_tfhd.ensures))) (refl, omega (arith, b.stands.fits)))

pub returns-in_default-read_tfdt : goal.returns-in_default-read_tfdt
unfolding rule15
returns-in_default-read_tfdt c =
    let b = c.requires.1.tfdt in
    rw c.misformed-in_default-read_tfdt.ensures
    (broken_15 c.args.m.now c.args.s c.requires.2 (rw b.place (then_holds _ c.in-Some.ensures ∙ (then_holds _ c.in-Some-read_tfhd.ensures.0 ∙ (then_breaks _ c.in_default-read_tfdt.ensures)))) (refl, omega (arith, b.stands.fits)))

pub settle-requires-clause-m_value : goal.settle-requires-clause-m_value
unfolding rule15
settle-requires-clause-m_value c =
    (c.requires.2, then_holds _ c.in-Some.ensures ∙ then_holds _ c.in-Some-read_tfhd.ensures.0 ∙ then_holds _ c.in-Some-read_tfdt.ensures.0)
