-- `runs::trun::Trun::is_placed` meets its contract. Assumes nothing.
use Rattle.std.proofs.Common.{sym, ◌∙◌, arith, w32}
use borrow.Author.Rules.{sfits_of}
use mir.ValLaws.{to_z-of_z}
use Rattle.rules.specs.Chunk.{placed, offset_is}
use Rattle.runs.proofs.Flags.{reach_offset}
use Rattle.runs.proofs.trun.Trun.is_placed.Goals as goal

pub word-requires : goal.word-requires
word-requires c =
    (c.requires.stands, omega (arith, c.requires.fills, reach_offset c.args.self.flags (sym c.has.ensures ∙ c.if-has.true)))

pub returns-then-has : goal.returns-then-has
unfolding placed offset_is
returns-then-has c =
    rw (← c.requires.flags, ← c.has.ensures, c.if-has.true, ← c.word.ensures, ← c.signed-offset.ensures)
    (rw (to_z-of_z w32 c.signed-offset.result (sfits_of c.signed-offset.type_inv)) at c.is_place.ensures)

pub returns : goal.returns
unfolding placed
returns c = rw (← c.requires.flags, ← c.has.ensures, c.if-has.false)
