-- `header::bodies::read_trex` meets its contract. Assumes nothing.
use Rattle.header.proofs.Read.{good_body, defaults_are}
use Rattle.header.proofs.bodies.read_trex.Goals as goal

pub returns : goal.returns
returns c = (good_body _ _ _ c.is_plain.ensures c.if-not-is_plain.false, c.word.ensures, defaults_are _ _ c.word-2.ensures c.word-3.ensures c.word-4.ensures)
