-- `lines::Text::ticks` meets its contract. The invariant: the numbers before the next are put, 21 bytes a line at most. Assumes nothing.
use borrow.Author.Rules.{rules}
use Rattle.lines.specs.Lines.{tick_line}
use Rattle.lines.proofs.Texts.{then}
use Rattle.lines.proofs.Ticks.{none, next}
use Rattle.lines.proofs.Text.ticks.Goals as goal

pub loop-tick-init : goal.loop-tick-init
loop-tick-init c = search (rules, none c.args.self.now)

pub loop-tick-preserved : goal.loop-tick-preserved
unfolding tick_line
loop-tick-preserved c =
    let p = next c.args.ticks.now c.loop-tick.tick-index c.loop-tick-test.true c.loop-tick.invariant.0 (then c.number.ensures.puts c.line_end.ensures.puts) in
    search (rules, p)
