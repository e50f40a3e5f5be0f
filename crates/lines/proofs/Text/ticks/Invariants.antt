-- `lines::Text::ticks` meets its contract. The invariant: the numbers before the next are put, 21 bytes a line at most. Assumes nothing.
use Rattle.std.proofs.Common.{◌+◌, ◌*◌, ◌≤◌, take}
use Rattle.lines.specs.Lines.{tick_lines}
use Rattle.lines.specs.Texts.{Puts}
use Rattle.lines.proofs.Text.ticks.Given as goal

abbrev pub invariant-loop-tick : goal.invariant-loop-tick
invariant-loop-tick l =
    Puts l.initial.self (tick_lines (take l.tick-index l.ticks)) l.self × (l.self.len ≤ l.initial.self.len + 21 * l.tick-index)
