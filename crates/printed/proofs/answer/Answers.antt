-- `printed::answer` meets its contract: the line of an input over the limit, or the lines of the set job's outcome. Assumes nothing.
use Rattle.printed.specs.Printed.{table}
use Rattle.printed.proofs.Printed.{over, held}
use Rattle.printed.proofs.answer.Goals as goal

pub returns-then-input-gt-INPUT_LIMIT : goal.returns-then-input-gt-INPUT_LIMIT
returns-then-input-gt-INPUT_LIMIT c =
    let a = c.args in
    rw (over a.input.now c.if-input-gt-INPUT_LIMIT.true) at c.over_line.ensures

pub returns : goal.returns
unfolding table
returns c =
    let a = c.args in
    rw (held a.input.now c.if-input-gt-INPUT_LIMIT.false c.count_tracks.ensures c.set_job-v.ensures) at c.set_lines.ensures
