-- `pieces::state::encode` meets its contract. Assumes nothing.
use borrow.Author.Rules.{rules}
use Rattle.pieces.specs.State.{state_of, judged_from, facts_from, spot_from}
use Rattle.pieces.proofs.Numbers24.{low_same, plain_same}
use Rattle.pieces.proofs.state.encode.Goals as goal

pub returns-in-Err : goal.returns-in-Err
unfolding state_of judged_from spot_from
returns-in-Err c = rw (← c.in-Err.is, c.of_course-c.ensures, c.of_phase-p.ensures)

pub returns-in-Ok : goal.returns-in-Ok
unfolding state_of judged_from facts_from spot_from
returns-in-Ok c =
    rw (
      plain_same c.in-Ok.f.plain _ c.from-in-Ok-6.ensures,
      low_same _ _ c.from-in-Ok-5.ensures (search rules),
      low_same _ _ c.from-in-Ok-4.ensures (search rules),
      low_same _ _ c.from-in-Ok-3.ensures (search rules),
      low_same _ _ c.from-in-Ok-2.ensures (search rules),
      low_same _ _ c.from-in-Ok.ensures (search rules),
      low_same _ _ c.from.ensures (search rules),
      c.of_tick-end.ensures,
      c.of_tick-start.ensures,
      ← c.in-Ok.is,
      c.of_course-c.ensures,
      c.of_phase-p.ensures,
    )
