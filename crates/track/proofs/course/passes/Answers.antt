-- `track::course::passes` meets its contract. Assumes nothing.
use mathlib.Core.Path.{sym, ◌∙◌}
use mathlib.Core.Bool.{true≢false}
use Rattle.track.proofs.Stepping.{passes_broken, loosely, strictly}
use Rattle.track.proofs.course.passes.Goals.{in-Typed, in_default-matches}
use Rattle.track.proofs.course.passes.Goals as goal

pub returns-in_default : goal.returns-in_default
returns-in_default c = rw c.in_default.is (passes_broken _ _)

pub returns-then-matches : goal.returns-then-matches
returns-then-matches c =
    elim c.match-matches.branch [
      | in-Typed w ↦ rw c.in-Ok.is (loosely _ _ _ c.ordered.ensures w.in-Typed.is)
      | in_default-matches w ↦ absurd (true≢false (sym c.if-matches.true ∙ w.matches-is))
    ]

pub returns-else-matches : goal.returns-else-matches
returns-else-matches c =
    elim c.match-matches.branch [
      | in-Typed w ↦ absurd (true≢false (sym w.matches-is ∙ c.if-matches.false))
      | in_default-matches w ↦
          rw (c.in-Ok.is, w.matches-is) (strictly _ _ w.in_default-matches.not-Typed w.in_default-matches.not-Headed w.in_default-matches.not-Paired)
    ]
