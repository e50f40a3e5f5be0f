use mathlib.Core.Path.{refl, sym, ◌∙◌}
use Rattle.boxes.proofs.Walks.{first_there, none_there}
use Rattle.counts.proofs.Walked.{going_all, going_hit, going_miss}
use Rattle.counts.proofs.tally.Goals as goal
use Rattle.counts.proofs.tally.Goals.{then-wanted, else-wanted, then-wanted-2, else-wanted-2}

pub loop-y-preserved-then-wanted-3 : goal.loop-y-preserved-then-wanted-3
loop-y-preserved-then-wanted-3 c =
    let i = c.loop-y.invariant in
    let n = c.in-Some.ensures.steps in
    let f = first_there i.0 n.1 in (
      n.0 ∙ i.0,
      elim c.if-wanted.branch [
        | then-wanted y ↦ going_hit f i.1 (sym c.wanted.ensures ∙ y.if-wanted.true) y.again_at-u.ensures y.u-is
        | else-wanted y ↦ going_miss f i.1 (sym c.wanted.ensures ∙ y.if-wanted.false) y.u-is
      ],
      elim c.if-wanted-2.branch [
        | then-wanted-2 y ↦ going_hit f i.2 (sym c.wanted-in-loop-y.ensures ∙ y.if-wanted-2.true) y.again_at-v.ensures y.v-is
        | else-wanted-2 y ↦ going_miss f i.2 (sym c.wanted-in-loop-y.ensures ∙ y.if-wanted-2.false) y.v-is
      ],
      going_hit f i.3 (sym c.wanted-in-loop-y-2.ensures ∙ c.if-wanted-3.true) c.again_at-x.ensures refl,
    )

pub loop-y-preserved : goal.loop-y-preserved
loop-y-preserved c =
    let i = c.loop-y.invariant in
    let n = c.in-Some.ensures.steps in
    let f = first_there i.0 n.1 in (
      n.0 ∙ i.0,
      elim c.if-wanted.branch [
        | then-wanted y ↦ going_hit f i.1 (sym c.wanted.ensures ∙ y.if-wanted.true) y.again_at-u.ensures y.u-is
        | else-wanted y ↦ going_miss f i.1 (sym c.wanted.ensures ∙ y.if-wanted.false) y.u-is
      ],
      elim c.if-wanted-2.branch [
        | then-wanted-2 y ↦ going_hit f i.2 (sym c.wanted-in-loop-y.ensures ∙ y.if-wanted-2.true) y.again_at-v.ensures y.v-is
        | else-wanted-2 y ↦ going_miss f i.2 (sym c.wanted-in-loop-y.ensures ∙ y.if-wanted-2.false) y.v-is
      ],
      going_miss f i.3 (sym c.wanted-in-loop-y-2.ensures ∙ c.if-wanted-3.false) refl,
    )

pub returns : goal.returns
returns c =
    let i = c.loop-y.invariant in
    let o = none_there i.0 _ c.in-None.ensures.steps.1.0 in
    record { a = going_all i.1 o; b = going_all i.2 o; c = going_all i.3 o }
