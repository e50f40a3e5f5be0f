-- `runs::and_run` meets its contract. Assumes nothing.
use Rattle.std.proofs.Common.{ap, ◌∙◌, arith}
use Rattle.rules.specs.Rules.{◌then◌, Rule}
use Rattle.runs.proofs.Walked.{walked_out, walked_in}
use Rattle.runs.proofs.and_run.Goals as goal

pub returns-then-not-due : goal.returns-then-not-due
unfolding ◌then◌
returns-then-not-due c =
    let a = c.args in
    let t = rw c.in-Some.is at c.read_trun.ensures in
    let idle = rw c.if-not-due.true at c.due.ensures in (
      λ all rest w.
          walked_out a.m.now a.want a.d a.from all a.r.at rest a.t w t.0 (omega (arith, t.2.stands.fits)) _ _ t.2.flags t.2.count
          c.not_both.result c.not_both.ensures _ (c.and-clash.ensures ∙ ap (λ (q : Rule). a.t.clash then q) c.must.ensures) _ idle,
      omega arith,
    )

pub returns : goal.returns
unfolding ◌then◌
returns c =
    let a = c.args in
    let t = rw c.in-Some.is at c.read_trun.ensures in
    let due = rw c.if-not-due.false at c.due.ensures in (
      λ all rest w.
          walked_in a.m.now a.want a.d a.from all a.r.at rest a.t w t.0 (omega (arith, t.2.stands.fits)) _ _ t.2.flags t.2.count
          c.not_both.result c.not_both.ensures _ (c.and-clash.ensures ∙ ap (λ (q : Rule). a.t.clash then q) c.must.ensures) due
          c.and_samples-span.result (rw t.1 at c.and_samples-span.ensures),
      omega arith,
    )
