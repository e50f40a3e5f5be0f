-- `bundle::frame_records` meets its contract. Assumes nothing.
use Rattle.std.proofs.Common.{◌≡◌, ◌+◌, ℕ, refl, subst, arith}
use Rattle.rules.specs.Bundle.{rule24_from}
use Rattle.bundle.specs.Says.{ended_of}
use Rattle.bundle.proofs.Read.{RecordsTo, going_begins, going_on, going_wrong, going_nothing, going_more, going_full, going_ended}
use Rattle.bundle.proofs.frame_records.Goals as goal

pub loop-k-init : goal.loop-k-init
loop-k-init c = going_begins _

pub returns-in-Nothing : goal.returns-in-Nothing
returns-in-Nothing c = let g = c.loop-k.invariant in
    going_ended _ g c.records_end.ensures (going_nothing _ g c.loop-k-test.true c.record_at.ensures.value c.in-Nothing.is)

pub returns-in-Wrong : goal.returns-in-Wrong
returns-in-Wrong c = going_wrong _ c.loop-k.invariant c.loop-k-test.true c.record_at.ensures.value c.in-Wrong.is

pub loop-k-preserved : goal.loop-k-preserved
loop-k-preserved c =
    subst (λ (at : ℕ). RecordsTo c.args.b.now at (c.loop-k.k + 1)) (omega arith)
    (going_on _ c.loop-k.invariant c.loop-k-test.true c.record_at.ensures.value c.in-Track.is c.in-Track.ensures.mark_bounds)

pub returns-then-at-b : goal.returns-then-at-b
returns-then-at-b c =
    let k : c.loop-k.k ≡ 16 = omega arith in
    going_more _ (subst (λ (k : ℕ). RecordsTo c.args.b.now c.loop-k.at k) k c.loop-k.invariant) (omega arith) c.if-at-b.true

pub returns : goal.returns
unfolding ended_of rule24_from
returns c =
    let k : c.loop-k.k ≡ 16 = omega arith in
    let g = subst (λ (k : ℕ). RecordsTo c.args.b.now c.loop-k.at k) k c.loop-k.invariant in
    going_ended _ g refl (going_full _ g (omega arith) c.if-at-b.false)
