-- `runs::again::first_sync` meets its contract. Assumes nothing.
use Rattle.std.proofs.Common.{◌≡◌, ℕ, sym, ap, ◌∙◌}
use Rattle.numbers.specs.Numbers.{has}
use Rattle.rules.specs.Chunk.{count_of, first_flags, is_sync}
use Rattle.boxes.proofs.Stands.{stands}
use Rattle.boxes.proofs.Walks.{first_there, none_there, first_box}
use Rattle.runs.proofs.First.{flags_read, count_read, first_none, first_later, first_here}
use Rattle.runs.proofs.Walked.{runs_over, runs_next, runs_same}
use Rattle.runs.proofs.again.first_sync.Goals as goal

pub first_flags-requires : goal.first_flags-requires
first_flags-requires c = let f = first_there c.loop-b.invariant.0 c.in-Some.ensures.steps.1 in
    let b = stands c.args.m.now c.args.s.now c.requires.1 (first_box f) in
    (b, flags_read _ _ b c.read.ensures, c.requires.0)

pub returns-then-run-ne0 : goal.returns-then-run-ne0
returns-then-run-ne0 c = let a = c.args in
    let i = c.loop-b.invariant in
    let f = first_there i.0 c.in-Some.ensures.steps.1 in
    let b = stands a.m.now a.s.now c.requires.1 (first_box f) in
    let some : count_of a.m.now c.in-Some.b.spot.at ≡ 0 → ⊥ = λ n. c.if-run-ne0.true (count_read _ _ b c.read-then-b-eq-TRUN.ensures ∙ n) in
    c.is_sync.ensures
    ∙ ap (λ (n : ℕ). is_sync n) (c.first_flags.ensures ∙ sym (first_here a.m.now a.d _ _ i.1 _ _ (runs_next a.s.now _ f c.if-b-eq-TRUN.true) some))

pub loop-b-preserved-else-run-ne0 : goal.loop-b-preserved-else-run-ne0
loop-b-preserved-else-run-ne0 c = let a = c.args in
    let i = c.loop-b.invariant in
    let n = c.in-Some.ensures.steps in
    let f = first_there i.0 n.1 in
    let b = stands a.m.now a.s.now c.requires.1 (first_box f) in (
      n.0 ∙ i.0,
      first_later a.m.now a.d _ _ i.1 _ _ (runs_next a.s.now _ f c.if-b-eq-TRUN.true) (sym (count_read _ _ b c.read-then-b-eq-TRUN.ensures) ∙ c.if-run-ne0.false),
    )

pub loop-b-preserved : goal.loop-b-preserved
loop-b-preserved c = let i = c.loop-b.invariant in
    let n = c.in-Some.ensures.steps in
    (n.0 ∙ i.0, i.1 ∙ ap (first_flags c.args.m.now c.args.d) (runs_same c.args.s.now _ (first_there i.0 n.1) c.if-b-eq-TRUN.false))

pub returns : goal.returns
unfolding has
returns c = let a = c.args in
    let i = c.loop-b.invariant in
    sym (ap (λ (f : ℕ). is_sync f) (first_none a.m.now a.d _ _ i.1 (runs_over a.s.now _ (none_there i.0 _ c.in-None.ensures.steps.1.0))))
