-- `chunk::settle` meets its contract. Assumes nothing.
use mathlib.Core.Path.{◌≡◌, refl, sym, ap, subst, ◌∙◌}
use mathlib.Core.List.{List, []}
use mathlib.Core.Bool.{Bool}
use Prim.Native.Nat.{ℕ, ◌+◌}
use native.Mathlib.Omega.{arith}
use lib.ListN.{length, take}
use lib.Seq.{length-take-le}
use Rattle.std.proofs.lemmas.Result.{err_from_is_err_and}
use Rattle.rules.specs.Chunk.{runs_in, rule14, rule15runs}
use Rattle.std.specs.Prelude.{Ok, Result}
use Rattle.chunk.specs.declared.around.Setting.{Setting}
use Rattle.chunk.specs.declared.bodies.InMoof.{InMoof}
use Rattle.chunk.specs.declared.bodies.BodyValues.{BodyValues}
use Rattle.chunk.specs.Bodies.{MoofIn}
use Rattle.runs.specs.declared.WrongRun.{WrongRun}
use Rattle.runs.specs.declared.Totals.{Totals}
use Rattle.runs.specs.Runs.{runs_at, SaysRuns, Walked}
use Rattle.chunk.proofs.First.{front_runs, front_is}
use Rattle.chunk.proofs.Judged.{broken_15, right_15, few_samples, sums_due, broken_19, settled}
use Rattle.chunk.proofs.settle.Goals as goal

-- what the runs of the chunk come to, which are those walked over
all_runs :
    (m : List ℕ) (s : Setting) (x : InMoof) (k : BodyValues) → rule14 m ≡ Ok tt → MoofIn m x → {want : Bool} {r : Result Totals WrongRun} {t : Totals} →
    SaysRuns r m want k.own (length m + s.head) (runs_at (take (x.traf.at + x.traf.size) m) x.run.at) → r ≡ Ok t →
    Walked m want k.own (length m + s.head) (runs_in m) [] t
all_runs m s x k right found {want} {t = t} w g =
    subst (λ (rs : List ℕ). Walked m want k.own (length m + s.head) rs [] t) (front_runs m right x.traf x.run found.traf found.run) (rw g at w)

pub returns-in_err-all : goal.returns-in_err-all
returns-in_err-all c =
    let a = c.args in
    let p = c.requires.m_len_bound in
    let w = c.in_err-all.ensures in
    let r = err_from_is_err_and c.from_residual.result c.from_residual.ensures.1 in
    let runs = front_runs a.m.now c.requires.m_value.0 a.x.traf a.x.run p.1.traf p.1.run in
    rw (r.1, r.2) (broken_15 a.m.now a.s c.requires.m_value.0 (c.requires.m_value.1 ∙ sym (ap (rule15runs a.m.now) runs) ∙ w.0) (refl, w.1))

pub rules_before_sums-requires : goal.rules_before_sums-requires
rules_before_sums-requires c = let p = c.requires.m_len_bound in
    (p.1, p.2, (all_runs c.args.m.now c.args.s c.args.x c.args.k c.requires.m_value.0 c.requires.m_len_bound.1 c.walk.ensures c.in_ok-all.was).passed)

pub rules_of_sums-requires : goal.rules_of_sums-requires
rules_of_sums-requires c =
    let p = c.requires.m_len_bound in
    let w = all_runs c.args.m.now c.args.s c.args.x c.args.k c.requires.m_value.0 c.requires.m_len_bound.1 c.walk.ensures c.in_ok-all.was in
    let good = sym c.rules_before_sums.ensures.value ∙ c.in_ok-rules_before_sums.was in
    record { moof_in = (p.1, p.2, few_samples _ _ _ _ _ p.1 p.2 w.passed _ _ _ c.worth_summing-worth.ensures good); spans_all = w.sums (sums_due _ _ _ _ _ p.1 p.2 w.passed _ _ _ c.worth_summing-worth.ensures good) }

pub returns-in_err-rules_before_sums : goal.returns-in_err-rules_before_sums
returns-in_err-rules_before_sums c =
    let a = c.args in
    let w = all_runs c.args.m.now c.args.s c.args.x c.args.k c.requires.m_value.0 c.requires.m_len_bound.1 c.walk.ensures c.in_ok-all.was in
    let r = err_from_is_err_and c.from_residual-in_err-rules_before_sums.result c.from_residual-in_err-rules_before_sums.ensures.1 in
    rw (r.1, r.2)
    (broken_19 a.m.now a.s c.requires.m_value.0 (right_15 _ _ c.requires.m_value.1 w.passed) c.rules_before_sums.ensures.value
    c.rules_before_sums.ensures.placed_up_to c.in_err-rules_before_sums.was)

pub returns : goal.returns
returns c =
    let a = c.args in
    let w = all_runs c.args.m.now c.args.s c.args.x c.args.k c.requires.m_value.0 c.requires.m_len_bound.1 c.walk.ensures c.in_ok-all.was in
    settled a.m.now a.s c.requires.m_value.0 (right_15 _ _ c.requires.m_value.1 w.passed)
    (sym c.rules_before_sums.ensures.value ∙ c.in_ok-rules_before_sums.was) c.rules_of_sums.result c.rules_of_sums.ensures
