-- `runs::trun::read_trun` meets its contract. Assumes nothing.
use Rattle.std.proofs.Common.{arith}
use Rattle.fields.proofs.Forms.{has_version}
use Rattle.runs.proofs.Formed.{run_short, run_told, run_other, head_low}
use Rattle.runs.proofs.trun.read_trun.Goals as goal

pub returns-then-r-lt8 : goal.returns-then-r-lt8
returns-then-r-lt8 c = run_short _ _ c.requires c.if-r-lt8.true

pub versioned-requires : goal.versioned-requires
versioned-requires c = let l = c.run_head.ensures.value in
    let h = head_low c.flags-flags.result in
    (c.requires, omega (arith, l, h), omega (arith, l, h))

pub returns-in_err-versioned : goal.returns-in_err-versioned
returns-in_err-versioned c =
    rw c.from_residual.ensures
    (run_other _ _ c.requires _ _ _ _ c.flags-flags.ensures.value c.word-count.ensures c.stride.ensures.value c.run_head.ensures.value
    c.in_err-versioned.ensures)

pub returns : goal.returns
returns c =
    let v = has_version _ _ c.requires _ c.versioned.ensures c.in_ok-versioned.was in
    run_told _ _ c.requires _ _ _ _ c.flags-flags.ensures.value c.word-count.ensures c.stride.ensures.value c.run_head.ensures.value v.0 v.1
