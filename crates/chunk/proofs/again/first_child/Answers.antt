-- `chunk::again::first_child` meets its contract. Assumes nothing.
use Rattle.std.proofs.Common.{rules, tests}
use Rattle.chunk.proofs.First.{child_found, child_absent}
use Rattle.chunk.proofs.again.first_child.Goals as goal

pub returns-in-Some : goal.returns-in-Some
returns-in-Some c = let a = c.args in
    let n = c.along.ensures in
    child_found a.m.now a.x c.requires a.w _ _ (λ b r q k. search (rules, tests)) c.along.result c.find.new.self n.0 n.1 _ c.in-Some.ensures.ran

pub returns-in-None : goal.returns-in-None
returns-in-None c = let a = c.args in
    let n = c.along.ensures in
    child_absent a.m.now a.x c.requires a.w _ _ (λ b r q k. search (rules, tests)) c.along.result c.find.new.self n.0 n.1 c.in-None.ensures.ran
