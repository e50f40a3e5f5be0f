-- `track::course::opened` meets its contract. Assumes nothing.
use Rattle.track.proofs.Stepping.{header_good, header_fault, fault_small}
use Rattle.track.proofs.course.opened.Goals as goal

pub returns-in-Ok : goal.returns-in-Ok
returns-in-Ok c = let a = c.args in
    let k = rw c.in-Ok.is at c.check_header.ensures.heads_as in
    header_good a.f a.b.at a.own.now _ k.0 (k.1 a.b.at)

pub refusal_of-requires : goal.refusal_of-requires
refusal_of-requires c = let p = c.requires in
    (fault_small c.in-Err.fault _ p.1 (rw c.in-Err.is at c.check_header.ensures.heads_up_to), p.2)

pub returns-in-Err : goal.returns-in-Err
returns-in-Err c = let a = c.args in
    rw c.refusal_of.ensures (header_fault a.f a.b.at a.own.now c.in-Err.fault (rw c.in-Err.is at c.check_header.ensures.heads_as))
