-- `pieces::step::settle_box` meets its contract. Assumes nothing.
use Rattle.pieces.proofs.Meaning.{settled_nothing, settled_refused, settled_fits, settled_held, settled_past}
use Rattle.pieces.proofs.step.settle_box.Goals as goal

pub and_next-course-requires : goal.and_next-course-requires
and_next-course-requires c = let g = c.requires in
    let k = rw c.in-Ok-Some.field-0-is at c.in-Ok-Some.ensures in
    (settled_fits g _ _ _ _ k.0 k.1, settled_held g _ _ _ _ k.0 k.1)

pub returns-in-Ok-Some : goal.returns-in-Ok-Some
returns-in-Ok-Some c =
    let k = rw c.in-Ok-Some.field-0-is at c.in-Ok-Some.ensures in
    settled_past c.requires _ _ _ _ k.0 k.1 c.and_next-course.ensures

pub returns-in-Ok-None : goal.returns-in-Ok-None
returns-in-Ok-None c =
    let k = rw c.in-Ok-None.field-0-is at c.in-Ok-None.ensures in
    settled_nothing c.requires k.0 k.1

pub returns-in-Err : goal.returns-in-Err
returns-in-Err c = rw c.stop_at-in-Err.ensures (settled_refused c.requires c.in-Err.ensures)
