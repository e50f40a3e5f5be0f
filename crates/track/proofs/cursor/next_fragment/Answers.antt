-- `track::cursor::next_fragment` meets its contract. Assumes nothing.
use mathlib.Core.Path.{refl, ap, ◌∙◌}
use native.Mathlib.Omega.{arith}
use Rattle.boxes.specs.declared.SiblingBoxes.{SiblingBoxes}
use Rattle.boxes.proofs.Walks.{first_there, none_there}
use Rattle.track.proofs.Fragments.{skipped_none, skipped_all, skipped_box, plain_sync, skipped_chunk, next_at}
use Rattle.track.proofs.OwnBytes.{own_bytes, own_length, own_whole}
use Rattle.track.proofs.cursor.next_fragment.Goals as goal

pub loop-b-init : goal.loop-b-init
loop-b-init c = let i = c.into_iter-b-iterator.ensures.into_iter_gives in
    let n = c.along-b-items.ensures in
    (ap (λ (x : SiblingBoxes). x.bytes.now) i ∙ n.0, rw (ap (λ (x : SiblingBoxes). x.at) i ∙ n.1) (skipped_none _ _ _))

pub returns : goal.returns
returns c = let i = c.loop-b.invariant in skipped_all i.1 (none_there i.0 _ c.in-None.ensures.steps.1.0)

pub overflow_add-next : goal.overflow_add-next
overflow_add-next c = let f = first_there c.loop-b.invariant.0 c.in-Some.ensures.steps.1 in omega (arith, f.stands.fits)

pub slice_bounds-m-end : goal.slice_bounds-m-end
slice_bounds-m-end c = let f = first_there c.loop-b.invariant.0 c.in-Some.ensures.steps.1 in omega (arith, f.stands.fits)

pub traf_in-traf-requires : goal.traf_in-traf-requires
traf_in-traf-requires c = let f = first_there c.loop-b.invariant.0 c.in-Some.ensures.steps.1 in own_whole c.args.s.now _ f.stands _ refl

pub leads-requires : goal.leads-requires
leads-requires c = let i = c.loop-b.invariant in
    let f = first_there i.0 c.in-Some.ensures.steps.1 in
    let d = f.stands in
    record {
      stands_at = (c.traf_in-traf.ensures, omega (arith, own_length c.args.s.now _ d _ refl, d.fits, c.requires.0));
      d_value = plain_sync i.1 f c.if-b-eq-MOOF.true _ (own_bytes _ _ d _ refl) c.args.plain c.requires.1;
    }

pub start_in-start-requires : goal.start_in-start-requires
start_in-start-requires c = let d = (first_there c.loop-b.invariant.0 c.in-Some.ensures.steps.1).stands in
    (c.traf_in-traf.ensures, omega (arith, own_length c.args.s.now _ d _ refl, d.fits, c.requires.0))

pub returns-then-leads : goal.returns-then-leads
returns-then-leads c = let i = c.loop-b.invariant in
    let f = first_there i.0 c.in-Some.ensures.steps.1 in
    next_at i.1 f c.if-b-eq-MOOF.true _ (own_bytes _ _ f.stands _ refl) c.leads.ensures c.if-leads.true c.start_in-start.ensures refl

pub loop-b-preserved-else-leads : goal.loop-b-preserved-else-leads
loop-b-preserved-else-leads c = let i = c.loop-b.invariant in
    let n = c.in-Some.ensures.steps in
    let f = first_there i.0 n.1 in
    (n.0 ∙ i.0, skipped_chunk i.1 f c.if-b-eq-MOOF.true _ (own_bytes _ _ f.stands _ refl) c.leads.ensures c.if-leads.false)

pub loop-b-preserved : goal.loop-b-preserved
loop-b-preserved c = let i = c.loop-b.invariant in
    let n = c.in-Some.ensures.steps in
    (n.0 ∙ i.0, skipped_box i.1 (first_there i.0 n.1) search)
