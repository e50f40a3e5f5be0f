-- `header::containers::locate_boxes` meets its contract. Assumes nothing.
use mathlib.Core.Path.{refl}
use Rattle.rules.specs.Header.{trak_in, mvex_in, rule7}
use Rattle.counts.proofs.Firsts.{counts_1}
use Rattle.boxes.specs.Stands.{StandsAt}
use Rattle.header.proofs.Found.{at_start, met, judged, judged_then, judged_as, regrouped, then_of_and}
use Rattle.header.proofs.Located.{located}
use Rattle.header.proofs.containers.locate_boxes.Goals as goal

pub in_trak-t-requires : goal.in_trak-t-requires
unfolding trak_in
in_trak-t-requires c = met (at_start c.requires) c.count_boxes-k.ensures.b

pub returns : goal.returns
unfolding rule7 mvex_in
returns c = let x = at_start c.requires in
    let y : StandsAt c.args.m.now (mvex_in c.args.m.now) c.count_boxes-k.result.c.first = met (at_start c.requires) c.count_boxes-k.ensures.c in
    let o = c.count_boxes-k.ensures in
    let t = c.in_trak-t.ensures in
    let i = c.in_minf-i.ensures in
    let k = c.count_boxes-k-2.ensures in
    let in_trak = judged_then (then_of_and _ _ c.and-in_trak.ensures) (judged_then (then_of_and _ _ c.and.ensures) t.trak t.edts) t.mdia in
    let in_minf = judged_then (then_of_and _ _ c.and-in_minf.ensures) (judged_then (then_of_and _ _ c.and-2.ensures) i.minf i.dinf) i.stbl in
    let front = judged_then (then_of_and _ _ c.and-4.ensures) (judged_then (then_of_and _ _ c.and-3.ensures) (judged x o refl) in_trak) in_minf in
    located _ (judged_as (judged_then (then_of_and _ _ c.and-5.ensures) front (judged y k (counts_1 _ _ _ _))) (regrouped _ _ _ _ _ _ _ _)) (met x o.a) t i (met y k.a)
