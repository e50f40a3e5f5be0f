-- `header::containers::in_minf` meets its contract. Assumes nothing.
use mathlib.Core.Path.{refl}
use mathlib.Core.List.{[], ◌∷◌}
use Rattle.rules.specs.Kinds.{stsd, stts, stsc, stsz, stco}
use Rattle.rules.specs.Header.{dinf_in, stbl_in}
use Rattle.rules.specs.declared.Entry.TheVariants.{One}
use Rattle.counts.proofs.Firsts.{counts_1, counts_2}
use Rattle.boxes.specs.Stands.{StandsAt}
use Rattle.header.proofs.Found.{met, judged, judged_join, then_of_and}
use Rattle.header.proofs.containers.in_minf.Goals as goal

pub returns : goal.returns
unfolding dinf_in stbl_in
returns c = let x = c.requires in
    let y : StandsAt c.args.m.now (stbl_in c.args.m.now) c.count_boxes-k.result.c.first = met c.requires c.count_boxes-k.ensures.c in
    let d : StandsAt c.args.m.now (dinf_in c.args.m.now) c.count_boxes-k.result.b.first = met c.requires c.count_boxes-k.ensures.b in
    let i = c.count_boxes-k.ensures in
    let k = c.count_boxes-k-3.ensures in
    let l = c.count_boxes-k-4.ensures in
    record {
      minf = judged x i refl;
      dinf = judged d c.count_boxes-k-2.ensures (counts_1 _ _ _ _);
      stbl = judged_join _ (One stsd ∷ One stts ∷ One stsc ∷ []) (One stsz ∷ One stco ∷ []) (then_of_and _ _ c.and.ensures) (judged y k refl) (judged y l (counts_2 _ _ _ _ _));
      media = met x i.a;
      stsd = met y k.a;
      stts = met y k.b;
      stsc = met y k.c;
      stsz = met y l.a;
      stco = met y l.b;
    }
