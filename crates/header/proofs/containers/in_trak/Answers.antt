-- `header::containers::in_trak` meets its contract. Assumes nothing.
use mathlib.Core.Path.{refl}
use mathlib.Core.List.{[], ◌∷◌}
use Rattle.rules.specs.Kinds.{mdhd, hdlr, elng, minf}
use Rattle.rules.specs.Header.{mdia_in, minf_in}
use Rattle.rules.specs.declared.Entry.TheVariants.{One, AtMostOne}
use Rattle.counts.proofs.Firsts.{counts_1}
use Rattle.boxes.specs.Stands.{StandsAt}
use Rattle.header.proofs.Found.{met, judged, judged_if, judged_join, then_of_and}
use Rattle.header.proofs.containers.in_trak.Goals as goal

pub returns : goal.returns
unfolding minf_in mdia_in
returns c = let x = c.requires in
    let y : StandsAt c.args.m.now (mdia_in c.args.m.now) c.count_boxes-k.result.c.first = met c.requires c.count_boxes-k.ensures.c in
    let t = c.count_boxes-k.ensures in
    let k = c.count_boxes-k-2.ensures in
    let l = c.count_boxes-k-3.ensures in
    record {
      trak = judged x t refl;
      edts = judged_if x _ t.b c.counts_if.ensures.value c.counts_if.ensures.placed_up_to;
      mdia = judged_join _ (One mdhd ∷ One hdlr ∷ AtMostOne elng ∷ []) (One minf ∷ []) (then_of_and _ _ c.and.ensures) (judged y k refl) (judged y l (counts_1 _ _ _ _));
      tkhd = met x t.a;
      mdhd = met y k.a;
      hdlr = met y k.b;
      minf = met y l.a;
    }
