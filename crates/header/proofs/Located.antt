-- Laws of rule 7 as a whole: where the header's boxes stand.
use mathlib.Core.List.{List}
use Prim.Native.Nat.{ℕ}
use Rattle.rules.specs.Kinds.{mvhd, trex}
use Rattle.rules.specs.Counts.{child}
use Rattle.rules.specs.Header.{mvex_in, rule7, places_in}
use Rattle.boxes.specs.Stands.{StandsAt}
use Rattle.header.specs.Places.{Judges, TrakIn, MinfIn, LocatedIn}
use Rattle.header.specs.declared.containers.Located.{Located}

pub located :
    {m : List ℕ} (s : Located) → Judges m (rule7 m) s.rule → StandsAt m (child m 0 mvhd) s.mvhd → TrakIn m s.trak → MinfIn m s.minf →
    StandsAt m (child m (mvex_in m) trex) s.trex → LocatedIn m s
unfolding places_in
located s j a t i b =
    record {
      rule = j;
      places =
          rw (a.place, t.tkhd.place, t.mdhd.place, t.hdlr.place, i.media.place, i.stsd.place, i.stts.place, i.stsc.place, i.stsz.place, i.stco.place, b.place);
      mvhd = a.stands;
      trak = t;
      minf = i;
      trex = b.stands;
    }
