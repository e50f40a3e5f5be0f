-- Where the header's boxes stand in `moov`, and what its containers count.
use Rattle.std.specs.Prelude.{ℕ, ◌≡◌, List, length}
use Rattle.rules.specs.Kinds.{tkhd, edts, mdhd, hdlr, stsd, stts, stsc, stsz, stco}
use Rattle.rules.specs.Rules.{PlacedUpTo, Rule}
use Rattle.rules.specs.Boxes.{kids}
use Rattle.rules.specs.Counts.{seen, first_in, child, counts, counts_if}
use Rattle.rules.specs.Header.{entries_in_trak, entries_in_edts, entries_in_mdia, entries_in_minf, entries_in_dinf, entries_in_stbl, media, trak_in, mdia_in, minf_in, dinf_in, stbl_in, rule7, places_in}
use Rattle.rules.specs.declared.Entry.TheVariants.{AtMostOne}
use Rattle.rules.specs.declared.Places.{Places}
use Rattle.boxes.specs.Stands.{Stands, StandsAt}
use Rattle.header.specs.declared.containers.InTrak.{InTrak}
use Rattle.header.specs.declared.containers.InMinf.{InMinf}
use Rattle.header.specs.declared.containers.Located.{Located}

-- r is a container's counts, and breaks in `moov` if it does
pub record Judges (m : List ℕ) (counted r : Rule) : Type 0 where
  pub is : r ≡ counted
  pub low : PlacedUpTo (length m) r

-- the counts in `trak`, its `edts` and its `mdia`, and their boxes
pub record TrakIn (m : List ℕ) (r : InTrak) : Type 0 where
  pub trak : Judges m (counts 7 m (trak_in m) entries_in_trak) r.trak
  pub edts : Judges m (counts_if 7 m (seen (AtMostOne edts) (kids m (trak_in m))) entries_in_edts) r.edts
  pub mdia : Judges m (counts 7 m (mdia_in m) entries_in_mdia) r.mdia
  pub tkhd : StandsAt m (child m (trak_in m) tkhd) r.tkhd
  pub mdhd : StandsAt m (child m (mdia_in m) mdhd) r.mdhd
  pub hdlr : StandsAt m (child m (mdia_in m) hdlr) r.hdlr
  pub minf : StandsAt m (minf_in m) r.minf

-- the counts in `minf`, its `dinf` and its `stbl`, and their boxes
pub record MinfIn (m : List ℕ) (r : InMinf) : Type 0 where
  pub minf : Judges m (counts 7 m (minf_in m) entries_in_minf) r.minf
  pub dinf : Judges m (counts 7 m (dinf_in m) entries_in_dinf) r.dinf
  pub stbl : Judges m (counts 7 m (stbl_in m) entries_in_stbl) r.stbl
  pub media : StandsAt m (first_in m (minf_in m) media) r.media
  pub stsd : StandsAt m (child m (stbl_in m) stsd) r.stsd
  pub stts : StandsAt m (child m (stbl_in m) stts) r.stts
  pub stsc : StandsAt m (child m (stbl_in m) stsc) r.stsc
  pub stsz : StandsAt m (child m (stbl_in m) stsz) r.stsz
  pub stco : StandsAt m (child m (stbl_in m) stco) r.stco

-- the places of the header's boxes
abbrev pub places_by : Located → Places
places_by s =
    record {
      mvhd = s.mvhd.at;
      tkhd = s.trak.tkhd.at;
      mdhd = s.trak.mdhd.at;
      hdlr = s.trak.hdlr.at;
      media = s.minf.media.at;
      stsd = s.minf.stsd.at;
      stts = s.minf.stts.at;
      stsc = s.minf.stsc.at;
      stsz = s.minf.stsz.at;
      stco = s.minf.stco.at;
      trex = s.trex.at;
    }

-- rule 7, and the header's boxes, which stand in `moov` at their places
pub record LocatedIn (m : List ℕ) (s : Located) : Type 0 where
  pub rule : Judges m (rule7 m) s.rule
  pub places : places_by s ≡ places_in m
  pub mvhd : Stands m s.mvhd
  pub trak : TrakIn m s.trak
  pub minf : MinfIn m s.minf
  pub trex : Stands m s.trex
