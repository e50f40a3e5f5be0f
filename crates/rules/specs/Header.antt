-- Rules 7 to 13: the header, over what `ftyp` tells (f) and the whole bytes of `moov` (m). A place is one in those bytes; in the track `ftyp` stands
-- at 0, and the rules of `moov` are moved to where it stands.
use Rattle.std.specs.Prelude.{ℕ, zero, suc, ◌+◌, ◌-◌, ◌*◌, ◌/◌, List, [], ◌∷◌, Bool, false, not, ◌||◌, eqb, Option, None, Some, Ok}
use Rattle.numbers.specs.Numbers.{when}
use Rattle.rules.specs.Kinds.{mvhd, trak, tkhd, edts, elst, mdia, mdhd, hdlr, elng, minf, vmhd, smhd, sthd, dinf, dref}
use Rattle.rules.specs.Kinds.{stbl, stsd, stts, stsc, stsz, stco, mvex, trex, cmfc, cmf2, vide, soun, subt}
use Rattle.rules.specs.Rules.{◌then◌, must, moved, Rule, breaks}
use Rattle.rules.specs.Boxes.{head_of, size_of, kind_of, kids}
use Rattle.rules.specs.Counts.{seen, first_in, child, counts, counts_if}
use Rattle.rules.specs.Fields.{Form, field, timed, either, plain, at_least, fours, has_form, body}
use Rattle.rules.specs.declared.Entry.{Entry}
use Rattle.rules.specs.declared.Entry.TheVariants.{One, AtMostOne, OneInAll}
use Rattle.rules.specs.declared.Places.{Places}
use Rattle.rules.specs.declared.Defaults.{Defaults}
use Rattle.rules.specs.declared.Header.{Header}

-- 7, `moov`: one `mvhd`, `trak`, `mvex`
abbrev pub entries_in_moov : List Entry
entries_in_moov = One mvhd ∷ One trak ∷ One mvex ∷ []

-- 7, `trak`: one `tkhd`, at most one `edts`, one `mdia`
abbrev pub entries_in_trak : List Entry
entries_in_trak = One tkhd ∷ AtMostOne edts ∷ One mdia ∷ []

-- 7, `edts`, if there: one `elst`
abbrev pub entries_in_edts : List Entry
entries_in_edts = One elst ∷ []

-- 7, `mdia`: one `mdhd`, one `hdlr`, at most one `elng`, one `minf`
abbrev pub entries_in_mdia : List Entry
entries_in_mdia = One mdhd ∷ One hdlr ∷ AtMostOne elng ∷ One minf ∷ []

-- one in all of `vmhd`, `smhd`, `sthd`
abbrev pub media : Entry
media = OneInAll vmhd smhd sthd

-- 7, `minf`: one in all of `vmhd`, `smhd`, `sthd`; one `dinf`, one `stbl`
abbrev pub entries_in_minf : List Entry
entries_in_minf = media ∷ One dinf ∷ One stbl ∷ []

-- 7, `dinf`: one `dref`
abbrev pub entries_in_dinf : List Entry
entries_in_dinf = One dref ∷ []

-- 7, `stbl`: one each of `stsd`, `stts`, `stsc`, `stsz`, `stco`
abbrev pub entries_in_stbl : List Entry
entries_in_stbl = One stsd ∷ One stts ∷ One stsc ∷ One stsz ∷ One stco ∷ []

-- 7, `mvex`: one `trex`
abbrev pub entries_in_mvex : List Entry
entries_in_mvex = One trex ∷ []

-- where the header's containers stand in `moov`
unfoldable pub trak_in : List ℕ → ℕ
trak_in m = child m 0 trak

unfoldable pub mdia_in : List ℕ → ℕ
mdia_in m = child m (trak_in m) mdia

unfoldable pub minf_in : List ℕ → ℕ
minf_in m = child m (mdia_in m) minf

unfoldable pub dinf_in : List ℕ → ℕ
dinf_in m = child m (minf_in m) dinf

unfoldable pub stbl_in : List ℕ → ℕ
stbl_in m = child m (minf_in m) stbl

unfoldable pub mvex_in : List ℕ → ℕ
mvex_in m = child m 0 mvex

-- 7, in this order
unfoldable pub rule7 : List ℕ → Rule
rule7 m =
    counts 7 m 0 entries_in_moov
    then counts 7 m (trak_in m) entries_in_trak
    then counts_if 7 m (seen (AtMostOne edts) (kids m (trak_in m))) entries_in_edts
    then counts 7 m (mdia_in m) entries_in_mdia
    then counts 7 m (minf_in m) entries_in_minf
    then counts 7 m (dinf_in m) entries_in_dinf
    then counts 7 m (stbl_in m) entries_in_stbl
    then counts 7 m (mvex_in m) entries_in_mvex

-- where the header's boxes stand in `moov`
unfoldable pub places_in : List ℕ → Places
places_in m =
    record {
      mvhd = child m 0 mvhd;
      tkhd = child m (trak_in m) tkhd;
      mdhd = child m (mdia_in m) mdhd;
      hdlr = child m (mdia_in m) hdlr;
      media = first_in m (minf_in m) media;
      stsd = child m (stbl_in m) stsd;
      stts = child m (stbl_in m) stts;
      stsc = child m (stbl_in m) stsc;
      stsz = child m (stbl_in m) stsz;
      stco = child m (stbl_in m) stco;
      trex = child m (mvex_in m) trex;
    }

-- `cmfc` or `cmf2`
abbrev pub is_brand : ℕ → Bool
is_brand b = eqb b cmfc || eqb b cmf2

-- whether one of the first n compatible brands is one of the two; they follow the major brand and the minor version
unfoldable pub branded : List ℕ → ℕ → Bool
branded f zero = false
branded f (suc i) = branded f i || is_brand (field f 0 (8 + 4 * i))

-- how many compatible brands `ftyp` has
unfoldable pub brands : List ℕ → ℕ
brands f = (size_of f 0 - head_of f 0 - 8) / 4

-- `ftyp` 16 + a multiple of 4
abbrev pub ftyp_form : Form
ftyp_form = fours 16

-- what the bytes of `ftyp` tell: its form, and its brands
unfoldable pub ftyp_in : List ℕ → Option Bool
ftyp_in f = when (has_form ftyp_form f 0) (Some (branded f (brands f))) None

-- 8, `ftyp`
unfoldable pub rule8ftyp : Option Bool → Rule
rule8ftyp (Some b) = Ok tt
rule8ftyp None = breaks 8 0 0

-- `mvhd` 108 (version 0) or 120 (version 1)
abbrev pub mvhd_form : Form
mvhd_form = either 108 120

-- `tkhd` 92 or 104
abbrev pub tkhd_form : Form
tkhd_form = either 92 104

-- `mdhd` 32 or 44
abbrev pub mdhd_form : Form
mdhd_form = either 32 44

-- `hdlr` at least 32
abbrev pub hdlr_form : Form
hdlr_form = at_least 32

-- `stsd`, `stts`, `stsc`, `stco` at least 16
abbrev pub table_form : Form
table_form = at_least 16

-- `stsz` at least 20
abbrev pub stsz_form : Form
stsz_form = at_least 20

-- `trex` 32, version 0
abbrev pub trex_form : Form
trex_form = plain 32

-- 8 in `moov`, in this order
unfoldable pub rule8 : List ℕ → Places → Rule
rule8 m p =
    body 8 mvhd_form m p.mvhd
    then body 8 tkhd_form m p.tkhd
    then body 8 mdhd_form m p.mdhd
    then body 8 hdlr_form m p.hdlr
    then body 8 table_form m p.stsd
    then body 8 table_form m p.stts
    then body 8 table_form m p.stsc
    then body 8 table_form m p.stco
    then body 8 stsz_form m p.stsz
    then body 8 trex_form m p.trex

-- 9: neither `cmfc` nor `cmf2` among the compatible brands
unfoldable pub rule9 : Option Bool → Rule
rule9 (Some b) = must b 9 0
rule9 None = Ok tt

-- the `mdhd` timescale, the `tkhd` track ID, the handler
abbrev pub timescale_of : List ℕ → Places → ℕ
timescale_of m p = timed m p.mdhd

abbrev pub id_of : List ℕ → Places → ℕ
id_of m p = timed m p.tkhd

abbrev pub handler_of : List ℕ → Places → ℕ
handler_of m p = field m p.hdlr 8

-- the `trex` track ID, the entry count of a table, and of `stsz` the sample count, each at a place
abbrev pub trex_id : List ℕ → ℕ → ℕ
trex_id m at = field m at 4

abbrev pub entry_count : List ℕ → ℕ → ℕ
entry_count m at = field m at 4

abbrev pub sample_count : List ℕ → ℕ → ℕ
sample_count m at = field m at 8

-- 10: `mdhd` timescale 0
unfoldable pub rule10 : List ℕ → Places → Rule
rule10 m p = must (not (eqb (timescale_of m p) 0)) 10 p.mdhd

-- 11: `tkhd` track ID 0, or `trex` has another
unfoldable pub rule11 : List ℕ → Places → Rule
rule11 m p =
    must (not (eqb (id_of m p) 0)) 11 p.tkhd then must (eqb (trex_id m p.trex) (id_of m p)) 11 p.trex

-- `vide` with `vmhd`, `soun` with `smhd`, `subt` with `sthd`
unfoldable pub pairs : ℕ → ℕ → Bool
pairs h k =
    when (eqb h vide) (eqb k vmhd) (when (eqb h soun) (eqb k smhd) (when (eqb h subt) (eqb k sthd) false))

-- 12: handler and media header don't pair
unfoldable pub rule12 : List ℕ → Places → Rule
rule12 m p = must (pairs (handler_of m p) (kind_of m p.media)) 12 p.hdlr

-- 13: `stsd` entry count not 1, or a sample table not empty; of `stsz` the sample count
unfoldable pub rule13 : List ℕ → Places → Rule
rule13 m p =
    must (eqb (entry_count m p.stsd) 1) 13 p.stsd
    then must (eqb (entry_count m p.stts) 0) 13 p.stts
    then must (eqb (entry_count m p.stsc) 0) 13 p.stsc
    then must (eqb (sample_count m p.stsz) 0) 13 p.stsz
    then must (eqb (entry_count m p.stco) 0) 13 p.stco

-- 10 to 13, in this order
unfoldable pub rules_of_values : List ℕ → Places → Rule
rules_of_values m p = rule10 m p then rule11 m p then rule12 m p then rule13 m p

-- 7 to 13, in this order, where `moov` stands at a base
unfoldable pub header_rules : ℕ → Option Bool → List ℕ → Rule
header_rules base f m =
    moved base (rule7 m)
    then rule8ftyp f
    then moved base (rule8 m (places_in m))
    then rule9 f
    then moved base (rules_of_values m (places_in m))

-- the defaults of the `trex` at a place
unfoldable pub trex_defaults : List ℕ → ℕ → Defaults
trex_defaults m at = record { duration = field m at 12; size = field m at 16; flags = field m at 20 }

-- what the header tells, by the places of its boxes
unfoldable pub header_by : List ℕ → Places → Header
header_by m p =
    record {
      timescale = timescale_of m p;
      id = id_of m p;
      handler = handler_of m p;
      defaults = trex_defaults m p.trex;
    }

-- what the header tells
abbrev pub header_in : List ℕ → Header
header_in m = header_by m (places_in m)

-- the mark of this file: its definitions unfold wherever it does
unfoldable pub computed_header : Unit {0}
unfolding trak_in mdia_in minf_in dinf_in stbl_in mvex_in rule7 places_in branded brands ftyp_in rule8ftyp rule8 rule9 rule10 rule11 pairs rule12
    rule13 rules_of_values header_rules trex_defaults header_by
computed_header = tt
