-- What the readers of bodies answer: rule 8 of each, and the numbers that later rules need.
use Rattle.std.specs.Prelude.{ℕ, ◌≡◌, List, Option, None, Some, Result, Ok, Err}
use Rattle.rules.specs.Fields.{Form, wrong_body, body}
use Rattle.rules.specs.Header.{mvhd_form, tkhd_form, mdhd_form, hdlr_form, table_form, stsz_form, trex_form, rule8}
use Rattle.rules.specs.Header.{id_of, timescale_of, handler_of, trex_id, entry_count, sample_count, trex_defaults}
use Rattle.rules.specs.declared.Refusal.{Refusal}
use Rattle.fields.specs.declared.Version.{Version}
use Rattle.header.specs.Places.{places_by}
use Rattle.header.specs.declared.containers.Located.{Located}
use Rattle.header.specs.declared.bodies.Trex.{Trex}
use Rattle.header.specs.declared.bodies.Heads.{Heads}
use Rattle.header.specs.declared.bodies.Values.{Values}

-- `mvhd` has its form, in one of its versions, or it breaks rule 8
abbrev pub SaysMvhd : Option Version → List ℕ → ℕ → Type 0
SaysMvhd (Some v) m at = body 8 mvhd_form m at ≡ Ok tt
SaysMvhd None m at = body 8 mvhd_form m at ≡ wrong_body 8 mvhd_form m at

-- a body has its form and tells a number, or it breaks rule 8
abbrev pub SaysBody : Option ℕ → Form → ℕ → List ℕ → ℕ → Type 0
SaysBody (Some x) w number m at = (body 8 w m at ≡ Ok tt) × (x ≡ number)
SaysBody None w number m at = body 8 w m at ≡ wrong_body 8 w m at

-- `trex` has its form and tells its track ID and its defaults, or it breaks rule 8
abbrev pub SaysTrex : Option Trex → List ℕ → ℕ → Type 0
SaysTrex (Some t) m at = (body 8 trex_form m at ≡ Ok tt) × (t.id ≡ trex_id m at) × (t.defaults ≡ trex_defaults m at)
SaysTrex None m at = body 8 trex_form m at ≡ wrong_body 8 trex_form m at

-- what the bodies up to `stsd` say where none is wrong
pub record HeadsIn (m : List ℕ) (s : Located) (h : Heads) : Type 0 where
  pub mvhd : body 8 mvhd_form m s.mvhd.at ≡ Ok tt
  pub tkhd : SaysBody (Some h.id) tkhd_form (id_of m (places_by s)) m s.trak.tkhd.at
  pub mdhd : SaysBody (Some h.timescale) mdhd_form (timescale_of m (places_by s)) m s.trak.mdhd.at
  pub hdlr : SaysBody (Some h.handler) hdlr_form (handler_of m (places_by s)) m s.trak.hdlr.at
  pub stsd : SaysBody (Some h.stsd) table_form (entry_count m s.minf.stsd.at) m s.minf.stsd.at

-- what all bodies say where none is wrong
pub record ValuesIn (m : List ℕ) (s : Located) (v : Values) : Type 0 where
  pub heads : HeadsIn m s v.heads
  pub stts : SaysBody (Some v.stts) table_form (entry_count m s.minf.stts.at) m s.minf.stts.at
  pub stsc : SaysBody (Some v.stsc) table_form (entry_count m s.minf.stsc.at) m s.minf.stsc.at
  pub stco : SaysBody (Some v.stco) table_form (entry_count m s.minf.stco.at) m s.minf.stco.at
  pub stsz : SaysBody (Some v.stsz) stsz_form (sample_count m s.minf.stsz.at) m s.minf.stsz.at
  pub trex : SaysTrex (Some v.trex) m s.trex.at

-- rule 8 holds, with what the bodies tell; or it breaks at the first wrong one
abbrev pub BodiesAs : Result Values Refusal → List ℕ → Located → Type 0
BodiesAs (Ok v) m s = ValuesIn m s v × (rule8 m (places_by s) ≡ Ok tt)
BodiesAs (Err e) m s = rule8 m (places_by s) ≡ Err e
