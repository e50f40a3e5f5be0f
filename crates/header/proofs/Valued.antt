-- Laws of rules 10 to 13 over what the bodies tell, and of what the header tells.
use mathlib.Core.Path.{◌≡◌}
use mathlib.Core.List.{List}
use mathlib.Core.Bool.{Bool, not}
use Prim.Native.Nat.{ℕ, ◌+◌}
use lib.Dec.{eqb}
use Rattle.numbers.specs.Numbers.{be4}
use Rattle.rules.specs.Rules.{◌then◌, must}
use Rattle.rules.specs.Header.{pairs, rule10, rule11, rule12, rule13, rules_of_values, header_by}
use Rattle.rules.specs.declared.Header.{Header}
use Rattle.rules.proofs.Then.{then_assoc}
use Rattle.header.specs.Places.{places_by}
use Rattle.header.specs.Bodies.{ValuesIn}
use Rattle.header.specs.declared.containers.Located.{Located}
use Rattle.header.specs.declared.bodies.Values.{Values}

module _ (m : List ℕ) (s : Located) (v : Values) (h : ValuesIn m s v) where
  -- the rules of the values that were read
  pub values_are : {kind : ℕ} {b : Bool} → kind ≡ be4 m (s.minf.media.at + 4) → b ≡ pairs v.heads.handler kind →
      ((((((((must (not (eqb v.heads.timescale 0)) 10 s.trak.mdhd.at
      then must (not (eqb v.heads.id 0)) 11 s.trak.tkhd.at)
      then must (eqb v.trex.id v.heads.id) 11 s.trex.at)
      then must b 12 s.trak.hdlr.at)
      then must (eqb v.heads.stsd 1) 13 s.minf.stsd.at)
      then must (eqb v.stts 0) 13 s.minf.stts.at)
      then must (eqb v.stsc 0) 13 s.minf.stsc.at)
      then must (eqb v.stsz 0) 13 s.minf.stsz.at)
      then must (eqb v.stco 0) 13 s.minf.stco.at) ≡ rules_of_values m (places_by s)
  unfolding rules_of_values rule10 rule11 rule12 rule13
  values_are k p =
      rw (p, k, h.heads.mdhd.1, h.heads.tkhd.1, h.heads.hdlr.1, h.trex.1, h.heads.stsd.1, h.stts.1, h.stsc.1, h.stsz.1, h.stco.1) (simp then_assoc)

  -- what the header tells
  pub header_is : {x : Header} → x.timescale ≡ v.heads.timescale → x.id ≡ v.heads.id → x.handler ≡ v.heads.handler → x.defaults ≡ v.trex.defaults
      → x ≡ header_by m (places_by s)
  unfolding header_by
  header_is a b d e = rw (← h.heads.mdhd.1, ← h.heads.tkhd.1, ← h.heads.hdlr.1, ← h.trex.2, ← a, ← b, ← d, ← e)
