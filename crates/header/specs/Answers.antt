-- What the header check's answers say: this paper's number and values for every one of them.
use Rattle.std.specs.Prelude.{Bool, ℕ, ◌+◌, ◌≤◌, ◌≡◌, List, Option, Result, Ok, Err}
use Rattle.rules.specs.Header.{header_rules, header_in, places_in}
use Rattle.rules.specs.Rules.{breaks}
use Rattle.header.specs.declared.HeaderFacts.{HeaderFacts}
use Rattle.header.specs.declared.HeaderFault.{HeaderFault}
use Rattle.header.specs.declared.HeaderFault.TheVariants.{FtypBody, NoBrand, OfMoov}

-- what the facts of a good header are
pub record FactsIn (m : List ℕ) (x : HeaderFacts) : Type 0 where
  pub header : x.header ≡ header_in m
  pub mdhd : x.mdhd ≡ (places_in m).mdhd
  pub hdlr : x.hdlr ≡ (places_in m).hdlr

-- wherever `moov` stands: the rules hold, with the header's facts; or they break at `ftyp`; or at a place of `moov`, as a rule of one track
abbrev pub HeadsAs : Result HeaderFacts HeaderFault → Option Bool → List ℕ → Type 0
HeadsAs (Ok x) f m = FactsIn m x × ((base : ℕ) → header_rules base f m ≡ Ok tt)
HeadsAs (Err FtypBody) f m = (base : ℕ) → header_rules base f m ≡ breaks 8 0 0
HeadsAs (Err NoBrand) f m = (base : ℕ) → header_rules base f m ≡ breaks 9 0 0
HeadsAs (Err (OfMoov e)) f m = (e.track ≡ 0) × ((base : ℕ) → header_rules base f m ≡ breaks e.number e.track (base + e.place))

-- the places told are at most n
abbrev pub HeadsUpTo : Result HeaderFacts HeaderFault → ℕ → Type 0
HeadsUpTo (Ok x) n = (x.mdhd ≤ n) × (x.hdlr ≤ n)
HeadsUpTo (Err FtypBody) n = Unit {0}
HeadsUpTo (Err NoBrand) n = Unit {0}
HeadsUpTo (Err (OfMoov e)) n = e.place ≤ n
