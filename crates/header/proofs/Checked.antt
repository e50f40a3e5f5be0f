-- Laws of rules 7 to 13 as a whole, wherever `moov` stands: at each that breaks, and where all hold.
use mathlib.Core.Path.{◌≡◌, sym, ap, ◌∙◌}
use mathlib.Core.List.{List}
use mathlib.Core.Bool.{Bool, true, false}
use Prim.Native.Nat.{ℕ}
use native.Mathlib.Omega.{arith}
use lib.ListN.{length}
use Rattle.rules.specs.Rules.{◌then◌, must, moved, Rule}
use Rattle.rules.specs.Header.{rule7, rule8ftyp, rule8, rule9, rules_of_values, header_rules, header_by}
use Rattle.std.specs.Prelude.{Option, None, Some, Result, Ok, Err}
use Rattle.rules.specs.declared.Refusal.{Refusal}
use Rattle.rules.specs.declared.Places.{Places}
use Rattle.header.specs.Places.{Judges, places_by, LocatedIn}
use Rattle.header.specs.Bodies.{ValuesIn, BodiesAs}
use Rattle.header.specs.Answers.{HeadsAs, HeadsUpTo}
use Rattle.header.specs.declared.HeaderFacts.{HeaderFacts}
use Rattle.header.specs.declared.HeaderFault.{HeaderFault}
use Rattle.header.specs.declared.HeaderFault.TheVariants.{FtypBody, NoBrand, OfMoov}
use Rattle.header.specs.declared.containers.Located.{Located}
use Rattle.header.specs.declared.bodies.Values.{Values}
use Rattle.header.proofs.Own.{fair, fair_broken, own7, fair8, fair_values}

-- what an answer says, with its bounds
abbrev pub HeadsSo : Result HeaderFacts HeaderFault → Option Bool → List ℕ → Type 0
HeadsSo r f m = HeadsAs r f m × HeadsUpTo r (length m)

module _ (m : List ℕ) where
  -- rule 7 breaks
  pub seven_breaks : (f : Option Bool) {e : Refusal} {r : Rule} → Judges m (rule7 m) r → r ≡ Err e → HeadsSo (Err (OfMoov e)) f m
  unfolding header_rules moved ◌then◌
  seven_breaks f {r = r} j e =
      let w = sym j.is ∙ e in
      let b = fair_broken (length m) (fair (length m) (rule7 m) (own7 m) (rw j.is at j.low)) w in
      ((b.0, λ base. rw w), b.1)

  module _ (seven : rule7 m ≡ Ok tt) where
    -- the body of `ftyp` is wrong
    pub ftyp_wrong : HeadsSo (Err FtypBody) None m
    unfolding header_rules moved ◌then◌ rule8ftyp
    ftyp_wrong = (λ base. rw seven, tt)

    module _ (s : Located) (h : LocatedIn m s) where
      -- what rule 8 has told
      pub bodies_tell : {r : Result Values Refusal} {v : Values} → BodiesAs r m s → r ≡ Ok v → ValuesIn m s v × (rule8 m (places_by s) ≡ Ok tt)
      bodies_tell k e = rw e at k

      -- it breaks in `moov`
      pub eight_breaks : (b : Bool) {r : Result Values Refusal} {e : Refusal} → BodiesAs r m s → r ≡ Err e → HeadsSo (Err (OfMoov e)) (Some b) m
      unfolding header_rules moved ◌then◌ rule8ftyp
      eight_breaks b {e = e} k is =
          let w : rule8 m (places_by s) ≡ Err e = rw is at k in
          let n = fair_broken (length m) (fair8 h) w in
          ((n.0, λ base. rw (seven, ← h.places, w)), n.1)

      module _ (eight : rule8 m (places_by s) ≡ Ok tt) where
        -- no brand
        pub nine_breaks : {b : Bool} → b ≡ false → HeadsSo (Err NoBrand) (Some b) m
        unfolding header_rules moved ◌then◌ rule8ftyp rule9 must
        nine_breaks e = (λ base. rw (seven, ← h.places, eight, e), tt)

        -- one of rules 10 to 13
        pub values_break : {b : Bool} {r : Rule} {e : Refusal} → b ≡ true → r ≡ rules_of_values m (places_by s) → r ≡ Err e
            → HeadsSo (Err (OfMoov e)) (Some b) m
        unfolding header_rules moved ◌then◌ rule8ftyp rule9 must
        values_break e k q =
            let w = sym k ∙ q in
            let n = fair_broken (length m) (fair_values h) w in
            ((n.0, λ base. rw (seven, ← h.places, eight, e, w)), n.1)

        -- all hold
        pub all_hold : {b : Bool} {r : Rule} {x : HeaderFacts} → b ≡ true → r ≡ rules_of_values m (places_by s) → r ≡ Ok tt
            → x.header ≡ header_by m (places_by s) → x.mdhd ≡ s.trak.mdhd.at → x.hdlr ≡ s.trak.hdlr.at → HeadsSo (Ok x) (Some b) m
        unfolding header_rules moved ◌then◌ rule8ftyp rule9 must
        all_hold e k q a i j =
            let w : rules_of_values m (places_by s) ≡ Ok tt = sym k ∙ q in (
              (
                record {
                  header = a ∙ ap (header_by m) h.places;
                  mdhd = i ∙ ap (λ (p : Places). p.mdhd) h.places;
                  hdlr = j ∙ ap (λ (p : Places). p.hdlr) h.places;
                },
                λ base. rw (seven, ← h.places, eight, e, w),
              ),
              (omega (arith, i, h.trak.mdhd.stands.fits), omega (arith, j, h.trak.hdlr.stands.fits)),
            )
