-- The header's rules break on track 0, each being a rule of one track by itself, and at a place of `moov`.
use mathlib.Core.Path.{◌≡◌, refl, subst}
use mathlib.Core.List.{List}
use mathlib.Core.Bool.{Bool, true, false}
use Prim.Native.Nat.{ℕ, ◌≤◌}
use native.Mathlib.Omega.{arith}
use lib.ListN.{length}
use Rattle.rules.specs.Rules.{◌then◌, must, PlacedUpTo, Rule}
use Rattle.rules.specs.Fields.{body}
use Rattle.rules.specs.Counts.{counts, counts_if}
use Rattle.rules.specs.Header.{rule7, rule8, rule10, rule11, rule12, rule13, rules_of_values}
use Rattle.rules.specs.declared.Entry.{Entry}
use Rattle.std.specs.Prelude.{Ok, Err}
use Rattle.rules.specs.declared.Refusal.{Refusal}
use Rattle.rules.specs.declared.Seen.{Seen}
use Rattle.rules.specs.declared.Seen.TheVariants.{Never, Once, Twice}
use Rattle.rules.proofs.Untracked.{Untracked, then_is, counts_untracked}
use Rattle.boxes.specs.Stands.{Stands}
use Rattle.rules.specs.declared.Spot.{Spot}
use Rattle.header.specs.Places.{places_by, LocatedIn}
use Rattle.header.specs.declared.containers.Located.{Located}

-- counts in a container that may be absent
if_own : (n : ℕ) (m : List ℕ) (v : Seen) (es : List Entry) → Untracked (counts_if n m v es)
unfolding counts_if
if_own n m Never es = tt
if_own n m (Once a) es = counts_untracked n m a es
if_own n m (Twice a b) es = counts_untracked n m a es

-- rule 7
pub own7 : (m : List ℕ) → Untracked (rule7 m)
unfolding rule7
own7 m =
    after _ _ _
    (after _ _ _
    (then_is Untracked _ _ (if_own 7 m _ _) (after _ _ _ (after _ _ _ (after _ _ _ (after _ _ _ (counts_untracked 7 m _ _)))))))
  where
    after : (at : ℕ) (es : List Entry) (q : Rule) → Untracked q → Untracked (counts 7 m at es then q)
    after at es q o = then_is Untracked _ q (counts_untracked 7 m at es) o

-- a rule that holds, or breaks on track 0 at a place up to n
abbrev pub Fair : ℕ → Rule → Type 0
Fair n (Ok u) = Unit {0}
Fair n (Err e) = (e.track ≡ 0) × (e.place ≤ n)

pub fair : (n : ℕ) (r : Rule) → Untracked r → PlacedUpTo n r → Fair n r
fair n (Ok u) o l = tt
fair n (Err e) o l = (o, l)

-- the track and the place of a broken one
pub fair_broken : (n : ℕ) {e : Refusal} {r : Rule} → Fair n r → r ≡ Err e → (e.track ≡ 0) × (e.place ≤ n)
fair_broken n f is = subst (Fair n) is f

-- a test at a box that stands in `moov`, and one before other rules
module _ {m : List ℕ} {b : Spot} (st : Stands m b) (t : Bool) (k : ℕ) where
  last : Fair (length m) (must t k b.at)
  unfolding must
  last = by t
    where
      by : (i : Bool) → Fair (length m) (must i k b.at)
      by true = tt
      by false = (refl, omega (arith, st.fits))

  next : (q : Rule) → Fair (length m) q → Fair (length m) (must t k b.at then q)
  next q f = then_is (Fair (length m)) _ q last f

module _ {m : List ℕ} {s : Located} (h : LocatedIn m s) where
  -- rule 8
  pub fair8 : Fair (length m) (rule8 m (places_by s))
  unfolding rule8 body
  fair8 =
      next h.mvhd _ _ _
      (next h.trak.tkhd.stands _ _ _
      (next h.trak.mdhd.stands _ _ _
      (next h.trak.hdlr.stands _ _ _
      (next h.minf.stsd.stands _ _ _
      (next h.minf.stts.stands _ _ _ (next h.minf.stsc.stands _ _ _ (next h.minf.stco.stands _ _ _ (next h.minf.stsz.stands _ _ _ (last h.trex _ _)))))))))

  -- rules 10 to 13
  pub fair_values : Fair (length m) (rules_of_values m (places_by s))
  unfolding rules_of_values rule10 rule11 rule12 rule13
  fair_values =
      next h.trak.mdhd.stands _ _ _
      (then_is (Fair (length m)) _ _ (next h.trak.tkhd.stands _ _ _ (last h.trex _ _))
      (next h.trak.hdlr.stands _ _ _
      (next h.minf.stsd.stands _ _ _ (next h.minf.stts.stands _ _ _ (next h.minf.stsc.stands _ _ _ (next h.minf.stsz.stands _ _ _ (last h.minf.stco.stands _ _)))))))
