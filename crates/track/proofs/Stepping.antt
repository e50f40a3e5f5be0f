-- Laws of one box more: the header and a chunk by what their own checks answer, and what a course fits.
use mathlib.Core.Path.{◌≡◌, refl, sym, subst, ◌∙◌}
use mathlib.Core.List.{List}
use mathlib.Core.Bool.{Bool, true, false, not, ◌&&◌, true≢false}
use mathlib.Core.Logic.{◌⊎◌, inl, inr, ⊎_elim}
use Prim.Native.Nat.{ℕ, ◌+◌, ◌-◌, ◌≤◌}
use native.Mathlib.Omega.{arith}
use lib.Dec.{eqb}
use Rattle.numbers.specs.Numbers.{when}
use Rattle.rules.specs.Rules.{◌then◌, Course, Judged, Rule, breaks}
use Rattle.rules.specs.Boxes.{Box}
use Rattle.rules.specs.Kinds.{ftyp, moov, moof, mdat}
use Rattle.rules.specs.Order.{ordered, awaits, step6}
use Rattle.rules.specs.Header.{header_rules}
use Rattle.rules.specs.Chunk.{shape, timing, start_of, end_of, first_run, sync_in, begins_one, opens, rule21}
use Rattle.rules.specs.Course.{judged_by, opened_facts, opened, or_tick, grown, joined, stage_of, spot_of, brought, and_box}
use Rattle.std.specs.Prelude.{Option, None, Some, Ok, Err}
use Rattle.std.specs.Option.{option_or}
use Rattle.std.specs.Int.{from_bool}
use Rattle.rules.specs.declared.Reached.{Reached}
use Rattle.rules.specs.declared.Reached.TheVariants.{Start, Typed, Headed, Halved, Paired}
use Rattle.rules.specs.declared.Spot.{Spot}
use Rattle.rules.specs.declared.Stage.{Stage}
use Rattle.rules.specs.declared.Stage.TheVariants as stage
use Rattle.rules.specs.declared.TrackFacts.{TrackFacts}
use Rattle.rules.proofs.OnePass.{after_box_lem, grown_few, spoken, unspoken}
use Rattle.rules.proofs.Then.{then_first, then_second, must_holds, moved_then, moved_holds, moved_breaks}
use Rattle.boxes.specs.Stands.{Stands}
use Rattle.header.specs.Answers.{FactsIn, HeadsAs, HeadsUpTo}
use Rattle.header.specs.declared.HeaderFacts.{HeaderFacts}
use Rattle.header.specs.declared.HeaderFault.{HeaderFault}
use Rattle.header.specs.declared.HeaderFault.TheVariants.{FtypBody, NoBrand, OfMoov}
use Rattle.track.specs.Course.{box_of, FewFragments, OwnHeld, Brings, Stops, SaysPasses, FaultUpTo, refusal_of}

-- a rule that holds, and one that breaks
judged_holds : {r : Rule} {f : TrackFacts} → r ≡ Ok tt → judged_by r f ≡ Ok f
unfolding judged_by
judged_holds e = rw e

pub judged_breaks : {r : Rule} {n t p : ℕ} (f : TrackFacts) → r ≡ breaks n t p → judged_by r f ≡ breaks n t p
unfolding judged_by
judged_breaks f e = rw e

-- the header of `moov` at a place, by its own bytes
module _ (f : Option Bool) (at : ℕ) (m : List ℕ) where
  pub header_good : (x : HeaderFacts) → FactsIn m x → header_rules at f m ≡ Ok tt
      → Ok (record { header = x.header; mdhd = at + x.mdhd; hdlr = at + x.hdlr; fragments = 0; plain = true; start = None; end = None }) ≡ opened f at m
  unfolding opened opened_facts
  header_good x i h = rw (i.header, i.mdhd, i.hdlr) (sym (judged_holds h))

  pub header_bad : {n t p : ℕ} → header_rules at f m ≡ breaks n t p → breaks n t p ≡ opened f at m
  unfolding opened
  header_bad h = sym (judged_breaks (opened_facts at m) h)

  -- a fault of the header
  pub header_fault : (x : HeaderFault) → HeadsAs (Err x) f m → Err (refusal_of x at) ≡ opened f at m
  header_fault FtypBody h = header_bad (h at)
  header_fault NoBrand h = header_bad (h at)
  header_fault (OfMoov e) h = header_bad (h.1 at)

pub fault_small : {b : ℕ} (x : HeaderFault) (n : ℕ) → n ≤ b → HeadsUpTo (Err x) n → FaultUpTo x b
fault_small FtypBody n l h = tt
fault_small NoBrand n l h = tt
fault_small (OfMoov e) n l h = omega arith

-- the first start, and one fragment more, as the code has them
pub or_start : (first : Option ℕ) (start : ℕ) → option_or first (Some start) ≡ or_tick first start
or_start None start = refl
or_start (Some t) start = refl

pub one_where : (b : Bool) → from_bool b ≡ when b 1 0
one_where true = refl
one_where false = refl

-- the chunk of a `moof` at a place, by its own bytes and the header length and the payload of its `mdat`
module _ (f : TrackFacts) (at : ℕ) (m : List ℕ) (head payload : ℕ) where
  -- its rules
  abbrev own_rules : Rule
  own_rules = shape m f.header.id then timing m f.header.defaults head payload f.end

  -- by 21 it begins a fragment exactly where its first sample is sync: the track's first is sync
  begins_sync : own_rules ≡ Ok tt → begins_one f.end (sync_in m f.header.defaults) ≡ sync_in m f.header.defaults
  unfolding timing rule21 opens begins_one
  begins_sync h =
      by f.end
      (must_holds _ 21 (first_run m)
      (then_first (rule21 m f.header.defaults f.end) _ (then_second _ _ (then_second _ _ (then_second (shape m f.header.id) _ h)))))
    where
      by : (prev : Option ℕ) → opens prev (sync_in m f.header.defaults) ≡ true
          → begins_one prev (sync_in m f.header.defaults) ≡ sync_in m f.header.defaults
      by None o = sym o
      by (Some e) o = refl

  pub chunk_good : (start end count : ℕ) (sync plain : Bool) (first : Option ℕ) → own_rules ≡ Ok tt
      → (start ≡ start_of m) × (end ≡ end_of m f.header.defaults) × (sync ≡ sync_in m f.header.defaults)
      → first ≡ or_tick f.start start → count ≡ f.fragments + when sync 1 0 → plain ≡ (f.plain && sync)
      → Ok (record { header = f.header; mdhd = f.mdhd; hdlr = f.hdlr; fragments = count; plain = plain; start = first; end = Some end })
      ≡ joined (Ok f) at m head payload
  unfolding joined grown
  chunk_good start end count sync plain first h a o c p =
      rw (o, c, p, a.0, a.1, a.2, ← moved_then, begins_sync h) (sym (judged_holds (moved_holds at h)))

  pub chunk_bad : {n t p : ℕ} → own_rules ≡ breaks n t p → breaks n t (at + p) ≡ joined (Ok f) at m head payload
  unfolding joined
  chunk_bad h = rw (← moved_then) (sym (judged_breaks (grown f m) (moved_breaks at h)))

-- what is known of the boxes so far: the fragments are few, and a `moof` that waits stands in the slice and ends at the place
abbrev pub FitsAt : List ℕ → Course → ℕ → Type 0
FitsAt s (Ok Start) at = Unit {0}
FitsAt s (Ok (Typed f)) at = Unit {0}
FitsAt s (Ok (Headed j)) at = FewFragments j at
FitsAt s (Ok (Halved j m)) at = FewFragments j at × Stands s m × (m.at + m.size ≡ at)
FitsAt s (Ok (Paired j)) at = FewFragments j at
FitsAt s (Err p) at = Unit {0}

-- fragments stay few
pub few_later : (j : Judged) (a b : ℕ) → a ≤ b → FewFragments j a → FewFragments j b
few_later (Ok f) a b h k = omega arith
few_later (Err e) a b h k = tt

few_judged : (r : Rule) (f : TrackFacts) (b : ℕ) → f.fragments ≤ b → FewFragments (judged_by r f) b
unfolding judged_by
few_judged (Ok u) f b h = h
few_judged (Err e) f b h = tt

few_more : (j : Judged) (x : ℕ) (m : List ℕ) (head payload a b : ℕ) → a + 1 ≤ b → FewFragments j a → FewFragments (joined j x m head payload) b
unfolding joined
few_more (Err e) x m head payload a b h k = tt
few_more (Ok f) x m head payload a b h k =
    few_judged _ (grown f m) b (omega (arith, grown_few f m))

few_opened : (f : Option Bool) (x : ℕ) (m : List ℕ) (b : ℕ) → FewFragments (opened f x m) b
unfolding opened opened_facts
few_opened f x m b = few_judged _ (opened_facts x m) b (omega arith)

-- a course that fits, fits after one box more
module _ (s own w : List ℕ) (x : Box) (d : Stands s (spot_of x)) where
  abbrev Next : Course → Type 0
  Next c = FitsAt s c (x.at + x.size)

  later : (j : Judged) → FewFragments j x.at → FewFragments j (x.at + x.size)
  later j h = few_later j x.at (x.at + x.size) (omega arith) h

  pub fits_box : (c : Course) → FitsAt s c x.at → FitsAt s (and_box own w c x) (x.at + x.size)
  unfolding and_box brought
  fits_box (Ok Start) h = after_box_lem Next own w x tt Start tt tt
  fits_box (Ok (Typed f)) h = after_box_lem Next own w x tt (Typed f) (few_opened f x.at own (x.at + x.size)) tt
  fits_box (Ok (Headed j)) h = after_box_lem Next own w x tt (Headed j) (later j h, d, refl) (later j h)
  fits_box (Ok (Halved j m)) h =
      after_box_lem Next own w x tt (Halved j m)
      (few_more j m.at w x.inner (x.size - x.inner) x.at (x.at + x.size) (omega (arith, d.low, d.holds)) h.0)
      tt
  fits_box (Ok (Paired j)) h = after_box_lem Next own w x tt (Paired j) (later j h, d, refl) (later j h)
  fits_box (Err p) h = tt

-- a step that leads to a stage
abbrev LeadsSomewhere : Option Stage → Type 0
LeadsSomewhere (Some g) = Unit {0}
LeadsSomewhere None = ⊥

-- where no other may stand, what leads on is the wanted one
led : (t : Bool) (n : Stage) {h : Stage} → when t (Some n) None ≡ Some h → t ≡ true
led true n e = refl
led false n e = absurd (subst LeadsSomewhere (sym e) tt)

-- a box that may stand after a stage, and stops the course
module _ (g : Stage) (k : ℕ) {p : Option Stage} (e : p ≡ step6 g k) {h : Stage} (i : p ≡ Some h) where
  -- the order speaks of it
  spoken_of : (ordered k ≡ true) ⊎ (step6 g k ≡ None) → ordered k ≡ true
  spoken_of = ⊎_elim (λ o. o) (λ (x : step6 g k ≡ None). absurd (subst LeadsSomewhere (sym i ∙ e ∙ x) tt))

  -- it is the one that the stage awaits
  pub led_strictly : (w : ℕ) (n : Stage) → step6 g k ≡ when (eqb k w) (Some n) None → eqb k w ≡ true
  led_strictly w n q = led (eqb k w) n (sym q ∙ sym e ∙ i)

  pub led_loosely : (ordered k ≡ true) ⊎ (step6 g k ≡ None) → (w : ℕ) (n : Stage) → step6 g k ≡ awaits w n g k → eqb k w ≡ true
  unfolding awaits
  led_loosely o w n q = led (eqb k w) n (rw (spoken_of o) at (sym q ∙ sym e ∙ i))

-- a box after a stage, by what rule 6 answers
module _ (c : Reached) (k : ℕ) {p : Option Stage} (e : p ≡ step6 (stage_of c) k) where
  -- one that may not stand there
  pub box_wrong : p ≡ None → (own v : List ℕ) (b : Spot) → Err b.at ≡ and_box own v (Ok c) (box_of b k)
  unfolding and_box
  box_wrong w own v b = rw (sym e ∙ w)

  -- one that may, and stops the course
  pub box_brought : {h : Stage} → p ≡ Some h → Stops (Ok c) k → (own v : List ℕ) (b : Spot) → Ok (brought own v c b) ≡ and_box own v (Ok c) (box_of b k)
  unfolding and_box
  box_brought w o own v b = rw (sym e ∙ w, spoken_of (stage_of c) k e w o)

-- the box that a stage awaits, and its own bytes
pub brings : {own : List ℕ} {b : Spot} (c : Reached) (k : ℕ) {p : Option Stage} → p ≡ step6 (stage_of c) k → {h : Stage} → p ≡ Some h
    → OwnHeld own b k → Stops (Ok c) k → Brings own c b
unfolding step6
brings Start k e i o s = o.of_ftyp_lem (led_strictly stage.Start k e i ftyp stage.Typed refl)
brings (Typed f) k e i o s = (o.of_moov (led_loosely stage.Typed k e i s moov stage.Headed refl), o.small, o.place)
brings (Headed j) k e i o s = tt
brings (Halved j m) k e i o s = (o.high, o.holds)
brings (Paired j) k e i o s = tt

-- where no other box may stand, every box stops the course
pub stops_strict : (g : Stage) (k w : ℕ) (n : Stage) → step6 g k ≡ when (eqb k w) (Some n) None → (eqb k w ≡ true → ordered k ≡ true)
    → (ordered k ≡ true) ⊎ (step6 g k ≡ None)
stops_strict g k w n q f = by (eqb k w) refl q
  where
    by : (t : Bool) → eqb k w ≡ t → step6 g k ≡ when t (Some n) None → (ordered k ≡ true) ⊎ (step6 g k ≡ None)
    by true e r = inl (f e)
    by false e r = inr r

-- where others may stand, a box that the order doesn't speak of is passed over
pub passes_loose : (k : ℕ) (o : Bool) → o ≡ ordered k → (c : Reached) (w : ℕ) (n : Stage) → step6 (stage_of c) k ≡ awaits w n (stage_of c) k
    → (ordered k ≡ false → eqb k w ≡ false) → SaysPasses (not o) (Ok c) k
unfolding and_box awaits
passes_loose k true e c w n q f = inl (sym e)
passes_loose k false e c w n q f = λ own v b. rw (q, f (sym e), ← e)

-- where the order is broken every box is passed over
pub passes_broken : (p k : ℕ) → SaysPasses true (Err p) k
unfolding and_box
passes_broken p k = λ own w b. refl

-- at the stages where others may stand, and at the two where they may not
pub loosely : (c : Reached) (k : ℕ) (o : Bool) → o ≡ ordered k
    → ((x : Option Bool) × (c ≡ Typed x)) ⊎ (((x : Judged) × (c ≡ Headed x)) ⊎ ((x : Judged) × (c ≡ Paired x))) → SaysPasses (not o) (Ok c) k
unfolding step6
loosely c k o e (inl w) = rw w.1 (passes_loose k o e (Typed w.0) moov stage.Headed refl (λ u. (unspoken k u).0))
loosely c k o e (inr (inl w)) = rw w.1 (passes_loose k o e (Headed w.0) moof stage.Halved refl (λ u. (unspoken k u).1))
loosely c k o e (inr (inr w)) = rw w.1 (passes_loose k o e (Paired w.0) moof stage.Halved refl (λ u. (unspoken k u).1))

pub strictly : (c : Reached) (k : ℕ) → ((x : Option Bool) → c ≡ Typed x → ⊥) → ((x : Judged) → c ≡ Headed x → ⊥) → ((x : Judged) → c ≡ Paired x → ⊥)
    → SaysPasses false (Ok c) k
unfolding step6
strictly Start k t h p = stops_strict stage.Start k ftyp stage.Typed refl (spoken k).0
strictly (Typed f) k t h p = absurd (t f refl)
strictly (Headed j) k t h p = absurd (h j refl)
strictly (Halved j m) k t h p = stops_strict stage.Halved k mdat stage.Paired refl (spoken k).3
strictly (Paired j) k t h p = absurd (p j refl)

-- a box that is not passed over stops the course
pub stopped : (o : Bool) (c : Course) (k : ℕ) → SaysPasses o c k → not o ≡ true → Stops c k
stopped true c k h e = absurd (true≢false (sym e))
stopped false c k h e = h

-- a box that is passed over leaves a course as it is
pub passed_over : (o : Bool) (c : Course) (k : ℕ) → SaysPasses o c k → not o ≡ false → (own w : List ℕ) (b : Spot) → and_box own w c (box_of b k) ≡ c
passed_over true c k h e = h
passed_over false c k h e = absurd (true≢false e)
