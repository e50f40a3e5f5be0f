-- Laws of the first box that an entry counts: where it is seen, and that a walk over the runs may begin there.
use mathlib.Core.Path.{◌≡◌, refl, sym, ap, subst, ◌∙◌}
use mathlib.Core.List.{List, [], ◌∷◌}
use mathlib.Core.Bool.{Bool, true, false}
use Prim.Native.Nat.{ℕ, zero, suc, ◌+◌, ◌-◌, ◌≤◌}
use native.Mathlib.Omega.{arith}
use lib.ListN.{length, take}
use lib.Seq.{length-take-le}
use lib.Dec.{eqb}
use denote.Ref.{Bor}
use denote.Param.Members.{Mut}
use borrow.Author.Tests.{eq-eqb, ne_eqb, eqb-true, eqb-false}
use Rattle.numbers.specs.Numbers.{when}
use Rattle.rules.specs.Kinds.{trun}
use Rattle.rules.specs.Boxes.{look, boxes, kids, places_of, head_of, size_of}
use Rattle.rules.specs.Counts.{wanted, seen_from, seen, first_of, first_in, child, some_of, counted, counts}
use Rattle.rules.specs.Chunk.{traf_in, first_run, runs_in, rule14}
use Rattle.rules.specs.declared.Entry.{Entry}
use Rattle.rules.specs.declared.Entry.TheVariants.{One, OneOrMore}
use Rattle.rules.specs.declared.Look.{Look}
use Rattle.rules.specs.declared.Look.TheVariants.{Nothing, Short, Small, Beyond, Good}
use Rattle.std.specs.Prelude.{Ok, Option, Some, None}
use Rattle.std.specs.Fn.{CalledAt}
use Rattle.std.specs.Iterator.{FindsItem, Yields}
use Rattle.std.specs.List.{FoldsTo}
use Rattle.rules.specs.declared.Seen.{Seen}
use Rattle.rules.specs.declared.Seen.TheVariants.{Never, Once}
use Rattle.rules.proofs.FirstSeen.{first_stays, first_at_lem}
use Rattle.rules.proofs.Forest.{look_found, boxes_by, places_miss, seen_box, seen_end}
use Rattle.rules.proofs.Then.{broken, then_first, then_second}
use Rattle.boxes.specs.Stands.{Stands, StandsAt}
use Rattle.rules.specs.declared.Spot.{Spot}
use Rattle.boxes.specs.Siblings.{FirstOf, IsNextSibling}
use Rattle.boxes.specs.declared.Sibling.{Sibling}
use Rattle.boxes.specs.declared.SiblingBoxes.{SiblingBoxes}
use Rattle.boxes.proofs.Walks.{first_there, none_there, first_box}
use Rattle.boxes.proofs.Stands.{stands}
use Rattle.counts.specs.Sights.{Sighted}
use Rattle.counts.specs.declared.Sight.{Sight}
use Rattle.runs.specs.Runs.{runs_at}

-- what is seen from a place on, by what stands there: no box, one that counts, one that does not
module _ (s : List ℕ) (at : ℕ) (e : Entry) where
  pub first_none : (p : ℕ) → boxes s at ≡ [] → first_of p (seen e (boxes s at)) ≡ p
  first_none p o = ap (first_of p) (seen_end s at Never e o)

  module _ (h z k : ℕ) (l : look s at ≡ Good h z k) where
    pub first_here : (p : ℕ) → wanted e k ≡ true → first_of p (seen e (boxes s at)) ≡ at
    first_here p y =
        ap (first_of p) (seen_box s at Never e h z k l ∙ ap (λ (t : Bool). seen_from (when t (Once at) Never) e (boxes s (at + z))) y)
        ∙ first_at_lem (λ a. a ≡ at) p (seen_from (Once at) e (boxes s (at + z))) (first_stays (λ a. a ≡ at) e (Once at) (boxes s (at + z)) refl)

    pub first_later : wanted e k ≡ false → seen e (boxes s at) ≡ seen e (boxes s (at + z))
    first_later n = seen_box s at Never e h z k l ∙ ap (λ (t : Bool). seen_from (when t (Once at) Never) e (boxes s (at + z))) n

-- a walk over the boxes of a type, of which there is one, may begin at the first
module _ (s : List ℕ) (w n c p : ℕ) where
  abbrev sees : ℕ → Seen
  sees at = seen (OneOrMore w) (boxes s at)

  abbrev Skips : ℕ → Type 0
  Skips at = some_of n c (sees at) ≡ Ok tt → places_of w (boxes s at) ≡ places_of w (boxes s (first_of p (sees at)))

  skips_none : (at : ℕ) → boxes s at ≡ [] → Skips at
  unfolding some_of
  skips_none at o some = absurd (broken (sym (ap (some_of n c) (seen_end s at Never (OneOrMore w) o)) ∙ some))

  skips_by : (at : ℕ) (l : Look) → look s at ≡ l → ((z : ℕ) → 8 ≤ z → at + z ≤ length s → Skips (at + z)) → Skips at
  unfolding wanted
  skips_by at Nothing e more = skips_none at (boxes_by s at Nothing e)
  skips_by at Short e more = skips_none at (boxes_by s at Short e)
  skips_by at Small e more = skips_none at (boxes_by s at Small e)
  skips_by at Beyond e more = skips_none at (boxes_by s at Beyond e)
  skips_by at (Good h z k) e more =
      let f = look_found s at h z k e in
      let by : (t : Bool) → eqb k w ≡ t → Skips at
      = elim [
        | true ↦ λ y some. ap (λ (q : ℕ). places_of w (boxes s q)) (sym (first_here s at (OneOrMore w) h z k e p y))
        | false ↦ λ y.
            let g = first_later s at (OneOrMore w) h z k e y in
            λ some.
            places_miss s at w h z k e y
            ∙ more z (omega (arith, f.low, f.holds)) f.fits (ap (some_of n c) (sym g) ∙ some)
            ∙ ap (λ (v : Seen). places_of w (boxes s (first_of p v))) (sym g)
      ] in
      by (eqb k w) refl

  skips_from : (f at : ℕ) → length s - at ≤ f → Skips at
  skips_from zero at h = skips_by at (look s at) refl (λ z a b. absurd (omega (arith, h, a, b)))
  skips_from (suc f) at h = skips_by at (look s at) refl (λ z a b. skips_from f (at + z) (omega (arith, h, a, b)))

-- the runs are those from the first on in the front up to the end of the `traf`
module _ (m : List ℕ) (right : rule14 m ≡ Ok tt) where
  some_run : some_of 14 (traf_in m) (seen (OneOrMore trun) (kids m (traf_in m))) ≡ Ok tt
  unfolding rule14 counts counted
  some_run = then_first _ _ (then_second _ _ (then_second _ _ (then_second _ _ right)))

  pub front_runs :
      (t r : Spot) → StandsAt m (traf_in m) t → StandsAt m (first_run m) r → runs_at (take (t.at + t.size) m) r.at ≡ runs_in m
  unfolding runs_at runs_in first_run first_in kids
  front_runs t r st sr =
      let at = traf_in m in
      let s = take (at + size_of m at) m in
      rw (← st.stands.size, st.place, sr.place) (sym (skips_from s trun 14 at at (length s) (at + head_of m at) (omega arith) some_run))

-- the runs are those among all boxes of the `traf`
pub traf_runs : (m : List ℕ) (t : Spot) → StandsAt m (traf_in m) t → runs_at (take (t.at + t.size) m) (t.at + t.head) ≡ runs_in m
unfolding runs_at runs_in kids
traf_runs m t st = rw (← st.stands.size, ← st.stands.head, st.place)

-- a front of a slice
pub front_is : (m : List ℕ) (n : ℕ) → n ≤ length m → take n m ≡ take (length (take n m)) m
front_is m n h = ap (λ (k : ℕ). take k m) (sym (length-take-le n m h))

-- the first box of a type in a container, by the boxes from a place on
module _ (m : List ℕ) (x : Spot) (st : Stands m x) (w at : ℕ) where
  abbrev front : List ℕ
  front = take (x.at + x.size) m

  abbrev FromHere : Type 0
  FromHere = seen (One w) (boxes front (x.at + x.head)) ≡ seen (One w) (boxes front at)

  child_is : FromHere → (q : ℕ) → first_of x.at (seen (One w) (boxes front at)) ≡ q → q ≡ child m x.at w
  unfolding first_in kids
  child_is i q e = sym (rw (st.size, st.head) (ap (first_of x.at) i ∙ e))

  pub child_none : FromHere → boxes front at ≡ [] → StandsAt m (child m x.at w) x
  child_none i o = record { stands = st; place = child_is i x.at (first_none front at (One w) x.at o) }

  module _ {q : ℕ} {b : Sibling} (f : FirstOf front at q b) where
    header : look front at ≡ Good b.spot.head b.spot.size b.kind
    header = rw (← f.place) f.header

    pub child_here : FromHere → b.kind ≡ w → StandsAt m (child m x.at w) b.spot
    unfolding wanted
    child_here i e =
        record {
          stands = stands m front (front_is m (x.at + x.size) st.fits) (first_box f);
          place = f.place ∙ child_is i at (first_here front at (One w) b.spot.head b.spot.size b.kind header x.at (eq-eqb b.kind w e));
        }

    pub child_later : FromHere → (b.kind ≡ w → ⊥) → seen (One w) (boxes front (x.at + x.head)) ≡ seen (One w) (boxes front q)
    unfolding wanted
    child_later i n =
        rw (f.next, f.place) (i ∙ first_later front at (One w) b.spot.head b.spot.size b.kind header (ne_eqb b.kind w n))

-- the first box of a type among siblings, looked for from the first on: `find` with a closure f that tests the type
module _ (m : List ℕ) (x : Spot) (st : Stands m x) (w : ℕ) {F : Type 0} (g : Mut F (Bor Sibling × Unit {0}) Bool) (f : F)
    (tests : (b : Sibling) (r : Bool) (q : F) → CalledAt g f b r q → (q ≡ f) × (r ≡ eqb b.kind w)) where
  abbrev Gives : SiblingBoxes → Option Sibling → SiblingBoxes → Type 0
  Gives p r q = (q.bytes.now ≡ p.bytes.now) × IsNextSibling r p.bytes.now p.at q.at

  -- no box of the type was passed up to p
  abbrev At : SiblingBoxes → Type 0
  At p = (p.bytes.now ≡ front m x st w p.at) × FromHere m x st w p.at

  passed : (bs : List Sibling) (p q : SiblingBoxes) (a j : F) → a ≡ f → At p → Yields Gives p bs q → FoldsTo (λ s b t. CalledAt g s b false t) a bs j → At q × (j ≡ f)
  passed [] p q a j e h y c = (subst At y h, sym c ∙ e)
  passed (b ∷ bs) p q a j e h y c =
      let n = y.1 in
      let t = tests b false c.0 (subst (λ (s : F). CalledAt g s b false c.0) e c.1) in
      passed bs y.0 q c.0 j t.0 (n.0 ∙ h.0, child_later m x st w p.at (first_there h.0 n.1) h.1 (eqb-false b.kind w (sym t.1))) y.2 c.2

  module _ (p u : SiblingBoxes) (e : p.bytes.now ≡ take (x.at + x.size) m) (i : p.at ≡ x.at + x.head) where
    begins : At p
    begins = (e, rw i refl)

    pub child_found : (b : Sibling) → FindsItem Gives g p f (Some b) u → StandsAt m (child m x.at w) b.spot
    child_found b d =
        let l = passed d.0 p d.2.0 f d.1 refl begins d.2.1 d.3 in
        let t = tests b true d.4.0 (subst (λ (s : F). CalledAt g s b true d.4.0) l.1 d.4.1) in
        child_here m x st w d.2.0.at (first_there l.0.0 d.2.2.1) l.0.1 (eqb-true b.kind w (sym t.1))

    pub child_absent : FindsItem Gives g p f None u → StandsAt m (child m x.at w) x
    child_absent d =
        let l = passed d.0 p d.2.0 f d.1 refl begins d.2.1 d.3 in
        child_none m x st w d.2.0.at l.0.1 (none_there l.0.0 _ d.2.2.1.0)

-- the first box seen of an entry stands where it is
pub sighted : (m : List ℕ) (at : ℕ) (e : Entry) (v : Sight) → Sighted m at e v → StandsAt m (first_in m at e) v.first
sighted m at e v g = record { stands = g.stands.0; place = g.first }
