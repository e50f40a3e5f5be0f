-- Laws of walks over sibling boxes, a box at a time, to the next of a type.
use mathlib.Core.Path.{◌≡◌, refl, sym, ap, ◌∙◌}
use mathlib.Core.List.{List, [], ◌∷◌}
use Prim.Native.Nat.{ℕ, ◌+◌, ◌≤◌}
use native.Mathlib.Omega.{arith}
use borrow.Author.Tests.{eq-eqb, ne_eqb}
use Rattle.rules.specs.Boxes.{look, boxes, places_of}
use Rattle.rules.specs.declared.Look.{Look}
use Rattle.rules.specs.declared.Look.TheVariants.{Nothing, Short, Small, Beyond, Good}
use Rattle.rules.proofs.Forest.{FoundBox, look_found, boxes_by, boxes_box, places_hit, places_miss, places_end}
use Rattle.boxes.specs.Siblings.{Comes, FirstOf}
use Rattle.boxes.specs.declared.Sibling.{Sibling}
use Rattle.boxes.proofs.Stands.{stands_here}

-- where no header stands there are no more boxes
pub over : (s : List ℕ) (at : ℕ) (l : Look) → l ≡ look s at → ((h z k : ℕ) → l ≡ Good h z k → ⊥) → boxes s at ≡ []
over s at Nothing e o = boxes_by s at Nothing (sym e)
over s at Short e o = boxes_by s at Short (sym e)
over s at Small e o = boxes_by s at Small (sym e)
over s at Beyond e o = boxes_by s at Beyond (sym e)
over s at (Good h z k) e o = absurd (o h z k refl)

-- the first of the boxes of a slice, and none of them, where it is the slice that a walk goes over
module _ {s t : List ℕ} (e : t ≡ s) where
  pub first_there : {at q : ℕ} {b : Sibling} → FirstOf t at q b → FirstOf s at q b
  first_there f = rw (← e) f

  pub none_there : (at : ℕ) → boxes t at ≡ [] → boxes s at ≡ []
  none_there at o = rw (← e) o

-- what its header tells, and the places of a type where it is of that type, and where it is not
module _ {s : List ℕ} {at q : ℕ} {b : Sibling} (f : FirstOf s at q b) where
  pub first_box : FoundBox s b.spot.at b.spot.head b.spot.size b.kind
  first_box = look_found s b.spot.at b.spot.head b.spot.size b.kind f.header

  pub first_hit : {w : ℕ} → b.kind ≡ w → places_of w (boxes s at) ≡ b.spot.at ∷ places_of w (boxes s q)
  unfolding places_of
  first_hit {w} e = ap (places_of w) f.boxes ∙ simp (eq-eqb b.kind w e)

  pub first_miss : {w : ℕ} → (b.kind ≡ w → ⊥) → places_of w (boxes s at) ≡ places_of w (boxes s q)
  unfolding places_of
  first_miss {w} n = ap (places_of w) f.boxes ∙ simp (ne_eqb b.kind w n)

-- from `at` to `here` no box of type k was passed
pub record Passed (s : List ℕ) (at k here : ℕ) : Type 0 where
  pub from : at ≤ here
  pub places : places_of k (boxes s at) ≡ places_of k (boxes s here)

pub passed_none : (s : List ℕ) (at k : ℕ) → Passed s at k at
passed_none s at k = record { from = omega arith; places = refl }

pub passed_all : {s : List ℕ} {at k here : ℕ} → Passed s at k here → boxes s here ≡ [] → places_of k (boxes s at) ≡ []
passed_all {s} {at} {k} {here} p e = p.places ∙ places_end s here k e

module _ (s : List ℕ) (here : ℕ) {h z k : ℕ} {l : Look} (e : l ≡ look s here) (t : l ≡ Good h z k) where
  pub told_header : look s here ≡ Good h z k
  told_header = sym e ∙ t

  -- what the header tells
  pub found : FoundBox s here h z k
  found = look_found s here h z k told_header

  -- it is the first of those from there on
  pub first_found : FirstOf s here (here + z) (record { spot = record { at = here; head = h; size = z }; kind = k })
  first_found =
      record {
        boxes = boxes_box s here h z k told_header;
        header = told_header;
        place = refl;
        next = refl;
        stands = stands_here found;
      }

  -- a box of the type, and one of another
  pub comes : {at w : ℕ} → Passed s at w here → k ≡ w → Comes s at w here (here + z)
  comes {at} {w} p q =
      record {
        places = p.places ∙ rw (← q) (places_hit s here h z k told_header);
        header = let f : FoundBox s here h z k = found in let g : look s here ≡ Good h z k = told_header in cc;
        size = omega (arith, found.size);
        from = p.from;
        past = omega (arith, found);
        inner = found.fits;
      }

  pub passed_more : {at w : ℕ} → Passed s at w here → (k ≡ w → ⊥) → Passed s at w (here + z)
  passed_more {at} {w} p n =
      record {
        from = omega (arith, p.from);
        places = p.places ∙ places_miss s here w h z k told_header (ne_eqb k w n);
      }
