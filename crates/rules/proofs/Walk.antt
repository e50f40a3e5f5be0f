-- The top level of a track: boxes stand one behind the other, and by rule 6 each `moof` has its `mdat` right behind it.
use mathlib.Core.Path.{◌≡◌, refl, sym, ap, subst, ◌∙◌}
use mathlib.Core.Bool.{Bool, true, false, true≢false}
use mathlib.Core.List.{List, [], ◌∷◌}
use Prim.Native.Nat.{ℕ, zero, suc, ◌+◌, ◌-◌, ◌≤◌, min}
use native.Mathlib.Omega.{arith}
use lib.ListN.{length, take, drop, length-take, length-drop}
use lib.Dec.{eqb}
use borrow.Author.Tests.{eqb-true}
use Rattle.numbers.specs.Numbers.{when}
use Rattle.rules.specs.Kinds.{ftyp, moov, moof, mdat}
use Rattle.rules.specs.Boxes.{Box, look, grow, forest, tops, boxes, places_of, head_of, size_of, kind_of, whole}
use Rattle.rules.specs.Order.{ordered, awaits, step6, on_stepped, order_from, rule6}
use Rattle.rules.specs.Track.{chunks_from, chunks, mdat_at}
use Rattle.rules.specs.Plans.{All}
use Rattle.rules.specs.declared.Path.{Path}
use Rattle.rules.specs.declared.Path.TheVariants.{Flat}
use Rattle.rules.specs.declared.Look.{Look}
use Rattle.rules.specs.declared.Look.TheVariants.{Nothing, Short, Small, Beyond, Good}
use Rattle.rules.specs.declared.Stage.{Stage}
use Rattle.rules.specs.declared.Stage.TheVariants.{Start, Typed, Headed, Halved, Paired}
use Rattle.rules.specs.Rules.{breaks}
use Rattle.std.specs.Prelude.{Option, None, Some, Ok}
use Rattle.rules.proofs.Then.{broken}
use Rattle.rules.proofs.Forest.{FoundBox, look_found, sprout}

-- boxes that stand one behind the other from a place on, each with what its header tells
abbrev pub Siblings : List ℕ → ℕ → List Box → Type 0
Siblings s at [] = Unit {0}
Siblings s at (x ∷ xs) = (x.at ≡ at) × FoundBox s at x.inner x.size x.kind × Siblings s (at + x.size) xs

siblings : (f : ℕ) (p : Path) (s : List ℕ) (at : ℕ) → Siblings s at (tops (grow f p s at))
unfolding grow tops
siblings zero p s at = tt
siblings (suc f) p s at = go (look s at) refl (λ z. siblings f p s (at + z))
  where
    go : (l : Look) → look s at ≡ l → ((z : ℕ) → Siblings s (at + z) (tops (grow f p s (at + z))))
        → Siblings s at (tops (sprout (λ q t. grow f q t 0) (grow f p s) p s at l))
    go Nothing e r = tt
    go Short e r = tt
    go Small e r = tt
    go Beyond e r = tt
    go (Good h z k) e r = (refl, look_found s at h z k e, r z)

pub boxes_siblings : (s : List ℕ) (at : ℕ) → Siblings s at (boxes s at)
unfolding boxes forest
boxes_siblings s at = siblings (length s - at) Flat s at

-- a stage led to
abbrev LeadsTo : Option Stage → Stage → Type 0
LeadsTo (Some g) h = g ≡ h
LeadsTo None h = ⊥

-- after a `moof` its `mdat` is awaited
pub after_moof : (g : Stage) (k : ℕ) (h : Stage) → eqb k moof ≡ true → step6 g k ≡ Some h → Halved ≡ h
unfolding step6 awaits ordered
after_moof g k h e q = go g (rw (eqb-true k moof e) at q)
  where
    told : (r : Option Stage) → r ≡ Some h → LeadsTo r h
    told r p = subst (λ (t : Option Stage). LeadsTo t h) (sym p) refl

    go : (g : Stage) → step6 g moof ≡ Some h → Halved ≡ h
    go Start p = absurd (told None p)
    go Typed p = absurd (told None p)
    go Headed p = told (Some Halved) p
    go Halved p = absurd (told None p)
    go Paired p = told (Some Halved) p

-- the data box behind the `moof` at x: of type `mdat`, its size at least its header's length, and inside the slice
abbrev pub DataBox : List ℕ → ℕ → Type 0
DataBox s x =
    (kind_of s (mdat_at s x) ≡ mdat) × (head_of s (mdat_at s x) ≤ size_of s (mdat_at s x)) × (mdat_at s x + size_of s (mdat_at s x) ≤ length s)

-- a `moof`'s data box begins where the `moof` ends
mdat_at_lem : (s : List ℕ) (x : ℕ) → size_of s x ≤ length s - x → mdat_at s x ≡ x + size_of s x
unfolding mdat_at whole
mdat_at_lem s x h =
    ap (λ (n : ℕ). x + n)
    (let e : length (take (size_of s x) (drop x s)) ≡ min (size_of s x) (length (drop x s)) = length-take (size_of s x) (drop x s) in
    omega (arith, e, length-drop x s))

pub mdat_next : (s : List ℕ) {at h z k : ℕ} → FoundBox s at h z k → mdat_at s at ≡ at + z
mdat_next s {at} d = mdat_at_lem s at (omega (arith, d.size, d.fits)) ∙ ap (λ (n : ℕ). at + n) d.size

-- where an `mdat` is awaited there is one
awaited : (s : List ℕ) (len at : ℕ) (xs : List Box) → Siblings s at xs → order_from len Halved xs ≡ Ok tt
    → (kind_of s at ≡ mdat) × (head_of s at ≤ size_of s at) × (at + size_of s at ≤ length s)
unfolding order_from step6
awaited s len at [] y h = absurd (broken h)
awaited s len at (x ∷ xs) y h = go (eqb x.kind mdat) refl h
  where
    b : FoundBox s at x.inner x.size x.kind
    b = y.1

    go : (t : Bool) → eqb x.kind mdat ≡ t
        → on_stepped (when t (Some Paired) None) (λ g. order_from len g xs) (breaks 6 0 x.at) ≡ Ok tt
        → (kind_of s at ≡ mdat) × (head_of s at ≤ size_of s at) × (at + size_of s at ≤ length s)
    go true e r =
        (b.kind ∙ eqb-true x.kind mdat e, omega (arith, b.head, b.size, b.holds), omega (arith, b.size, b.fits))
    go false e r = absurd (broken r)

-- so every `moof` of boxes in order has its data box
in_order_lem : (s : List ℕ) (len at : ℕ) (g : Stage) (xs : List Box) → Siblings s at xs → order_from len g xs ≡ Ok tt
    → All (DataBox s) (places_of moof xs)
unfolding order_from places_of
in_order_lem s len at g [] y h = tt
in_order_lem s len at g (x ∷ xs) y h =
    go (step6 g x.kind) refl h (eqb x.kind moof) refl (λ k r. in_order_lem s len (at + x.size) k xs y.2 r)
  where
    b : FoundBox s at x.inner x.size x.kind
    b = y.1

    here : order_from len Halved xs ≡ Ok tt → DataBox s x.at
    here r =
        let m : mdat_at s x.at ≡ at + x.size = rw y.0 (mdat_next s b) in
        rw m (awaited s len (at + x.size) xs y.2 r)

    go : (p : Option Stage) → step6 g x.kind ≡ p
        → on_stepped p (λ k. order_from len k xs) (breaks 6 0 x.at) ≡ Ok tt
        → (t : Bool) → eqb x.kind moof ≡ t
        → ((k : Stage) → order_from len k xs ≡ Ok tt → All (DataBox s) (places_of moof xs))
        → All (DataBox s) (when t (x.at ∷ places_of moof xs) (places_of moof xs))
    go None e r t q rest = absurd (broken r)
    go (Some k) e r false q rest = rest k r
    go (Some k) e r true q rest = (here (rw (after_moof g x.kind k q e) r), rest k r)

-- the data box of every chunk of a track whose top level is in order
pub data_boxes : (s : List ℕ) → rule6 s ≡ Ok tt → All (DataBox s) (chunks s)
unfolding rule6 chunks_from
data_boxes s h = in_order_lem s (length s) 0 Start (boxes s 0) (boxes_siblings s 0) h

-- the stages before the first `moof`
abbrev Early : Stage → Type 0
Early Start = Unit {0}
Early Typed = Unit {0}
Early Headed = Unit {0}
Early Halved = ⊥
Early Paired = ⊥

-- a box that is no `moof` leaves such a stage for such a stage
still_early : (g : Stage) (k : ℕ) (h : Stage) → Early g → eqb k moof ≡ false → step6 g k ≡ Some h → Early h
unfolding step6 awaits
still_early g k h e n q = go g e q
  where
    to : (r : Option Stage) (y : Stage) → r ≡ Some y → LeadsTo r y
    to r y p = subst (λ (t : Option Stage). LeadsTo t y) (sym p) refl

    at : (a : Stage) → Early a → Some a ≡ Some h → Early h
    at a y p = subst Early (to (Some a) h p) y

    first : (b : Bool) → when b (Some Typed) None ≡ Some h → Early h
    first true p = at Typed tt p
    first false p = absurd (to None h p)

    any : (b c : Bool) (u v : Stage) → Early u → Early v → when b (Some u) (when c None (Some v)) ≡ Some h → Early h
    any true c u v y z p = at u y p
    any false true u v y z p = absurd (to None h p)
    any false false u v y z p = at v z p

    third : (b c : Bool) → b ≡ false → when b (Some Halved) (when c None (Some Headed)) ≡ Some h → Early h
    third true c f p = absurd (true≢false f)
    third false true f p = absurd (to None h p)
    third false false f p = at Headed tt p

    go : (g : Stage) → Early g → step6 g k ≡ Some h → Early h
    go Start y p = first (eqb k ftyp) p
    go Typed y p = any (eqb k moov) (ordered k) Headed Typed tt tt p
    go Headed y p = third (eqb k moof) (ordered k) n p
    go Halved y p = absurd y
    go Paired y p = absurd y

-- boxes in order have a `moof`
some_moof : (len : ℕ) (g : Stage) (xs : List Box) → Early g → order_from len g xs ≡ Ok tt → 1 ≤ length (places_of moof xs)
unfolding order_from places_of
some_moof len Start [] e h = absurd (broken h)
some_moof len Typed [] e h = absurd (broken h)
some_moof len Headed [] e h = absurd (broken h)
some_moof len Halved [] e h = absurd e
some_moof len Paired [] e h = absurd e
some_moof len g (x ∷ xs) e h = go (eqb x.kind moof) refl (step6 g x.kind) refl h (λ k. some_moof len k xs)
  where
    go : (t : Bool) → eqb x.kind moof ≡ t → (p : Option Stage) → step6 g x.kind ≡ p
        → on_stepped p (λ k. order_from len k xs) (breaks 6 0 x.at) ≡ Ok tt
        → ((k : Stage) → Early k → order_from len k xs ≡ Ok tt → 1 ≤ length (places_of moof xs))
        → 1 ≤ length (when t (x.at ∷ places_of moof xs) (places_of moof xs))
    go true n p q r f = omega arith
    go false n None q r f = absurd (broken r)
    go false n (Some k) q r f = f k (still_early g x.kind k e n q) r

-- a track whose top level is in order has a chunk
pub some_chunk : (s : List ℕ) → rule6 s ≡ Ok tt → 1 ≤ length (chunks s)
unfolding rule6 chunks_from
some_chunk s h = some_moof (length s) Start (boxes s 0) tt h
