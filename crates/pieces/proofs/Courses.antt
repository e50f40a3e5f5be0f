-- What a box does to a course, by its type: whose bytes are looked at, and when a `moof` waits afterwards.
use mathlib.Core.Path.{◌≡◌, refl, sym}
use mathlib.Core.Bool.{Bool, true, false, ◌||◌, true≢false}
use mathlib.Core.List.{List, []}
use Prim.Native.Nat.{ℕ}
use lib.Dec.{eqb}
use lib.ListN.{take}
use borrow.Author.Tests.{eqb-true}
use Rattle.numbers.specs.Numbers.{when}
use Rattle.rules.specs.Kinds.{ftyp, moov, moof, mdat}
use Rattle.rules.specs.Boxes.{Box, inside}
use Rattle.rules.specs.Order.{ordered, awaits, step6, on_stepped}
use Rattle.rules.specs.Course.{spot_of, brought, and_box}
use Rattle.rules.specs.Pieces.{gathered, large}
use Rattle.rules.specs.Rules.{Course}
use Rattle.std.specs.Prelude.{Option, None, Some, Ok, Err}
use Rattle.rules.specs.declared.Path.TheVariants.{Top}
use Rattle.rules.specs.declared.Reached.{Reached}
use Rattle.rules.specs.declared.Reached.TheVariants.{Start, Typed, Headed, Halved, Paired}
use Rattle.rules.specs.declared.Stage.{Stage}
use Rattle.rules.specs.declared.Stage.TheVariants as stage
use Rattle.pieces.specs.Rest.{waits_after}
use Rattle.pieces.specs.State.{halved, kept_moof}

-- a type that is not gathered is none of the three
pub record NoneOf (k : ℕ) : Type 0 where
  pub no_ftyp : eqb k ftyp ≡ false
  pub no_moov : eqb k moov ≡ false
  pub no_moof : eqb k moof ≡ false

pub ungathered : (k : ℕ) → gathered k ≡ false → NoneOf k
unfolding gathered
ungathered k = by (eqb k ftyp) refl (eqb k moov) refl (eqb k moof) refl
  where
    by : (a : Bool) → eqb k ftyp ≡ a → (b : Bool) → eqb k moov ≡ b → (c : Bool) → eqb k moof ≡ c → (a || b || c) ≡ false → NoneOf k
    by true p b q c r e = absurd (true≢false e)
    by false p true q c r e = absurd (true≢false e)
    by false p false q true r e = absurd (true≢false e)
    by false p false q false r e = record { no_ftyp = p; no_moov = q; no_moof = r }

-- such a box is no container, and not too large
pub leaf_on_top : (k : ℕ) → NoneOf k → inside Top k ≡ None
unfolding inside
leaf_on_top k g = rw (g.no_moov, g.no_moof)

pub never_large : (k z : ℕ) → gathered k ≡ false → large k z ≡ false
unfolding large
never_large k z e = rw e

-- a gathered type is not `mdat`
pub no_mdat : (k : ℕ) → gathered k ≡ true → eqb k mdat ≡ false
unfolding gathered
no_mdat k = by (eqb k mdat) refl
  where
    by : (t : Bool) → eqb k mdat ≡ t → (eqb k ftyp || eqb k moov || eqb k moof) ≡ true → t ≡ false
    by false p e = refl
    by true p e = absurd (true≢false (sym (rw (eqb-true k mdat p) at e)))

-- of a box that is none of the three no byte is looked at
pub own_unread : (own w : List ℕ) (c : Course) (x : Box) → NoneOf x.kind → and_box own w c x ≡ and_box [] w c x
unfolding and_box step6 awaits brought
own_unread own w (Ok Start) x g = rw g.no_ftyp
own_unread own w (Ok (Typed f)) x g = rw g.no_moov (by (ordered x.kind))
  where
    by : (t : Bool)
        → on_stepped (when t None (Some stage.Typed)) (λ h. Ok (when t (brought own w (Typed f) (spot_of x)) (Typed f))) (Err x.at)
        ≡ on_stepped (when t None (Some stage.Typed)) (λ h. Ok (when t (brought [] w (Typed f) (spot_of x)) (Typed f))) (Err x.at)
    by true = refl
    by false = refl
own_unread own w (Ok (Headed j)) x g = refl
own_unread own w (Ok (Halved j m)) x g = refl
own_unread own w (Ok (Paired j)) x g = refl
own_unread own w (Err p) x g = refl

-- what holds of every course that a step may lead to
pub by_step : (P : Course → Type 0) (p : Option Stage) (o : Bool) (a b : Reached) (at : ℕ) → P (Ok a) → P (Ok b) → P (Err at)
    → P (on_stepped p (λ h. Ok (when o a b)) (Err at))
by_step P None o a b at x y z = z
by_step P (Some g) true a b at x y z = x
by_step P (Some g) false a b at x y z = y

-- a box that is no `moof`, where one is awaited, is passed over or breaks the order
unawaited : (o : Bool) (a b : Reached) (g : Stage) (at : ℕ) → halved (Ok b) ≡ false
    → halved (on_stepped (when o None (Some g)) (λ h. Ok (when o a b)) (Err at)) ≡ false
unfolding halved
unawaited true a b g at e = refl
unawaited false a b g at e = e

-- the order speaks of `mdat`
pub mdat_ordered : (k : ℕ) → eqb k mdat ≡ true → ordered k ≡ true
unfolding ordered
mdat_ordered k e = rw (eqb-true k mdat e)

-- a box that is no `moof` leaves none that waits
pub none_waits : (own w : List ℕ) (c : Course) (x : Box) → eqb x.kind moof ≡ false → halved (and_box own w c x) ≡ false
unfolding and_box step6 awaits brought halved
none_waits own w (Ok Start) x n =
    by_step (λ d. halved d ≡ false) (step6 stage.Start x.kind) (ordered x.kind) (brought own w Start (spot_of x)) Start x.at refl refl refl
none_waits own w (Ok (Typed f)) x n =
    by_step (λ d. halved d ≡ false) (step6 stage.Typed x.kind) (ordered x.kind) (brought own w (Typed f) (spot_of x)) (Typed f) x.at refl refl refl
none_waits own w (Ok (Headed j)) x n = rw n (unawaited (ordered x.kind) (Halved j (spot_of x)) (Headed j) stage.Headed x.at refl)
none_waits own w (Ok (Halved j m)) x n = by (eqb x.kind mdat) refl
  where
    by : (t : Bool) → eqb x.kind mdat ≡ t
        → halved
        (on_stepped (when t (Some stage.Paired) None) (λ h. Ok (when (ordered x.kind) (brought own w (Halved j m) (spot_of x)) (Halved j m))) (Err x.at))
        ≡ false
    by true e = rw (mdat_ordered x.kind e)
    by false e = refl
none_waits own w (Ok (Paired j)) x n = rw n (unawaited (ordered x.kind) (Halved j (spot_of x)) (Paired j) stage.Paired x.at refl)
none_waits own w (Err p) x n = refl

-- where none waits there are no bytes of it
pub none_after : (c : Course) (own : List ℕ) → halved c ≡ false → waits_after c own ≡ []
unfolding halved
none_after (Ok Start) own e = refl
none_after (Ok (Typed f)) own e = refl
none_after (Ok (Headed j)) own e = refl
none_after (Ok (Halved j m)) own e = absurd (true≢false e)
none_after (Ok (Paired j)) own e = refl
none_after (Err p) own e = refl

pub none_kept : (c : Course) (kept : List ℕ) → halved c ≡ false → kept_moof c kept ≡ []
unfolding halved
none_kept (Ok Start) kept e = refl
none_kept (Ok (Typed f)) kept e = refl
none_kept (Ok (Headed j)) kept e = refl
none_kept (Ok (Halved j m)) kept e = absurd (true≢false e)
none_kept (Ok (Paired j)) kept e = refl
none_kept (Err p) kept e = refl

-- where a `moof` waits, a box that is no `mdat` breaks the order
pub breaks_order : (own w : List ℕ) (c : Course) (x : Box) → halved c ≡ true → eqb x.kind mdat ≡ false → and_box own w c x ≡ Err x.at
unfolding and_box step6 halved
breaks_order own w (Ok Start) x e n = absurd (true≢false (sym e))
breaks_order own w (Ok (Typed f)) x e n = absurd (true≢false (sym e))
breaks_order own w (Ok (Headed j)) x e n = absurd (true≢false (sym e))
breaks_order own w (Ok (Halved j m)) x e n = rw n
breaks_order own w (Ok (Paired j)) x e n = absurd (true≢false (sym e))
breaks_order own w (Err p) x e n = absurd (true≢false (sym e))

-- a `moof` that waits after a box, where none did before, is that box
pub waits_itself : (own w : List ℕ) (c : Course) (x : Box) (kept : List ℕ) → halved c ≡ false → own ≡ take x.size kept
    → waits_after (and_box own w c x) own ≡ kept_moof (and_box own w c x) kept
unfolding and_box brought halved
waits_itself own w c x kept e q = go c e
  where
    Same : Course → Type 0
    Same d = waits_after d own ≡ kept_moof d kept

    go : (c : Course) → halved c ≡ false → Same (and_box own w c x)
    go (Ok Start) e =
        by_step Same (step6 stage.Start x.kind) (ordered x.kind) (brought own w Start (spot_of x)) Start x.at refl refl refl
    go (Ok (Typed f)) e =
        by_step Same (step6 stage.Typed x.kind) (ordered x.kind) (brought own w (Typed f) (spot_of x)) (Typed f) x.at refl refl refl
    go (Ok (Headed j)) e =
        by_step Same (step6 stage.Headed x.kind) (ordered x.kind) (brought own w (Headed j) (spot_of x)) (Headed j) x.at q refl refl
    go (Ok (Halved j m)) e = absurd (true≢false e)
    go (Ok (Paired j)) e =
        by_step Same (step6 stage.Paired x.kind) (ordered x.kind) (brought own w (Paired j) (spot_of x)) (Paired j) x.at q refl refl
    go (Err p) e = refl
