-- Demand 3, second half: tracks accepted singly that are refused as a set under 27 or 28 have two plans that tell them apart.
use mathlib.Core.Path.{◌≡◌, refl, sym, ap, subst, ◌∙◌}
use mathlib.Core.Logic.{◌⊎◌, inl, inr}
use mathlib.Core.Bool.{Bool, true, false}
use mathlib.Core.Option.{Option, some, none-ne-some, some-injective}
use mathlib.Core.List.{List, [], ◌∷◌}
use Prim.Native.Nat.{ℕ, zero, suc, ◌+◌, ◌≤◌, ◌<◌, max}
use native.Mathlib.Nat.{not-suc-le-zero, le_of_suc-le-suc}
use native.Mathlib.Decide.{dec_lt}
use native.Mathlib.Omega.{arith}
use lib.ListN.{length, drop, get_elem?, get_or, replicate, length-replicate, length-map}
use lib.Dec.{eqb}
use borrow.Author.Tests.{eqb-true, eqb-false, eq-eqb}
use Rattle.rules.specs.Rules.{◌then◌, must, of_track, Rule, breaks}
use Rattle.rules.specs.Track.{ruling, fragments, first_moofs, fragment_count, timescale, boundaries}
use Rattle.rules.specs.Set.{hdlr_at, mdhd_at, handler, same, first_or, rule28_from, rule28, agrees, rulings, agree, track0, set_ruling}
use Rattle.rules.specs.Player.{passed, play}
use Rattle.rules.specs.Plans.{All, longest, Comparable, OneStuck, TicksDiffer, ToldApart, Singly, OneKind}
use Rattle.std.specs.Prelude.{Ok, Err}
use Rattle.rules.proofs.Laws.{all_at, is_below}
use Rattle.rules.proofs.Then.{then_holds, must_true}
use Rattle.rules.proofs.Boundaries.{a_fragment, as_many}
use Rattle.rules.proofs.Plays.{all_stay, plays_alone, too_long}

-- a refusal with this number, track and place
abbrev pub Refuses : Rule → ℕ → ℕ → ℕ → Type 0
Refuses (Ok u) n t p = ⊥
Refuses (Err e) n t p = (e.number ≡ n) × (e.track ≡ t) × (e.place ≡ p)

pub is_refusal : (r : Rule) (n t p : ℕ) → r ≡ breaks n t p → Refuses r n t p
is_refusal r n t p e = subst (λ (q : Rule). Refuses q n t p) (sym e) (refl, refl, refl)

-- k is the first number at which a list differs from another
abbrev pub FirstDiffers : List ℕ → List ℕ → ℕ → Type 0
FirstDiffers ys xs k = (k < length ys) × ((i : ℕ) → i < k → get_or ys i 0 ≡ get_or xs i 0) × (get_or ys k 0 ≡ get_or xs k 0 → ⊥)

-- 28 in the paper's words: p is where the first boundary k that differs stands, at the first `moof` of fragment k, of the last fragment if k is F
abbrev pub StandsAt28 : List ℕ → List ℕ → ℕ → Type 0
StandsAt28 s₀ s p =
    (k : ℕ)
    × FirstDiffers (boundaries s) (boundaries s₀) k
    × (k < fragment_count s → get_elem? (first_moofs (fragments s)) k ≡ some p)
    × ((j : ℕ) → fragment_count s ≡ suc j → fragment_count s ≤ k → get_elem? (first_moofs (fragments s)) j ≡ some p)

-- how a track differs from track 0, by the number and the place of its refusal
pub data Difference (s₀ s : List ℕ) (n p : ℕ) : Type 0 where
  of25 : n ≡ 25 → (handler s ≡ handler s₀ → ⊥) → p ≡ hdlr_at s → Difference s₀ s n p
  of26 : n ≡ 26 → (timescale s ≡ timescale s₀ → ⊥) → p ≡ mdhd_at s → Difference s₀ s n p
  of27 : n ≡ 27 → (fragment_count s ≡ fragment_count s₀ → ⊥) → p ≡ length s → Difference s₀ s n p
  of28 : n ≡ 28 → fragment_count s ≡ fragment_count s₀ → (boundaries s ≡ boundaries s₀ → ⊥) → StandsAt28 s₀ s p → Difference s₀ s n p

-- rule 28 gives no other number, and holds of a list beside itself
only_28 : (last : ℕ) (xs ys ps : List ℕ) (n t p : ℕ) → Refuses (rule28_from last xs ys ps) n t p → n ≡ 28
unfolding rule28_from must ◌then◌
only_28 last [] ys ps n t p h = absurd h
only_28 last (x ∷ xs) ys ps n t p h = go (eqb (first_or 0 ys) x) h (only_28 (first_or last ps) xs (drop 1 ys) (drop 1 ps) n t p)
  where
    go : (b : Bool) → Refuses (must b 28 (first_or last ps) then rule28_from (first_or last ps) xs (drop 1 ys) (drop 1 ps)) n t p
        → (Refuses (rule28_from (first_or last ps) xs (drop 1 ys) (drop 1 ps)) n t p → n ≡ 28) → n ≡ 28
    go true y f = f y
    go false y f = sym y.0

itself : (last : ℕ) (xs ps : List ℕ) → rule28_from last xs xs ps ≡ Ok tt
unfolding rule28_from
itself last [] ps = refl
itself last (x ∷ xs) ps =
    then_holds (rule28_from (first_or last ps) xs xs (drop 1 ps)) (must_true 28 (first_or last ps) (eq-eqb x x refl))
    ∙ itself (first_or last ps) xs (drop 1 ps)

-- where rule 28 stands at the k-th boundary from here on: at the k-th place, at the last where there is none
place_at : ℕ → List ℕ → ℕ → ℕ
place_at last ps zero = first_or last ps
place_at last ps (suc k) = place_at (first_or last ps) (drop 1 ps) k

at_its_own : (last : ℕ) (ps : List ℕ) (k : ℕ) → k < length ps → get_elem? ps k ≡ some (place_at last ps k)
unfolding place_at
at_its_own last [] k l = absurd (not-suc-le-zero l)
at_its_own last (q ∷ qs) zero l = refl
at_its_own last (q ∷ qs) (suc k) l = at_its_own q qs k (le_of_suc-le-suc l)

none_left : (last k : ℕ) → place_at last [] k ≡ last
unfolding place_at
none_left last zero = refl
none_left last (suc k) = none_left last k

at_the_last : (last q : ℕ) (qs : List ℕ) (k : ℕ) → length qs < k → get_elem? (q ∷ qs) (length qs) ≡ some (place_at last (q ∷ qs) k)
unfolding place_at
at_the_last last q qs zero l = absurd (not-suc-le-zero l)
at_the_last last q [] (suc k) l = ap {B = Option ℕ} some (sym (none_left q k))
at_the_last last q (r ∷ rs) (suc k) l = at_the_last q r rs k (le_of_suc-le-suc l)

-- a refusal under 28 stands at the first boundary that differs
stands : (last : ℕ) (xs ys ps : List ℕ) (n t p : ℕ) → length ys ≡ length xs → Refuses (rule28_from last xs ys ps) n t p
    → (k : ℕ) × FirstDiffers ys xs k × (place_at last ps k ≡ p)
unfolding rule28_from must ◌then◌ place_at
stands last [] ys ps n t p l h = absurd h
stands last (x ∷ xs) [] ps n t p l h = let z : ⊥ = omega (arith, l) in absurd z
stands last (x ∷ xs) (y ∷ ys) ps n t p l h = go (eqb y x) refl h (stands (first_or last ps) xs ys (drop 1 ps) n t p (omega (arith, l)))
  where
    rest : Rule
    rest = rule28_from (first_or last ps) xs ys (drop 1 ps)

    before : (k : ℕ) → y ≡ x → ((i : ℕ) → i < k → get_or ys i 0 ≡ get_or xs i 0) → (i : ℕ) → i < suc k → get_or (y ∷ ys) i 0 ≡ get_or (x ∷ xs) i 0
    before k e f zero u = e
    before k e f (suc i) u = f i (le_of_suc-le-suc u)

    go : (b : Bool) → eqb y x ≡ b → Refuses (must b 28 (first_or last ps) then rest) n t p
        → (Refuses rest n t p → (k : ℕ) × FirstDiffers ys xs k × (place_at (first_or last ps) (drop 1 ps) k ≡ p))
        → (k : ℕ) × FirstDiffers (y ∷ ys) (x ∷ xs) k × (place_at last ps k ≡ p)
    go true e r f =
        let w = f r in (suc w.0, (omega (arith, w.1.0), before w.0 (eqb-true y x e) w.1.1, w.1.2), w.2)
    go false e r f = (0, (omega arith, λ i u. absurd (not-suc-le-zero u), eqb-false y x e), r.2)

-- so of two tracks with one number of fragments
stands_28 : (s₀ s : List ℕ) (n t p : ℕ) → fragment_count s ≡ fragment_count s₀ → Refuses (rule28 s₀ s) n t p → StandsAt28 s₀ s p
unfolding rule28 fragment_count
stands_28 s₀ s n t p c h =
    let w = stands 0 (boundaries s₀) (boundaries s) (first_moofs (fragments s)) n t p (as_many s s₀ c) h in
    let m = length-map (fragments s) (λ f. f.first) in (
      w.0,
      w.1,
      λ l. own w.0 (first_moofs (fragments s)) w.2 (omega (arith, l, m)),
      λ j e l. final w.0 (first_moofs (fragments s)) j w.2 (m ∙ e) (omega (arith, e, l)),
    )
  where
    own : (k : ℕ) (ps : List ℕ) → place_at 0 ps k ≡ p → k < length ps → get_elem? ps k ≡ some p
    own k ps e l = at_its_own 0 ps k l ∙ ap {B = Option ℕ} some e

    final : (k : ℕ) (ps : List ℕ) (j : ℕ) → place_at 0 ps k ≡ p → length ps ≡ suc j → j < k → get_elem? ps j ≡ some p
    final k [] j e l u = let z : ⊥ = omega (arith, l) in absurd z
    final k (q ∷ qs) j e l u =
        let m : length qs ≡ j = omega (arith, l) in
        ap (λ (i : ℕ). get_elem? (q ∷ qs) i) (sym m) ∙ at_the_last 0 q qs k (omega (arith, m, u)) ∙ ap {B = Option ℕ} some e

-- a track refused beside track 0 differs from it
differs : (s₀ s : List ℕ) (n t p : ℕ) → Refuses (agrees s₀ s) n t p → Difference s₀ s n p
unfolding agrees same rule28 must ◌then◌
differs s₀ s n t p h =
    go (eqb (handler s) (handler s₀)) (eqb (timescale s) (timescale s₀)) (eqb (fragment_count s) (fragment_count s₀)) refl refl refl h
  where
    other : Refuses (rule28 s₀ s) n t p → boundaries s ≡ boundaries s₀ → ⊥
    other y e =
        subst (λ (q : Rule). Refuses q n t p)
        (ap (λ (bs : List ℕ). rule28_from 0 (boundaries s₀) bs (first_moofs (fragments s))) e ∙ itself 0 (boundaries s₀) (first_moofs (fragments s))) y

    go : (a b c : Bool) → eqb (handler s) (handler s₀) ≡ a → eqb (timescale s) (timescale s₀) ≡ b
        → eqb (fragment_count s) (fragment_count s₀) ≡ c
        → Refuses (must a 25 (hdlr_at s) then must b 26 (mdhd_at s) then must c 27 (length s) then rule28 s₀ s) n t p → Difference s₀ s n p
    go false b c e f g y = of25 (sym y.0) (eqb-false (handler s) (handler s₀) e) (sym y.2)
    go true false c e f g y = of26 (sym y.0) (eqb-false (timescale s) (timescale s₀) f) (sym y.2)
    go true true false e f g y = of27 (sym y.0) (eqb-false (fragment_count s) (fragment_count s₀) g) (sym y.2)
    go true true true e f g y =
        let c = eqb-true (fragment_count s) (fragment_count s₀) g in
        of28 (only_28 0 (boundaries s₀) (boundaries s) (first_moofs (fragments s)) n t p y) c (other y) (stands_28 s₀ s n t p c y)

-- the track that a refusal names is the first one that differs
named : (s₀ : List ℕ) (j : ℕ) (ss : List (List ℕ)) (n k p : ℕ) → Refuses (agree s₀ j ss) n k p
    → (i : ℕ) × (s : List ℕ) × (k ≡ j + i) × (get_elem? ss i ≡ some s) × Difference s₀ s n p
unfolding agree of_track ◌then◌
named s₀ j [] n k p h = absurd h
named s₀ j (s ∷ ss) n k p h = go (agrees s₀ s) refl h (named s₀ (j + 1) ss n k p)
  where
    go : (r : Rule) → agrees s₀ s ≡ r → Refuses (of_track j r then agree s₀ (j + 1) ss) n k p
        → (Refuses (agree s₀ (j + 1) ss) n k p
        → (i : ℕ) × (s : List ℕ) × (k ≡ j + 1 + i) × (get_elem? ss i ≡ some s) × Difference s₀ s n p)
        → (i : ℕ) × (s' : List ℕ) × (k ≡ j + i) × (get_elem? (s ∷ ss) i ≡ some s') × Difference s₀ s' n p
    go (Ok u) e y f = let q = f y in (suc q.0, q.1, omega (arith, q.2), q.3, q.4)
    go (Err q) e y f =
        (0, s, omega (arith, y.1), refl, differs s₀ s n q.track p (rw e (y.0, refl, y.2)))

-- tracks accepted one by one have no broken ruling
pub all_hold : (k : ℕ) (ss : List (List ℕ)) → Singly ss → rulings k ss ≡ Ok tt
unfolding rulings of_track
all_hold k [] h = refl
all_hold k (s ∷ ss) h =
    then_holds (rulings (k + 1) ss) (ap (of_track k) h.0) ∙ all_hold (k + 1) ss h.1

-- a set of tracks accepted one by one that is refused: track 0, and the track that the refusal names
pub told_apart : (ss : List (List ℕ)) (n k p : ℕ) → Singly ss → set_ruling ss ≡ breaks n k p
    → (s : List ℕ) × (get_elem? ss 0 ≡ some (track0 ss)) × (get_elem? ss k ≡ some s) × Difference (track0 ss) s n p
unfolding set_ruling agree
told_apart [] n k p a h =
    absurd (is_refusal (Ok tt) n k p (sym (then_holds (Ok tt) (all_hold 0 [] tt)) ∙ h))
told_apart (s₀ ∷ ss) n k p a h =
    let q = named s₀ 1 ss n k p
    (is_refusal (agree s₀ 1 ss) n k p (sym (then_holds (agree s₀ 1 ss) (all_hold 0 (s₀ ∷ ss) a)) ∙ h)) in
    let e : k ≡ suc q.0 = omega (arith, q.2) in
    (q.1, refl, ap (λ (i : ℕ). get_elem? (s₀ ∷ ss) i) e ∙ q.3, q.4)

-- the track of a number in a set
abbrev pub track_at : List (List ℕ) → ℕ → List ℕ
track_at ss k = get_or ss k []

-- the plan that stays on track i, as long as the longer of track 0 and track k
unfoldable pub stays : List (List ℕ) → ℕ → ℕ → List ℕ
stays ss k i = replicate (max (fragment_count (track0 ss)) (fragment_count (track_at ss k))) i

-- a track of a set is no longer than its longest
no_longer : (ss : List (List ℕ)) (i : ℕ) (s : List ℕ) → get_elem? ss i ≡ some s → fragment_count s ≤ longest ss
unfolding longest
no_longer [] i s e = absurd (none-ne-some s e)
no_longer (t ∷ ss) zero s e = let h : fragment_count t ≡ fragment_count s = ap fragment_count (some-injective t s e) in omega (arith, h)
no_longer (t ∷ ss) (suc i) s e = let h = no_longer ss i s e in omega (arith, h)

-- the track of a number that has one
track_at_lem : (ss : List (List ℕ)) (i : ℕ) (s : List ℕ) → get_elem? ss i ≡ some s → track_at ss i ≡ s
track_at_lem [] i s e = absurd (none-ne-some s e)
track_at_lem (t ∷ ss) zero s e = some-injective t s e
track_at_lem (t ∷ ss) (suc i) s e = track_at_lem ss i s e

-- what holds of a choice holds of every choice of the plan that stays on it
stays_on : (P : ℕ → Type 0) (ss : List (List ℕ)) (k i : ℕ) → P i → All P (stays ss k i)
unfolding stays
stays_on P ss k i h = all_stay P (max (fragment_count (track0 ss)) (fragment_count (track_at ss k))) i h

-- as long a plan as a track has fragments runs through
through : (ss : List (List ℕ)) → Singly ss → (i : ℕ) (s : List ℕ) (n : ℕ) → get_elem? ss i ≡ some s → 1 ≤ n
    → n ≡ fragment_count s → play ss (replicate n i) ≡ passed (boundaries s)
through ss a i s n e l q = rw q (plays_alone ss i s e (all_at (λ t. ruling t ≡ Ok tt) ss i s a e) (omega (arith, l, q)))

module _ (ss : List (List ℕ)) (n k p : ℕ) (a : Singly ss) (h : set_ruling ss ≡ breaks n k p) where
  -- the track that the refusal names, and how it differs from track 0
  s : List ℕ
  s = (told_apart ss n k p a h).0

  at_0 : get_elem? ss 0 ≡ some (track0 ss)
  at_0 = (told_apart ss n k p a h).1

  at_k : get_elem? ss k ≡ some s
  unfolding s
  at_k = (told_apart ss n k p a h).2

  difference : Difference (track0 ss) s n p
  unfolding s
  difference = (told_apart ss n k p a h).3

  as_at_k : fragment_count (track_at ss k) ≡ fragment_count s
  as_at_k = ap fragment_count (track_at_lem ss k s at_k)

  -- the refusal names a track of the set
  pub names_a_track : k < length ss
  names_a_track = is_below ss k s at_k

  -- how long the plans are: at least one step, at most the longest track's number of fragments
  long : ℕ
  long = max (fragment_count (track0 ss)) (fragment_count (track_at ss k))

  a_step : 1 ≤ long
  unfolding long
  a_step =
      let f = a_fragment (track0 ss) (all_at (λ t. ruling t ≡ Ok tt) ss 0 (track0 ss) a at_0) in
      omega (arith, f)

  no_longer_than : long ≤ longest ss
  unfolding long
  no_longer_than = omega (arith, no_longer ss 0 (track0 ss) at_0, no_longer ss k s at_k, as_at_k)

  stays_long : (i : ℕ) → length (stays ss k i) ≡ long
  unfolding stays long
  stays_long i = length-replicate (max (fragment_count (track0 ss)) (fragment_count (track_at ss k))) i

  -- the two plans compare
  pub stays_compare : Comparable ss (stays ss k 0) (stays ss k k)
  stays_compare =
      let first = is_below ss 0 (track0 ss) at_0 in (
        (omega (arith, a_step, stays_long 0), stays_on _ ss k 0 (omega (arith, first))),
        (omega (arith, a_step, stays_long k), stays_on _ ss k k (omega (arith, names_a_track))),
        stays_long 0 ∙ sym (stays_long k),
        omega (arith, no_longer_than, stays_long 0),
      )

  -- tracks of other lengths: the plans on the longer run through, and on the shorter get stuck
  by_length : (fragment_count s ≡ fragment_count (track0 ss) → ⊥) → OneStuck (play ss (stays ss k 0)) (play ss (stays ss k k))
  unfolding stays long
  by_length d = go (dec_lt (fragment_count (track0 ss)) (fragment_count s))
    where
      go : Dec (fragment_count (track0 ss) < fragment_count s) → OneStuck (play ss (replicate long 0)) (play ss (replicate long k))
      go (yes l) =
          inr (
            boundaries s,
            too_long ss 0 (track0 ss) long at_0 (omega (arith, l, as_at_k)),
            through ss a k s long at_k (omega (arith, l, as_at_k)) (omega (arith, l, as_at_k)),
          )
      go (no l) =
          inl (
            boundaries (track0 ss),
            through ss a 0 (track0 ss) long at_0 (omega (arith, l, as_at_k, d)) (omega (arith, l, as_at_k, d)),
            too_long ss k s long at_k (omega (arith, l, as_at_k, d)),
          )

  -- tracks of one length and other boundaries: both plans run
  by_boundary : fragment_count s ≡ fragment_count (track0 ss) → (boundaries s ≡ boundaries (track0 ss) → ⊥)
      → TicksDiffer (play ss (stays ss k 0)) (play ss (stays ss k k))
  unfolding stays long
  by_boundary c d = (
    boundaries (track0 ss),
    boundaries s,
    through ss a 0 (track0 ss) long at_0 a_step (omega (arith, as_at_k, c)),
    through ss a k s long at_k a_step (omega (arith, as_at_k, c)),
    λ q. d (sym q),
  )

-- under 27: the refusal names a track of the set, the two plans compare, one of them runs through and the other gets stuck
pub second_half_27 : (ss : List (List ℕ)) (k p : ℕ) → Singly ss → set_ruling ss ≡ breaks 27 k p
    → (k < length ss) × Comparable ss (stays ss k 0) (stays ss k k) × OneStuck (play ss (stays ss k 0)) (play ss (stays ss k k))
second_half_27 ss k p a h = (names_a_track ss 27 k p a h, stays_compare ss 27 k p a h, go (difference ss 27 k p a h))
  where
    go : Difference (track0 ss) (s ss 27 k p a h) 27 p → OneStuck (play ss (stays ss k 0)) (play ss (stays ss k k))
    go (of25 n d w) = let z : ⊥ = omega (arith, n) in absurd z
    go (of26 n d w) = let z : ⊥ = omega (arith, n) in absurd z
    go (of27 n d w) = by_length ss 27 k p a h d
    go (of28 n c d w) = let z : ⊥ = omega (arith, n) in absurd z

-- under 28: the refusal names a track of the set, the two plans compare, both run and their ticks differ
pub second_half_28 : (ss : List (List ℕ)) (k p : ℕ) → Singly ss → set_ruling ss ≡ breaks 28 k p
    → (k < length ss) × Comparable ss (stays ss k 0) (stays ss k k) × TicksDiffer (play ss (stays ss k 0)) (play ss (stays ss k k))
second_half_28 ss k p a h = (names_a_track ss 28 k p a h, stays_compare ss 28 k p a h, go (difference ss 28 k p a h))
  where
    go : Difference (track0 ss) (s ss 28 k p a h) 28 p → TicksDiffer (play ss (stays ss k 0)) (play ss (stays ss k k))
    go (of25 n d w) = let z : ⊥ = omega (arith, n) in absurd z
    go (of26 n d w) = let z : ⊥ = omega (arith, n) in absurd z
    go (of27 n d w) = let z : ⊥ = omega (arith, n) in absurd z
    go (of28 n c d w) = by_boundary ss 28 k p a h c d

-- and where 28 stands: at the first `moof` of the fragment whose boundary is the first that differs, in the track that the refusal names
pub place_28 : (ss : List (List ℕ)) (k p : ℕ) → Singly ss → set_ruling ss ≡ breaks 28 k p
    → (s : List ℕ) × (get_elem? ss k ≡ some s) × StandsAt28 (track0 ss) s p
place_28 ss k p a h = let y = told_apart ss 28 k p a h in (y.0, y.2, go y.0 y.3)
  where
    go : (s : List ℕ) → Difference (track0 ss) s 28 p → StandsAt28 (track0 ss) s p
    go s (of25 n d w) = let z : ⊥ = omega (arith, n) in absurd z
    go s (of26 n d w) = let z : ⊥ = omega (arith, n) in absurd z
    go s (of27 n d w) = let z : ⊥ = omega (arith, n) in absurd z
    go s (of28 n c d w) = w

-- the second half: tracks accepted singly and refused as a set under 27 or 28; the plans stay on track 0 and on the track that the refusal names
pub second_half : (ss : List (List ℕ)) (k p : ℕ) → Singly ss
    → (set_ruling ss ≡ breaks 27 k p) ⊎ (set_ruling ss ≡ breaks 28 k p) → ToldApart play ss (stays ss k 0) (stays ss k k)
second_half ss k p a (inl h) = let y = second_half_27 ss k p a h in (y.1, inl y.2)
second_half ss k p a (inr h) = let y = second_half_28 ss k p a h in (y.1, inr y.2)

-- tracks accepted singly, of one handler and one timescale, are refused as a set under 27 or 28 and no other number
pub only_27_or_28 : (ss : List (List ℕ)) (n k p : ℕ) → Singly ss
    → OneKind ss → set_ruling ss ≡ breaks n k p
    → (n ≡ 27) ⊎ (n ≡ 28)
only_27_or_28 ss n k p a o h = go (told_apart ss n k p a h).0 (told_apart ss n k p a h).2 (told_apart ss n k p a h).3
  where
    go : (s : List ℕ) → get_elem? ss k ≡ some s → Difference (track0 ss) s n p → (n ≡ 27) ⊎ (n ≡ 28)
    go s e (of25 q d w) = absurd (d (all_at (λ t. (handler t ≡ handler (track0 ss)) × (timescale t ≡ timescale (track0 ss))) ss k s o e).0)
    go s e (of26 q d w) = absurd (d (all_at (λ t. (handler t ≡ handler (track0 ss)) × (timescale t ≡ timescale (track0 ss))) ss k s o e).1)
    go s e (of27 q d w) = inl q
    go s e (of28 q c d w) = inr q

-- so of one handler and one timescale: any refusal of the set at all gives the two plans
pub second_half_refused : (ss : List (List ℕ)) (n k p : ℕ) → Singly ss
    → OneKind ss → set_ruling ss ≡ breaks n k p
    → ToldApart play ss (stays ss k 0) (stays ss k k)
second_half_refused ss n k p a o h = go (only_27_or_28 ss n k p a o h)
  where
    go : (n ≡ 27) ⊎ (n ≡ 28) → ToldApart play ss (stays ss k 0) (stays ss k k)
    go (inl e) = second_half ss k p a (inl (h ∙ ap (λ (m : ℕ). breaks m k p) e))
    go (inr e) = second_half ss k p a (inr (h ∙ ap (λ (m : ℕ). breaks m k p) e))
