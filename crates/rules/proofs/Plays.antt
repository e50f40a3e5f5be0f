-- The player's law: any plan whose named tracks fit one list of boundaries runs, and passes that list. And what it depends on.
use mathlib.Core.Path.{◌≡◌, refl, sym, ap, ap₂, subst, ◌∙◌}
use mathlib.Core.Bool.{true}
use mathlib.Core.Option.{Option, none, some}
use mathlib.Core.List.{List, [], ◌∷◌, map}
use Prim.Native.Nat.{ℕ, zero, suc, ◌+◌, ◌≤◌, ◌<◌}
use native.Mathlib.Nat.{not-suc-le-zero}
use native.Mathlib.Numerals.{add-one}
use native.Mathlib.Omega.{arith}
use lib.ListN.{length, take, drop, get_elem?, replicate, length-replicate, length-map}
use lib.Seq.{length-take-le, take-length}
use borrow.Author.Tests.{eq-eqb}
use Rattle.rules.specs.Track.{ruling, header_of, Fragment, fragments, fragment_count, timescale, start_at, boundaries}
use Rattle.rules.specs.Player.{Stretch, Stream, State, piece_at, stretch_at, rules_before_timing, good, stream_of, fits, begin, in_turn, ends_at, goes, after, on_option, step_on, Played, stuck, passed, tick, play_from, first_start, play_streams, play}
use Rattle.rules.specs.Plans.{All}
use Rattle.std.specs.Prelude.{Ok}
use Rattle.rules.proofs.Laws.{all_map, beyond, drop_first, drop_rest, map_at, map_none}
use Rattle.rules.proofs.Boundaries.{Spans, TilesFrom, Tiled, tiles_fewer, tiled, boundaries_length}
use Rattle.rules.proofs.Stuck.{step_goes, play_step, play_stuck, plan_stuck, play_is_stuck, went_through}
use Rattle.rules.proofs.Sound.{accepted_sound}

-- a track that fits: the rules before timing hold, this timescale, and from the k-th on fragments from a start over these ends
abbrev pub StreamFits : ℕ → ℕ → ℕ → List ℕ → Stream → Type 0
StreamFits scale k a bs t = (t.sound ≡ true) × (t.scale ≡ scale) × TilesFrom (drop k t.stretches) a bs

-- the k-th fragment of a track that fits, and the track after it
abbrev NextFragment : List Stretch → ℕ → ℕ → ℕ → List ℕ → Type 0
NextFragment fs k a b bs = (f : Stretch) × (get_elem? fs k ≡ some f) × Spans f a b × TilesFrom (drop (k + 1) fs) b bs

next_fragment_lem : (fs : List Stretch) (k a b : ℕ) (bs : List ℕ) → TilesFrom (drop k fs) a (b ∷ bs) → NextFragment fs k a b bs
next_fragment_lem fs k a b bs h = go (drop k fs) refl h
  where
    go : (qs : List Stretch) → drop k fs ≡ qs → TilesFrom qs a (b ∷ bs) → NextFragment fs k a b bs
    go [] e y = absurd y
    go (q ∷ qs) e y =
        (q, drop_first fs k q qs e, y.0, rw (add-one k, drop_rest fs k q qs e) y.1)

-- a choice that names a track that fits
abbrev Named : List Stream → ℕ → ℕ → ℕ → List ℕ → ℕ → Type 0
Named ts scale k a bs i = (t : Stream) × (get_elem? ts i ≡ some t) × StreamFits scale k a bs t

-- the same choice one fragment later
named_later : (ts : List Stream) (scale k a b : ℕ) (bs : List ℕ) (i : ℕ) → Named ts scale k a (b ∷ bs) i → Named ts scale (k + 1) b bs i
named_later ts scale k a b bs i n =
    (n.0, n.1, (n.2.0, n.2.1, (next_fragment_lem n.0.stretches k a b bs n.2.2).3))

-- a step on a track that fits goes through
fits_goes : (g : State) (t : Stream) (f : Stretch) (scale a b : ℕ) → t.sound ≡ true → t.scale ≡ scale → Spans f a b
    → fits g.scale scale ≡ true → fits g.clock a ≡ true → goes g t f ≡ true
unfolding goes in_turn
fits_goes g t f scale a b h₁ h₂ y h₃ h₄ = rw (h₁, h₂, y.0, y.2, y.3, y.4, h₃, h₄)

-- a set number fits itself
fits_itself : (x : ℕ) → fits (some x) x ≡ true
unfolding fits
fits_itself x = eq-eqb x x refl

-- from a state on: a plan whose named tracks fit the ends runs, and passes them
runs : (ts : List Stream) (scale : ℕ) (plan bs : List ℕ) (a : ℕ) (g : State) → length plan ≡ length bs
    → fits g.scale scale ≡ true → fits g.clock a ≡ true → All (Named ts scale g.number a bs) plan
    → play_from ts g plan ≡ passed bs
unfolding play_from after fits
runs ts scale [] [] a g l f c n = refl
runs ts scale [] (b ∷ bs) a g l f c n = let z : ⊥ = omega (arith, l) in absurd z
runs ts scale (i ∷ plan) [] a g l f c n = let z : ⊥ = omega (arith, l) in absurd z
runs ts scale (i ∷ plan) (b ∷ bs) a g l f c n =
    let t = n.0.0 in
    let y = next_fragment_lem t.stretches g.number a b bs n.0.2.2 in
    let p = y.0 in
    let w = fits_goes g t p scale a b n.0.2.0 n.0.2.1 y.2 f c in
    let r : play_from ts (after g t p) plan ≡ passed bs =
    runs ts scale plan bs b (after g t p) (omega (arith, l)) (rw n.0.2.1 (fits_itself scale)) (rw y.2.1 (fits_itself b))
    (all_map (Named ts scale g.number a (b ∷ bs)) (Named ts scale (g.number + 1) b bs) plan
    (named_later ts scale g.number a b bs) n.1) in
    play_step ts g i plan t p n.0.1 (step_goes g t p y.1 w)
    ∙ ap (tick (ends_at p)) r
    ∙ ap {B = Played} (λ (x : ℕ). passed (x ∷ bs)) y.2.1

-- the first start that a plan passes
first_start_lem : (ts : List Stream) (i : ℕ) (plan : List ℕ) (t : Stream) (f : Stretch) → get_elem? ts i ≡ some t
    → get_elem? t.stretches 0 ≡ some f → first_start ts (i ∷ plan) ≡ f.lead.from
unfolding first_start
first_start_lem ts i plan t f e h = rw (e, h)

-- a plan whose named tracks fit one list of boundaries runs, and passes that list
fitting : (ts : List Stream) (scale : ℕ) (plan bs : List ℕ) (a : ℕ) → 1 ≤ length plan → length plan ≡ length bs
    → All (Named ts scale 0 a bs) plan → play_streams ts plan ≡ passed (a ∷ bs)
unfolding play_streams begin fits
fitting ts scale [] bs a h l n = absurd (not-suc-le-zero h)
fitting ts scale (i ∷ plan) [] a h l n = let z : ⊥ = omega (arith, l) in absurd z
fitting ts scale (i ∷ plan) (b ∷ bs) a h l n =
    let t = n.0.0 in
    let y = next_fragment_lem t.stretches 0 a b bs n.0.2.2 in
    let r : play_from ts begin (i ∷ plan) ≡ passed (b ∷ bs) = runs ts scale (i ∷ plan) (b ∷ bs) a begin l refl refl n in
    ap₂ (λ (x : ℕ) (q : Played). tick x q) (first_start_lem ts i plan t y.0 n.0.1 y.1 ∙ y.2.0) r

-- a play that passes ticks isn't stuck
abbrev pub Passes : Played → Type 0
Passes stuck = ⊥
Passes (passed ts) = Unit {0}

-- ticks passed that are one play are one list
abbrev ticks_played : Played → List ℕ
ticks_played stuck = []
ticks_played (passed ts) = ts

pub passed_same : (ts us : List ℕ) → passed ts ≡ passed us → ts ≡ us
passed_same ts us e = ap ticks_played e

-- a tick put before others is the first tick passed
tick_first : (n : ℕ) (r : Played) (ts : List ℕ) → tick n r ≡ passed ts → (us : List ℕ) × (ts ≡ n ∷ us)
tick_first n stuck ts e = absurd (subst Passes (sym e) tt)
tick_first n (passed us) ts e = (us, sym (passed_same (n ∷ us) ts e))

-- an empty plan passes no tick, whatever the tracks
pub empty_plan : (ss : List (List ℕ)) → play ss [] ≡ passed []
unfolding play play_streams
empty_plan ss = refl

-- a plan passes the start of the first fragment of the track chosen first, then what its steps pass from the beginning on
pub play_begins : (ss : List (List ℕ)) (i : ℕ) (plan s : List ℕ) (f : Fragment) → get_elem? ss i ≡ some s → get_elem? (fragments s) 0 ≡ some f
    → play ss (i ∷ plan) ≡ tick (start_at s f.first) (play_from (map stream_of ss) begin (i ∷ plan))
unfolding play play_streams stream_of stretch_at piece_at
play_begins ss i plan s f e h =
    let meet = stretch_at s (header_of s) in
    ap (λ (a : ℕ). tick a (play_from (map stream_of ss) begin (i ∷ plan)))
    (first_start_lem (map stream_of ss) i plan (stream_of s) (meet f) (map_at stream_of ss i s e) (map_at meet (fragments s) 0 f h))

-- ticks that begin with the start of the first fragment of the track that a choice names
abbrev pub BeginsAt : List (List ℕ) → ℕ → List ℕ → Type 0
BeginsAt ss i ts =
    (s : List ℕ) × (f : Fragment) × (us : List ℕ) × (get_elem? ss i ≡ some s) × (get_elem? (fragments s) 0 ≡ some f) × (ts ≡ start_at s f.first ∷ us)

-- the first tick passed, in any play that runs and of any tracks, is the start of the first fragment chosen
pub first_tick : (ss : List (List ℕ)) (i : ℕ) (plan ts : List ℕ) → play ss (i ∷ plan) ≡ passed ts → BeginsAt ss i ts
unfolding play play_streams play_from begin stream_of piece_at stretch_at
first_tick ss i plan ts h = go (get_elem? ss i) refl
  where
    never : play_from (map stream_of ss) begin (i ∷ plan) ≡ stuck → BeginsAt ss i ts
    never e = absurd (subst Passes (sym h ∙ play_is_stuck ss i plan e) tt)

    step : (s : List ℕ) → get_elem? ss i ≡ some s → (o : Option Stretch) → step_on begin (stream_of s) ≡ o → BeginsAt ss i ts
    step s e none q = never (plan_stuck ss begin i plan s e q)
    step s e (some p) q =
        let w = went_through begin s p q in
        let f = w.0 in
        let y = tick_first (first_start (map stream_of ss) (i ∷ plan)) (play_from (map stream_of ss) begin (i ∷ plan)) ts h in
        let meet = stretch_at s (header_of s) in
        let first : first_start (map stream_of ss) (i ∷ plan) ≡ start_at s f.first =
        first_start_lem (map stream_of ss) i plan (stream_of s) (meet f) (map_at stream_of ss i s e) (map_at meet (fragments s) 0 f w.1.0) in
        (s, f, y.0, e, w.1.0, y.1 ∙ ap {B = List ℕ} (λ (a : ℕ). a ∷ y.0) first)

    go : (o : Option (List ℕ)) → get_elem? ss i ≡ o → BeginsAt ss i ts
    go none e = never (rw (map_none stream_of ss i e))
    go (some s) e = step s e (step_on begin (stream_of s)) refl

-- a choice of a set that names an accepted track with this timescale and these boundaries
abbrev pub Chooses : List (List ℕ) → ℕ → List ℕ → ℕ → Type 0
Chooses ss scale bs i =
    (s : List ℕ) × (get_elem? ss i ≡ some s) × (ruling s ≡ Ok tt) × (timescale s ≡ scale) × (boundaries s ≡ bs)

-- such a choice fits
chosen_fits : (ss : List (List ℕ)) (scale a : ℕ) (bs : List ℕ) (n i : ℕ) → Chooses ss scale (a ∷ bs) i
    → Named (map stream_of ss) scale 0 a (take n bs) i
unfolding stream_of
chosen_fits ss scale a bs n i c =
    let s = c.0 in
    let h : rules_before_timing s ≡ Ok tt = accepted_sound s c.2 in
    let y : Tiled (map (stretch_at s (header_of s)) (fragments s)) (a ∷ bs) = rw c.4 at (tiled s c.2) in
    (stream_of s, map_at stream_of ss i s c.1, (ap good h, c.3, tiles_fewer (map (stretch_at s (header_of s)) (fragments s)) a bs n y))

-- a plan of accepted tracks with one timescale and one list of boundaries runs, and passes the list's first numbers
pub alike_plays : (ss : List (List ℕ)) (scale : ℕ) (bs plan : List ℕ) → 1 ≤ length plan → length plan < length bs
    → All (Chooses ss scale bs) plan → play ss plan ≡ passed (take (length plan + 1) bs)
unfolding play
alike_plays ss scale [] plan h l c = absurd (not-suc-le-zero l)
alike_plays ss scale (a ∷ bs) plan h l c =
    rw (add-one (length plan))
    (fitting (map stream_of ss) scale plan (take (length plan) bs) a h (sym (length-take-le (length plan) bs (omega arith)))
    (all_map (Chooses ss scale (a ∷ bs)) (Named (map stream_of ss) scale 0 a (take (length plan) bs)) plan
    (λ i. chosen_fits ss scale a bs (length plan) i) c))

-- a property of one choice is one of a plan that stays on it
pub all_stay : (P : ℕ → Type 0) (n i : ℕ) → P i → All P (replicate n i)
all_stay P zero i h = tt
all_stay P (suc n) i h = (h, all_stay P n i h)

-- an accepted track plays through by itself, and passes its boundaries
pub plays_alone : (ss : List (List ℕ)) (i : ℕ) (s : List ℕ) → get_elem? ss i ≡ some s → ruling s ≡ Ok tt → 1 ≤ fragment_count s
    → play ss (replicate (fragment_count s) i) ≡ passed (boundaries s)
plays_alone ss i s e r h =
    let n = fragment_count s in
    let l : length (replicate n i) ≡ n = length-replicate n i in
    let b : length (boundaries s) ≡ suc n = boundaries_length s h in
    alike_plays ss (timescale s) (boundaries s) (replicate n i) (omega (arith, l)) (omega (arith, l, b))
    (all_stay (Chooses ss (timescale s) (boundaries s)) n i (s, e, r, refl, refl))
    ∙ ap {B = Played} passed
    (rw (l, add-one n, ← b) (take-length (boundaries s)))

-- a plan that stays on a track longer than it has fragments is stuck
stay_stuck : (ts : List Stream) (i : ℕ) (t : Stream) → get_elem? ts i ≡ some t → (n : ℕ) (g : State) → length t.stretches ≤ g.number + n
    → play_from ts g (replicate (suc n) i) ≡ stuck
unfolding play_from step_on after
stay_stuck ts i t e zero g h = play_stuck ts g i [] t e (rw (beyond t.stretches g.number (omega (arith, h))))
stay_stuck ts i t e (suc n) g h = go (step_on g t) refl (λ p. stay_stuck ts i t e n (after g t p) (omega (arith, h)))
  where
    go : (o : Option Stretch) → step_on g t ≡ o → ((p : Stretch) → play_from ts (after g t p) (replicate (suc n) i) ≡ stuck)
        → play_from ts g (replicate (suc (suc n)) i) ≡ stuck
    go none q r = play_stuck ts g i (replicate (suc n) i) t e q
    go (some p) q r = play_step ts g i (replicate (suc n) i) t p e q ∙ ap (tick (ends_at p)) (r p)

pub too_long : (ss : List (List ℕ)) (i : ℕ) (s : List ℕ) (n : ℕ) → get_elem? ss i ≡ some s → fragment_count s < n
    → play ss (replicate n i) ≡ stuck
unfolding play play_streams stream_of fragment_count begin
too_long ss i s zero e h = absurd (not-suc-le-zero h)
too_long ss i s (suc n) e h =
    ap (tick (first_start (map stream_of ss) (replicate (suc n) i)))
    (stay_stuck (map stream_of ss) i (stream_of s) (map_at stream_of ss i s e) n begin
    (omega (arith, h, length-map (fragments s) (stretch_at s (header_of s)))))

-- the player works on what it meets of the tracks' bytes
pub play_of_bytes : (ss : List (List ℕ)) (plan : List ℕ) → play ss plan ≡ play_streams (map stream_of ss) plan
unfolding play
play_of_bytes ss plan = refl

-- from a state on, two lists of tracks that agree at each choice of the plan play alike
agree_from : (ts us : List Stream) (plan : List ℕ) (g : State) → All (λ i. get_elem? ts i ≡ get_elem? us i) plan
    → play_from ts g plan ≡ play_from us g plan
unfolding play_from
agree_from ts us [] g a = refl
agree_from ts us (i ∷ plan) g a = go (get_elem? us i) a.0 (λ t p. agree_from ts us plan (after g t p) a.1)
  where
    rest : (t : Stream) (o : Option Stretch) → ((p : Stretch) → play_from ts (after g t p) plan ≡ play_from us (after g t p) plan)
        → on_option o stuck (λ p. tick (ends_at p) (play_from ts (after g t p) plan))
        ≡ on_option o stuck (λ p. tick (ends_at p) (play_from us (after g t p) plan))
    rest t none r = refl
    rest t (some p) r = ap (tick (ends_at p)) (r p)

    go : (o : Option Stream) → get_elem? ts i ≡ o
        → ((t : Stream) (p : Stretch) → play_from ts (after g t p) plan ≡ play_from us (after g t p) plan)
        → play_from ts g (i ∷ plan) ≡ on_option o stuck (λ t. on_option (step_on g t) stuck (λ p. tick (ends_at p) (play_from us (after g t p) plan)))
    go none q r = rw q
    go (some t) q r = rw q (rest t (step_on g t) (r t))

-- tracks made alike of lists that agree at a choice agree there
map_agrees : {A B : Type 0} (f : A → B) (xs ys : List A) (i : ℕ) → get_elem? xs i ≡ get_elem? ys i
    → get_elem? (map f xs) i ≡ get_elem? (map f ys) i
map_agrees {A} {B} f xs ys i e = go (get_elem? ys i) e refl
  where
    go : (o : Option A) → get_elem? xs i ≡ o → get_elem? ys i ≡ o → get_elem? (map f xs) i ≡ get_elem? (map f ys) i
    go none p q = map_none f xs i p ∙ sym (map_none f ys i q)
    go (some x) p q = map_at f xs i x p ∙ sym (map_at f ys i x q)

-- the player depends on the bytes of the tracks that the plan names, and on nothing else: neither a verdict, nor a table, nor any other track
pub named_bytes_alone : (ss us : List (List ℕ)) (plan : List ℕ) → All (λ i. get_elem? ss i ≡ get_elem? us i) plan → play ss plan ≡ play us plan
unfolding play play_streams first_start
named_bytes_alone ss us [] a = refl
named_bytes_alone ss us (i ∷ plan) a =
    ap₂ (λ (x : ℕ) (q : Played). tick x q)
    (ap (λ (o : Option Stream). on_option o 0 (λ t. on_option (get_elem? t.stretches 0) 0 (λ f. f.lead.from))) (map_agrees stream_of ss us i a.0))
    (agree_from (map stream_of ss) (map stream_of us) (i ∷ plan) begin
    (all_map (λ j. get_elem? ss j ≡ get_elem? us j) (λ j. get_elem? (map stream_of ss) j ≡ get_elem? (map stream_of us) j) (i ∷ plan)
    (map_agrees stream_of ss us) a))
