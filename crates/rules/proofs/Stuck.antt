-- Each reason for the player to be stuck, by its name; and the converse: with none of them the step goes through.
use mathlib.Core.Path.{◌≡◌, refl, sym, ap, ◌∙◌}
use mathlib.Core.Bool.{Bool, true, false, not, ◌&&◌, false≢true}
use mathlib.Core.Option.{Option, none, some, none-ne-some}
use mathlib.Core.List.{List, [], ◌∷◌, ◌++◌, map, map-append}
use Prim.Native.Nat.{ℕ, ◌+◌, ◌≤◌}
use native.Mathlib.Omega.{arith}
use lib.ListN.{length, get_elem?}
use borrow.Author.Tests.{eq-eqb, eqb-true, ne_eqb}
use Rattle.numbers.specs.Numbers.{has}
use Rattle.rules.specs.Boxes.{whole}
use Rattle.rules.specs.Chunk.{runs_in, defaults_in, first_flags, sync_in, duration_in, end_of}
use Rattle.rules.specs.Track.{header_of, Fragment, fragments, fragment_count, timescale, start_at, end_at, sync_at}
use Rattle.rules.specs.Player.{Piece, Stretch, Stream, State, fed_at, piece_at, stretch_at, rules_before_timing, good, stream_of, fits, begin, in_turn, clock_after}
use Rattle.rules.specs.Player.{ends_at, goes, after, take?, step_on, stuck, tick, play_from, first_start, play_streams, play}
use Rattle.rules.specs.Rules.{Rule, breaks}
use Rattle.std.specs.Prelude.{Ok, Err}
use Rattle.std.proofs.Math.Bool.{and-false}
use Rattle.std.proofs.lemmas.Bool.{not-true, and_parts, and_from}
use Rattle.rules.proofs.Laws.{all_on, each_on, beyond, map_at, map_none}
use Rattle.rules.proofs.Fragments.{chunks_of, last_of, last_chunk}
use Rattle.rules.proofs.Samples.{EachOf, SomeOf, whole_sample, not_next, past_till, mdat_end, chunk_fed, samples_whole, unfed}

-- a step that goes through takes the fragment of its number
pub step_goes : (g : State) (t : Stream) (f : Stretch) → get_elem? t.stretches g.number ≡ some f → goes g t f ≡ true
    → step_on g t ≡ some f
unfolding step_on take?
step_goes g t f e h = rw (e, h)

-- a plan's first step that goes through, and the rest of the plan
pub play_step : (ts : List Stream) (g : State) (i : ℕ) (plan : List ℕ) (t : Stream) (f : Stretch) → get_elem? ts i ≡ some t
    → step_on g t ≡ some f → play_from ts g (i ∷ plan) ≡ tick (ends_at f) (play_from ts (after g t f) plan)
unfolding play_from
play_step ts g i plan t f e h = rw (e, h)

-- a plan whose first step gets stuck
pub play_stuck : (ts : List Stream) (g : State) (i : ℕ) (plan : List ℕ) (t : Stream) → get_elem? ts i ≡ some t → step_on g t ≡ none
    → play_from ts g (i ∷ plan) ≡ stuck
unfolding play_from
play_stuck ts g i plan t e h = rw (e, h)

-- what the player meets of chunks at places of a track
abbrev pub pieces_of : List ℕ → List ℕ → List Piece
pieces_of s xs = map (piece_at s (header_of s)) xs

-- chunks that never go in turn, whatever the clock: nor do they behind others
never_in_turn : (o : Option ℕ) (ps qs : List Piece) → ((c : Option ℕ) → in_turn c qs ≡ false) → in_turn o (ps ++ qs) ≡ false
unfolding in_turn
never_in_turn o [] qs h = h o
never_in_turn o (p ∷ ps) qs h = simp (never_in_turn (some p.to) ps qs h, and-false)

-- the same of a fragment of which they are the last chunks
never_through : (o : Option ℕ) (s : List ℕ) (f : Fragment) (ys zs : List ℕ) → chunks_of f ≡ ys ++ zs
    → ((c : Option ℕ) → in_turn c (pieces_of s zs) ≡ false) → in_turn o (pieces_of s (chunks_of f)) ≡ false
never_through o s f ys zs e h =
    ap (λ (xs : List ℕ). in_turn o (pieces_of s xs)) e
    ∙ ap (in_turn o) (map-append (piece_at s (header_of s)) ys zs)
    ∙ never_in_turn o (pieces_of s ys) (pieces_of s zs) h

-- the state's fragment of a track is f
abbrev pub Meets : State → List ℕ → Fragment → Type 0
Meets g s f = get_elem? (fragments s) g.number ≡ some f

-- a step is stuck where the fragment that it would take is no good
refuses : (g : State) (s : List ℕ) → ((f : Fragment) → Meets g s f → goes g (stream_of s) (stretch_at s (header_of s) f) ≡ false)
    → step_on g (stream_of s) ≡ none
unfolding step_on stream_of take?
refuses g s h = go (get_elem? (fragments s) g.number) refl
  where
    go : (o : Option Fragment) → get_elem? (fragments s) g.number ≡ o → step_on g (stream_of s) ≡ none
    go none e = rw (map_none (stretch_at s (header_of s)) (fragments s) g.number e)
    go (some f) e = rw (map_at (stretch_at s (header_of s)) (fragments s) g.number f e, h f e)

-- the same for one fragment that is known
refuses_at : (g : State) (s : List ℕ) (f : Fragment) → Meets g s f → goes g (stream_of s) (stretch_at s (header_of s) f) ≡ false
    → step_on g (stream_of s) ≡ none
unfolding step_on stream_of take?
refuses_at g s f e h = rw (map_at (stretch_at s (header_of s)) (fragments s) g.number f e, h)

-- a set number that differs
unfit : (o : Option ℕ) (m n : ℕ) → o ≡ some m → (m ≡ n → ⊥) → fits o n ≡ false
unfolding fits
unfit o m n e h = rw e (ne_eqb m n h)

-- a missing fragment: where the track has no fragment of the state's number the step is stuck
pub stuck_missing_fragment : (g : State) (s : List ℕ) → fragment_count s ≤ g.number → step_on g (stream_of s) ≡ none
unfolding fragment_count
stuck_missing_fragment g s h =
    refuses g s (λ f e. absurd (none-ne-some f (sym (beyond (fragments s) g.number h) ∙ e)))

-- a track that breaks one of the rules before timing: the step is stuck
pub stuck_broken_rule : (g : State) (s : List ℕ) (n t p : ℕ) → rules_before_timing s ≡ breaks n t p → step_on g (stream_of s) ≡ none
unfolding goes stream_of
stuck_broken_rule g s n t p h = refuses g s (λ f _. rw h)

-- another timescale: where a set timescale differs from the track's the step is stuck
pub stuck_other_timescale : (g : State) (s : List ℕ) (m : ℕ) → g.scale ≡ some m → (m ≡ timescale s → ⊥) → step_on g (stream_of s) ≡ none
unfolding goes stream_of
stuck_other_timescale g s m e h = refuses g s (λ f _. simp (unfit g.scale m (timescale s) e h, and-false))

-- the bit 0x10000, non-sync, in the flags of the first sample of the chunk at x: that of its first run that has a sample
abbrev pub non_sync : List ℕ → ℕ → Bool
non_sync s x = has (first_flags (whole s x) (defaults_in (whole s x) (header_of s).defaults) (runs_in (whole s x))) 0x10000

-- whether a chunk is sync is that bit
pub sync_is : (s : List ℕ) (x : ℕ) → sync_at s (header_of s) x ≡ not (non_sync s x)
unfolding sync_at sync_in
sync_is s x = refl

-- a fragment whose first sample is non-sync: the step is stuck
pub stuck_non_sync : (g : State) (s : List ℕ) (f : Fragment) → Meets g s f → non_sync s f.first ≡ true → step_on g (stream_of s) ≡ none
unfolding goes stream_of stretch_at
stuck_non_sync g s f e h = refuses_at g s f e (simp (sync_is s f.first ∙ ap not h, and-false))

-- chunks that don't go in turn
stuck_in_turn : (g : State) (s : List ℕ) (f : Fragment) → Meets g s f → in_turn g.clock (pieces_of s (chunks_of f)) ≡ false
    → step_on g (stream_of s) ≡ none
unfolding goes stream_of stretch_at
stuck_in_turn g s f e h = refuses_at g s f e (simp (h, and-false))

-- the clock: where the set clock differs from the first chunk's `tfdt` the step is stuck
pub stuck_clock : (g : State) (s : List ℕ) (f : Fragment) (c : ℕ) → Meets g s f → g.clock ≡ some c → (c ≡ start_at s f.first → ⊥)
    → step_on g (stream_of s) ≡ none
unfolding in_turn piece_at
stuck_clock g s f c e k h = stuck_in_turn g s f e (rw (unfit g.clock c (start_at s f.first) k h))

-- the clock inside the step: where a chunk's end differs from the `tfdt` of the chunk behind it the step is stuck
pub stuck_clock_inside : (g : State) (s : List ℕ) (f : Fragment) (y z : ℕ) (ys zs : List ℕ) → Meets g s f → chunks_of f ≡ ys ++ (y ∷ z ∷ zs)
    → (end_at s (header_of s) y ≡ start_at s z → ⊥) → step_on g (stream_of s) ≡ none
unfolding in_turn piece_at fits
stuck_clock_inside g s f y z ys zs e k h =
    stuck_in_turn g s f e
    (never_through g.clock s f ys (y ∷ z ∷ zs) k (λ c. simp (ne_eqb (end_at s (header_of s) y) (start_at s z) h, and-false)))

-- a chunk that doesn't feed the player
stuck_unfed : (g : State) (s : List ℕ) (f : Fragment) (x : ℕ) (ys zs : List ℕ) → Meets g s f → chunks_of f ≡ ys ++ (x ∷ zs)
    → fed_at s (header_of s) x ≡ false → step_on g (stream_of s) ≡ none
unfolding in_turn piece_at
stuck_unfed g s f x ys zs e k h = stuck_in_turn g s f e (never_through g.clock s f ys (x ∷ zs) k (λ c. simp (h, and-false)))

-- a sample of any of the chunks that isn't the next bytes: the step is stuck
pub stuck_sample_not_next : (g : State) (s : List ℕ) (f : Fragment) (x : ℕ) (ys zs : List ℕ) → Meets g s f → chunks_of f ≡ ys ++ (x ∷ zs)
    → SomeOf not_next s x → step_on g (stream_of s) ≡ none
stuck_sample_not_next g s f x ys zs e k h = stuck_unfed g s f x ys zs e k (unfed not_next s x (λ place next size w n. n w.0) h)

-- a sample of any of the chunks that ends past the data box of its own chunk: the step is stuck
pub stuck_sample_past : (g : State) (s : List ℕ) (f : Fragment) (x : ℕ) (ys zs : List ℕ) → Meets g s f → chunks_of f ≡ ys ++ (x ∷ zs)
    → SomeOf (past_till (mdat_end s x)) s x → step_on g (stream_of s) ≡ none
stuck_sample_past g s f x ys zs e k h =
    stuck_unfed g s f x ys zs e k (unfed (past_till (mdat_end s x)) s x (λ place next size w n. let z : ⊥ = omega (arith, w.1, n) in z) h)

-- a choice that names no track: the plan is stuck there
pub stuck_unnamed : (ss : List (List ℕ)) (g : State) (i : ℕ) (plan : List ℕ) → length ss ≤ i → play_from (map stream_of ss) g (i ∷ plan) ≡ stuck
unfolding play_from
stuck_unnamed ss g i plan h = rw (map_none stream_of ss i (beyond ss i h))

-- a number that is unset, or the one given
abbrev pub UnsetOr : Option ℕ → ℕ → Type 0
UnsetOr none n = Unit {0}
UnsetOr (some m) n = m ≡ n

unset_fits : (o : Option ℕ) (n : ℕ) → UnsetOr o n → fits o n ≡ true
unfolding fits
unset_fits none n h = refl
unset_fits (some m) n h = eq-eqb m n h

fits_unset : (o : Option ℕ) (n : ℕ) → fits o n ≡ true → UnsetOr o n
unfolding fits
fits_unset none n h = tt
fits_unset (some m) n h = eqb-true m n h

-- the chunks at places of a track in turn from a clock on: none differs from the `tfdt`, each sample is whole in its own chunk's data box, and for the
-- next chunk the clock is this one's end
abbrev pub InTurn : Option ℕ → List ℕ → List ℕ → Type 0
InTurn clock s [] = Unit {0}
InTurn clock s (x ∷ xs) =
    UnsetOr clock (start_at s x) × EachOf (whole_sample (mdat_end s x)) s x × InTurn (some (end_at s (header_of s) x)) s xs

-- the player's test of chunks holds exactly where they are in turn
pub turn_goes : (o : Option ℕ) (s xs : List ℕ) → InTurn o s xs → in_turn o (pieces_of s xs) ≡ true
unfolding in_turn piece_at
turn_goes o s [] r = refl
turn_goes o s (x ∷ xs) r =
    let timed = fits o (start_at s x) in
    let filled = fed_at s (header_of s) x in
    let on = in_turn (some (end_at s (header_of s) x)) (pieces_of s xs) in
    and_from (timed && filled) on (and_from timed filled (unset_fits o (start_at s x) r.0) (chunk_fed s x r.1))
    (turn_goes (some (end_at s (header_of s) x)) s xs r.2)

pub went_in_turn : (o : Option ℕ) (s xs : List ℕ) → in_turn o (pieces_of s xs) ≡ true → InTurn o s xs
unfolding in_turn piece_at
went_in_turn o s [] h = tt
went_in_turn o s (x ∷ xs) h =
    let timed = fits o (start_at s x) in
    let filled = fed_at s (header_of s) x in
    let on = in_turn (some (end_at s (header_of s) x)) (pieces_of s xs) in
    let here = (and_parts (timed && filled) on h).0 in (
      fits_unset o (start_at s x) (and_parts timed filled here).0,
      samples_whole s x (and_parts timed filled here).1,
      went_in_turn (some (end_at s (header_of s) x)) s xs (and_parts (timed && filled) on h).1,
    )

-- what a step asks of a fragment of a track: all that the reasons above deny
abbrev pub StepReady : State → List ℕ → Fragment → Type 0
StepReady g s f =
    Meets g s f
    × (rules_before_timing s ≡ Ok tt)
    × UnsetOr g.scale (timescale s)
    × (non_sync s f.first ≡ false)
    × InTurn g.clock s (chunks_of f)

-- a step's four tests on a fragment of a track
module _ (g : State) (s : List ℕ) (f : Fragment) where
  abbrev keeps : Bool
  keeps = good (rules_before_timing s)

  abbrev scaled : Bool
  scaled = fits g.scale (timescale s)

  abbrev synced : Bool
  synced = sync_at s (header_of s) f.first

  abbrev turned : Bool
  turned = in_turn g.clock (pieces_of s (chunks_of f))

-- none of them: the step goes through and takes the fragment
pub goes_through : (g : State) (s : List ℕ) (f : Fragment) → StepReady g s f → step_on g (stream_of s) ≡ some (stretch_at s (header_of s) f)
unfolding goes stream_of stretch_at
goes_through g s f r =
    step_goes g (stream_of s) (stretch_at s (header_of s) f) (map_at (stretch_at s (header_of s)) (fragments s) g.number f r.0)
    (all_on (keeps g s f) (scaled g s f) (synced g s f) (turned g s f) (ap good r.1)
    (unset_fits g.scale (timescale s) r.2) (sync_is s f.first ∙ ap not r.3) (turn_goes g.clock s (chunks_of f) r.4))

-- the end of a chunk: its `tfdt` plus its durations
pub end_is : (s : List ℕ) (x : ℕ) → end_at s (header_of s) x ≡ start_at s x + duration_in (whole s x) (header_of s).defaults
unfolding end_at start_at end_of
end_is s x = refl

-- the clock after a fragment is its last chunk's end
pub ends_at_last : (s : List ℕ) (f : Fragment) → ends_at (stretch_at s (header_of s) f) ≡ end_at s (header_of s) (last_chunk f)
unfolding stretch_at piece_at clock_after
ends_at_last s f = go f.first f.others
  where
    go : (x : ℕ) (xs : List ℕ) → clock_after (end_at s (header_of s) x) (pieces_of s xs) ≡ end_at s (header_of s) (last_of x xs)
    go x [] = refl
    go x (y ∷ ys) = go y ys

-- the state behind a fragment of a track whose last chunk is the one at z: the number one higher, the clock that chunk's `tfdt` plus its durations, the
-- timescale the track's
abbrev pub behind : State → List ℕ → ℕ → State
behind g s z =
    record {
      number = g.number + 1;
      clock = some (start_at s z + duration_in (whole s z) (header_of s).defaults);
      scale = some (timescale s);
    }

-- the state after a step is that one
pub state_after : (g : State) (s : List ℕ) (f : Fragment) → after g (stream_of s) (stretch_at s (header_of s) f) ≡ behind g s (last_chunk f)
unfolding after stream_of
state_after g s f = rw (ends_at_last s f ∙ end_is s (last_chunk f))

-- a plan whose first step goes through passes that clock, and goes on from that state
pub plan_goes_on : (ss : List (List ℕ)) (g : State) (i : ℕ) (plan : List ℕ) (s : List ℕ) (f : Fragment) → get_elem? ss i ≡ some s
    → StepReady g s f
    → play_from (map stream_of ss) g (i ∷ plan)
    ≡ tick (start_at s (last_chunk f) + duration_in (whole s (last_chunk f)) (header_of s).defaults)
    (play_from (map stream_of ss) (behind g s (last_chunk f)) plan)
plan_goes_on ss g i plan s f e r =
    play_step (map stream_of ss) g i plan (stream_of s) (stretch_at s (header_of s) f) (map_at stream_of ss i s e) (goes_through g s f r)
    ∙ rw (ends_at_last s f ∙ end_is s (last_chunk f), state_after g s f)

-- a plan whose first step is stuck is stuck
pub plan_stuck : (ss : List (List ℕ)) (g : State) (i : ℕ) (plan : List ℕ) (s : List ℕ) → get_elem? ss i ≡ some s → step_on g (stream_of s) ≡ none
    → play_from (map stream_of ss) g (i ∷ plan) ≡ stuck
plan_stuck ss g i plan s e h = play_stuck (map stream_of ss) g i plan (stream_of s) (map_at stream_of ss i s e) h

-- and so is one that is stuck after its first step
pub plan_stuck_later : (ss : List (List ℕ)) (g : State) (i : ℕ) (plan : List ℕ) (s : List ℕ) (f : Stretch) → get_elem? ss i ≡ some s
    → step_on g (stream_of s) ≡ some f → play_from (map stream_of ss) (after g (stream_of s) f) plan ≡ stuck
    → play_from (map stream_of ss) g (i ∷ plan) ≡ stuck
plan_stuck_later ss g i plan s f e h r =
    play_step (map stream_of ss) g i plan (stream_of s) f (map_at stream_of ss i s e) h ∙ ap (tick (ends_at f)) r

-- the whole play is stuck where its steps from the beginning are
pub play_is_stuck : (ss : List (List ℕ)) (i : ℕ) (plan : List ℕ) → play_from (map stream_of ss) begin (i ∷ plan) ≡ stuck
    → play ss (i ∷ plan) ≡ stuck
unfolding play play_streams
play_is_stuck ss i plan h = ap (tick (first_start (map stream_of ss) (i ∷ plan))) h

-- exactly: a step that goes through met all that is asked
pub went_through : (g : State) (s : List ℕ) (p : Stretch) → step_on g (stream_of s) ≡ some p → (f : Fragment) × StepReady g s f
unfolding goes stream_of stretch_at
went_through g s p h = go (get_elem? (fragments s) g.number) refl
  where
    kept : (r : Rule) → good r ≡ true → r ≡ Ok tt
    kept (Ok u) q = refl
    kept (Err e) q = absurd (false≢true q)

    by : (f : Fragment) → Meets g s f → (t : Bool) → goes g (stream_of s) (stretch_at s (header_of s) f) ≡ t → t ≡ true
    by f e true q = refl
    by f e false q = absurd (none-ne-some p (sym (refuses_at g s f e q) ∙ h))

    go : (o : Option Fragment) → get_elem? (fragments s) g.number ≡ o → (f : Fragment) × StepReady g s f
    go none e = absurd (none-ne-some p (sym (refuses g s (λ f q. absurd (none-ne-some f (sym e ∙ q)))) ∙ h))
    go (some f) e =
        let q =
        each_on (keeps g s f) (scaled g s f) (synced g s f) (turned g s f)
        (by f e (goes g (stream_of s) (stretch_at s (header_of s) f)) refl) in (
          f,
          (
            e,
            kept (rules_before_timing s) q.0,
            fits_unset g.scale (timescale s) q.1,
            not-true (non_sync s f.first) (sym (sync_is s f.first) ∙ q.2),
            went_in_turn g.clock s (chunks_of f) q.3,
          ),
        )
