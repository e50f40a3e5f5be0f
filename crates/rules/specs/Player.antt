-- The player: a written rule over the tracks' bytes, and never over a verdict or a table.
use Rattle.std.specs.Prelude.{ℕ, zero, suc, ◌+◌, List, [], ◌∷◌, map, Bool, true, false, ◌&&◌, length, leb, eqb, ℤ, pos, ◌+ℤ◌, Ok, Err}
use Rattle.std.proofs.Math.Option.{Option, none, some}
use Rattle.std.proofs.Math.ListN.{get_elem?}
use Rattle.numbers.specs.Numbers.{has, signed, is_place, when}
use Rattle.rules.specs.Rules.{◌then◌, Rule}
use Rattle.rules.specs.Boxes.{head_of, size_of, whole}
use Rattle.rules.specs.Fields.{field, box_flags}
use Rattle.rules.specs.Framing.{rules_of_framing}
use Rattle.rules.specs.Order.{rule6}
use Rattle.rules.specs.Chunk.{count_of, bytes_of, sum_to, run_bytes, runs_in, defaults_in}
use Rattle.rules.specs.Track.{rule1, rules_of_header, header_of, chunks, mdat_at, shape_at, start_at, end_at, sync_at, Fragment, fragments, timescale}
use Rattle.rules.specs.declared.Defaults.{Defaults}
use Rattle.rules.specs.declared.Header.{Header}

-- what the player meets of a chunk: its `tfdt`, the clock after it, and whether each sample's bytes are the next bytes inside its `mdat`
pub record Piece : Type 0 where
  pub from : ℕ
  pub to : ℕ
  pub fed : Bool

-- what the player meets of a fragment: whether its first sample is sync, its first chunk, and those that continue it
pub record Stretch : Type 0 where
  pub sync : Bool
  pub lead : Piece
  pub rest : List Piece

-- what the player meets of a track: whether rules 1 to 18 hold, the timescale, the fragments
pub record Stream : Type 0 where
  pub sound : Bool
  pub scale : ℕ
  pub stretches : List Stretch

-- the first n samples of a run, whose bytes begin at `start`: each begins at the next byte and ends inside the `mdat`
unfoldable pub samples_fed : List ℕ → Defaults → ℕ → ℤ → ℕ → ℕ → ℕ → Bool
samples_fed m d r start next till zero = true
samples_fed m d r start next till (suc i) =
    samples_fed m d r start next till i
    && is_place (start +ℤ pos (sum_to (bytes_of m d r) i)) (next + sum_to (bytes_of m d r) i)
    && leb (next + sum_to (bytes_of m d r) (suc i)) till

-- where a run's samples begin: at the `moof` start plus its offset; without one, where the run before ended
unfoldable pub run_start : ℕ → List ℕ → ℤ → ℕ → ℤ
run_start x m before r = when (has (box_flags m r) 0x1) (pos x +ℤ signed (field m r 8)) before

-- the runs' samples, where the next byte is at `next` and the run before ended at `before`
unfoldable pub runs_fed : ℕ → List ℕ → Defaults → ℤ → ℕ → ℕ → List ℕ → Bool
runs_fed x m d before next till [] = true
runs_fed x m d before next till (r ∷ rs) =
    samples_fed m d r (run_start x m before r) next till (count_of m r)
    && runs_fed x m d (run_start x m before r +ℤ pos (run_bytes m d r)) (next + run_bytes m d r) till rs

-- the chunk at x: from the first byte of its `mdat` payload, the first run starting at the `moof` start where it has no offset
unfoldable pub fed_at : List ℕ → Header → ℕ → Bool
fed_at s h x =
    runs_fed x (whole s x) (defaults_in (whole s x) h.defaults) (pos x)
    (mdat_at s x + head_of s (mdat_at s x))
    (mdat_at s x + size_of s (mdat_at s x))
    (runs_in (whole s x))

unfoldable pub piece_at : List ℕ → Header → ℕ → Piece
piece_at s h x =
    record { from = start_at s x; to = end_at s h x; fed = fed_at s h x }

unfoldable pub stretch_at : List ℕ → Header → Fragment → Stretch
stretch_at s h f =
    record { sync = sync_at s h f.first; lead = piece_at s h f.first; rest = map (piece_at s h) f.others }

-- 14 to 18 of every chunk
unfoldable pub shapes : List ℕ → Header → List ℕ → Rule
shapes s h [] = Ok tt
shapes s h (x ∷ xs) = shape_at s h x then shapes s h xs

-- rules 1 to 18 of a track
unfoldable pub rules_before_timing : List ℕ → Rule
rules_before_timing s =
    rule1 (length s) then rules_of_framing s then rule6 s then rules_of_header s then shapes s (header_of s) (chunks s)

-- whether a rule holds
abbrev pub good : Rule → Bool
good (Ok u) = true
good (Err e) = false

-- what the player meets of a track's bytes
unfoldable pub stream_of : List ℕ → Stream
stream_of s =
    record {
      sound = good (rules_before_timing s);
      scale = timescale s;
      stretches = map (stretch_at s (header_of s)) (fragments s);
    }

-- a number that is unset, or the one given
unfoldable pub fits : Option ℕ → ℕ → Bool
fits none n = true
fits (some m) n = eqb m n

-- a fragment number from 0, a clock and a timescale, both unset until the first step sets them
pub record State : Type 0 where
  pub number : ℕ
  pub clock : Option ℕ
  pub scale : Option ℕ

unfoldable pub begin : State
begin = record { number = 0; clock = none; scale = none }

-- chunks in turn from a clock on: no set clock differs from the `tfdt`, the samples' bytes are the next ones, and for the next chunk the clock is
-- `tfdt` plus the durations
unfoldable pub in_turn : Option ℕ → List Piece → Bool
in_turn clock [] = true
in_turn clock (p ∷ ps) = fits clock p.from && p.fed && in_turn (some p.to) ps

-- the clock after chunks in turn
unfoldable pub clock_after : ℕ → List Piece → ℕ
clock_after clock [] = clock
clock_after clock (p ∷ ps) = clock_after p.to ps

-- the clock after a fragment: its last chunk's end
abbrev pub ends_at : Stretch → ℕ
ends_at f = clock_after f.lead.to f.rest

-- whether a step goes through: rules 1 to 18 hold, no set timescale differs, the fragment's first sample is sync, and its chunks go in turn
unfoldable pub goes : State → Stream → Stretch → Bool
goes g t f = t.sound && fits g.scale t.scale && f.sync && in_turn g.clock (f.lead ∷ f.rest)

-- the state after a step: the clock becomes the last chunk's end and the number rises by one
unfoldable pub after : State → Stream → Stretch → State
after g t f = record { number = g.number + 1; clock = some (ends_at f); scale = some t.scale }

-- the fragment where the step goes through, none where it gets stuck
unfoldable pub take? : Bool → Stretch → Option Stretch
take? true f = some f
take? false f = none

-- a case by what there may be
abbrev pub on_option : {A B : Type 0} → Option A → B → (A → B) → B
on_option none b f = b
on_option (some a) b f = f a

-- a step on a track: stuck if it has no fragment of that number, else by what `goes` says of it
unfoldable pub step_on : State → Stream → Option Stretch
step_on g t = on_option (get_elem? t.stretches g.number) none (λ f. take? (goes g t f) f)

-- what a plan comes to: stuck, or the ticks passed
pub data Played : Type 0 where
  stuck : Played
  passed : List ℕ → Played

abbrev pub on_played : {A : Type 0} → Played → A → (List ℕ → A) → A
on_played stuck a b = a
on_played (passed ts) a b = b ts

-- a tick passed before the others
abbrev pub tick : ℕ → Played → Played
tick n r = on_played r stuck (λ ts. passed (n ∷ ts))

-- the clock after each step of a plan, from a state on; a choice that names no track is stuck
unfoldable pub play_from : List Stream → State → List ℕ → Played
play_from ts g [] = passed []
play_from ts g (i ∷ plan) =
    on_option (get_elem? ts i) stuck
    (λ t. on_option (step_on g t) stuck (λ f. tick (ends_at f) (play_from ts (after g t f) plan)))

-- the start of the first fragment chosen
unfoldable pub first_start : List Stream → List ℕ → ℕ
first_start ts [] = 0
first_start ts (i ∷ plan) = on_option (get_elem? ts i) 0 (λ t. on_option (get_elem? t.stretches 0) 0 (λ f. f.lead.from))

-- the ticks passed: the first start, then the clock after each step; an empty plan passes none
unfoldable pub play_streams : List Stream → List ℕ → Played
play_streams ts [] = passed []
play_streams ts (i ∷ plan) = tick (first_start ts (i ∷ plan)) (play_from ts begin (i ∷ plan))

-- the player on the tracks' bytes
unfoldable pub play : List (List ℕ) → List ℕ → Played
play ss plan = play_streams (map stream_of ss) plan

-- the mark of this file: its definitions unfold wherever it does
unfoldable pub computed_player : Unit {0}
unfolding samples_fed run_start runs_fed fed_at piece_at stretch_at shapes rules_before_timing stream_of fits begin in_turn clock_after goes after take?
    step_on play_from first_start play_streams play
computed_player = tt
