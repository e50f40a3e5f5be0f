-- Laws of the loop over a piece: step by step what is left of it comes to the same.
use mathlib.Core.Path.{◌≡◌, refl, ap, ap₂, ◌∙◌}
use mathlib.Core.Bool.{false}
use mathlib.Core.List.{List, [], ◌++◌}
use Prim.Native.Nat.{ℕ, ◌+◌, ◌-◌, ◌≤◌, ◌<◌}
use native.Mathlib.Omega.{arith}
use lib.ListN.{length, take, drop, length-append, length-drop}
use lib.Seq.{take_all}
use lib.Dec.{ltb}
use borrow.Author.Tests.{lt-ltb}
use Rattle.numbers.specs.Numbers.{when}
use Rattle.rules.specs.Limits.{byte_limit}
use Rattle.rules.specs.Rules.{Judged, breaks}
use Rattle.std.proofs.lemmas.Bool.{and_parts}
use Rattle.pieces.specs.State.{state_of, sound_phase, sound_course, sound, comes_to, answer_of}
use Rattle.pieces.specs.Form.{resume, FeedsFrom}
use Rattle.pieces.specs.Steps.{FollowsState, TakesState, Sound, ComesSame, stopped_at}
use Rattle.pieces.specs.declared.state.Progress.{Progress}
use Rattle.pieces.specs.declared.step.Moved.{Moved}
use Rattle.pieces.proofs.Meaning.{stopped_sound}

-- the rest behind some bytes, as the code lends it
pub rest_of_lem : (piece : List ℕ) (i : ℕ) → take (length piece - i) (drop i piece) ≡ drop i piece
rest_of_lem piece i = take_all (length piece - i) (drop i piece) (omega (arith, length-drop i piece))

-- a step through bytes comes to the same
step_comes : {st : Progress} {head kept more : List ℕ} {r : Moved} {head' kept' : List ℕ} → TakesState st head kept more r head' kept' → (t : List ℕ)
    → comes_to st head kept (more ++ t) ≡ comes_to r.state head' kept' (drop r.used more ++ t)
unfolding comes_to
step_comes {st} {head} {kept} {more} {r} {head'} {kept'} s t =
    let l : st.total + length (more ++ t) ≡ r.state.total + length (drop r.used more ++ t) =
    omega (arith, s.sum, s.within, length-append more t, length-append (drop r.used more) t, length-drop r.used more) in
    ap₂ (λ (a : ℕ) (j : Judged). when (ltb byte_limit a) (breaks 1 0 0) j) l (s.same t)

-- a piece is taken but for the rest of it
pub record Going (st : Progress) (head₀ kept₀ piece rest : List ℕ) (state : Progress) (head kept : List ℕ) : Type 0 where
  pub limit : state.total + length rest ≤ byte_limit
  pub sound : Sound state head kept
  pub same : (t : List ℕ) → comes_to st head₀ kept₀ (piece ++ t) ≡ comes_to state head kept (rest ++ t)

pub going_begins : {st : Progress} {head kept piece : List ℕ} → Sound st head kept → st.total + length piece ≤ byte_limit
    → Going st head kept piece piece st head kept
going_begins s l = record { limit = l; sound = s; same = λ t. refl }

module _ {st : Progress} {head₀ kept₀ piece rest : List ℕ} {state : Progress} {head kept : List ℕ} (g : Going st head₀ kept₀ piece rest state head kept) where
  -- a step may be taken
  pub going_follows : 0 < length rest → FollowsState state head kept rest
  unfolding sound
  going_follows l =
      record {
        some = l;
        limit = g.limit;
        bytes = g.sound.bytes;
        room = g.sound.room;
        phase = (and_parts _ (sound_course state.course state.boxes kept) g.sound.sound).0;
        course = (and_parts (sound_phase state.phase state.course state.total head kept) _ g.sound.sound).1;
      }

  -- and leads on
  pub going_on : {r : Moved} {head' kept' : List ℕ} → TakesState state head kept rest r head' kept'
      → Going st head₀ kept₀ piece (drop r.used rest) r.state head' kept'
  going_on {r} u =
      record {
        limit = omega (arith, g.limit, u.sum, u.within, length-drop r.used rest);
        sound = record { bytes = u.bytes; room = u.room; sound = u.sound };
        same = λ t. g.same t ∙ step_comes u t;
      }

-- no byte of it is left
pub going_ends : {st : Progress} {head₀ kept₀ piece : List ℕ} {state : Progress} {head kept : List ℕ}
    → Going st head₀ kept₀ piece [] state head kept → ComesSame st head₀ kept₀ piece state head kept
going_ends g = record { sound = g.sound; same = g.same }

-- bytes over the byte limit
pub goes_over : {st : Progress} {head kept piece : List ℕ} → Sound st head kept → byte_limit < st.total + length piece
    → ComesSame st head kept piece (stopped_at (byte_limit + 1) (record { number = 1; place = 0 })) head kept
unfolding comes_to
goes_over {st} {head} {kept} {piece} s l =
    record {
      sound = record { bytes = s.bytes; room = s.room; sound = stopped_sound (byte_limit + 1) _ head kept };
      same = λ t.
          rw (
            lt-ltb byte_limit (st.total + length (piece ++ t)) (omega (arith, length-append piece t)),
            lt-ltb byte_limit (byte_limit + 1 + length t) (omega arith),
          );
    }

-- numbers that no `start` led to stay such
pub unsound_feeds : (ns head kept piece : List ℕ) → sound (state_of ns) head kept ≡ false → FeedsFrom ns head kept piece ns head kept
unfolding resume
unsound_feeds ns head kept piece e t = rw e

-- a state that comes to the same leads from its numbers to those of the other
pub fed_feeds : (ns ns' : List ℕ) {head kept piece head' kept' : List ℕ} {st r : Progress} → state_of ns ≡ st → Sound st head kept → state_of ns' ≡ r
    → ComesSame st head kept piece r head' kept' → FeedsFrom ns head kept piece ns' head' kept'
unfolding resume
fed_feeds ns ns' a s b c t = rw (a, b, s.sound, c.sound.sound) (ap answer_of (c.same t))
