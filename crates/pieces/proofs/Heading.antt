-- What the states mean that come after a header that is there whole: refused, gathered from now on, or passed by.
use mathlib.Core.Path.{◌≡◌, refl, sym, ap, ◌∙◌}
use mathlib.Core.Bool.{Bool, true, false, true≢false}
use mathlib.Core.List.{List, [], ◌++◌}
use Prim.Native.Nat.{ℕ, ◌+◌, ◌-◌, ◌≤◌, ◌<◌}
use native.Mathlib.Nat.{zero-add}
use native.Mathlib.Omega.{arith}
use lib.ListN.{length, take, drop}
use lib.Seq.{paste, length-paste, take-paste}
use borrow.Author.Tests.{lt-ltb}
use Rattle.numbers.specs.Numbers.{when}
use Rattle.rules.specs.Limits.{box_limit, gather_limit}
use Rattle.rules.specs.Boxes.{head_of, size_of, kind_of}
use Rattle.rules.specs.Pieces.{gathered, large}
use Rattle.rules.specs.Rules.{Course, breaks}
use Rattle.std.specs.Prelude.{Ok, Err}
use Rattle.rules.specs.declared.Reached.TheVariants.{Start, Typed, Headed, Halved, Paired}
use Rattle.rules.specs.declared.Spot.{Spot}
use Rattle.pieces.specs.Rest.{rest}
use Rattle.pieces.specs.State.{sound_course, halved, kept_moof, comes_by}
use Rattle.pieces.specs.Steps.{stopped_at, beginning_at, MeansAnyway, MeansHeaded, Gathered, after_gathered, Whole, after_header, Gathers, PassesBy, after_passed}
use Rattle.pieces.specs.declared.state.Phase.TheVariants.{Keep}
use Rattle.pieces.specs.declared.state.Progress.{Progress}
use Rattle.pieces.proofs.Soundness.{says_phase}
use Rattle.pieces.proofs.Whole.{head_length, head_whole, size_whole}
use Rattle.pieces.proofs.Courses.{no_mdat, none_kept}
use Rattle.pieces.proofs.Decided.{decided_5, decided_3, decided_29, decided_pass, decided_order}
use Rattle.pieces.proofs.Taking.{state_by, sound_by}
use Rattle.pieces.proofs.Meaning.{stopped_sound}

-- a course in which no `moof` waits is sound whatever the buffer holds
pub alone_sound : (c : Course) (n : ℕ) (kept buf : List ℕ) → halved c ≡ false → sound_course c n kept ≡ true → sound_course c n buf ≡ true
unfolding sound_course halved
alone_sound (Ok Start) n kept buf e s = s
alone_sound (Ok (Typed f)) n kept buf e s = s
alone_sound (Ok (Headed j)) n kept buf e s = s
alone_sound (Ok (Halved j m)) n kept buf e s = absurd (true≢false e)
alone_sound (Ok (Paired j)) n kept buf e s = s
alone_sound (Err p) n kept buf e s = s

-- the course where a box that is gathered begins: no `moof` waits, and it is sound
begins_alone : (c : Course) (at : ℕ) → halved (beginning_at c at) ≡ false
unfolding halved
begins_alone c at = by (halved c) refl
  where
    by : (t : Bool) → halved c ≡ t → halved (when t (Err at) c) ≡ false
    by true e = refl
    by false e = e

begins_sound : (c : Course) (at n : ℕ) (kept buf : List ℕ) → sound_course c n kept ≡ true → sound_course (beginning_at c at) n buf ≡ true
unfolding sound_course
begins_sound c at n kept buf s = by (halved c) refl
  where
    by : (t : Bool) → halved c ≡ t → sound_course (when t (Err at) c) n buf ≡ true
    by true e = refl
    by false e = alone_sound c n kept buf e s

-- a header that is there whole
module _ {c : Course} {total n h : ℕ} {head kept : List ℕ} (g : Whole c total n h head kept) where
  in_head : head_of head 0 ≤ length head
  in_head = omega (arith, (head_length head 0).1, g.bytes)

  -- what follows it, by what is decided
  by_header : (t : List ℕ) → after_header c total n h head kept t ≡ rest (kept_moof c kept) c (total - h) n (take (head_of head 0) head ++ t)
  by_header t = ap (λ (i : ℕ). rest (kept_moof c kept) c (total - h) n (take i head ++ t)) g.said

  -- a refusal
  refused_by_lem : (k : ℕ) → ((t : List ℕ) → rest (kept_moof c kept) c (total - h) n (take (head_of head 0) head ++ t) ≡ breaks k 0 (total - h))
      → MeansHeaded c total n h (stopped_at total (record { number = k; place = total - h })) head kept kept
  unfolding comes_by
  refused_by_lem k f =
      record { sum = refl; sound = stopped_sound total _ head kept; same = λ t. by_header t ∙ f t }

  pub headed_5 : box_limit ≤ n → MeansHeaded c total n h (stopped_at total (record { number = 5; place = total - h })) head kept kept
  headed_5 m = refused_by_lem 5 (λ t. decided_5 head t (kept_moof c kept) c (total - h) n in_head m)

  pub headed_3 : n < box_limit → size_of head 0 < h → MeansHeaded c total n h (stopped_at total (record { number = 3; place = total - h })) head kept kept
  headed_3 m z = refused_by_lem 3 (λ t. decided_3 head t (kept_moof c kept) c (total - h) n in_head m (omega (arith, z, g.said)))

  -- a box that passes by
  abbrev spot : Spot
  spot = record { at = total - h; head = h; size = size_of head 0 }

  module _ (m : n < box_limit) (z : h ≤ size_of head 0) (k : gathered (kind_of head 0) ≡ false) where
    pub headed_passes : PassesBy c total n spot (kind_of head 0) kept
    headed_passes =
        record {
          ready = g.ready;
          few = m;
          place = omega (arith, g.there);
          low = omega (arith, (head_length head 0).0, g.said);
          high = omega (arith, (head_length head 0).1, g.said);
          holds = z;
          kind = k;
        }

    pub headed_passed : {r : Progress} → MeansAnyway (after_passed c n spot (kind_of head 0) kept) total r kept → MeansHeaded c total n h r head kept kept
    headed_passed a =
        record {
          sum = (a head).sum;
          sound = (a head).sound;
          same = λ t.
              by_header t ∙ decided_pass head t (kept_moof c kept) c (total - h) n in_head m (omega (arith, z, g.said)) k kept
              ∙ ap (λ (i : ℕ). after_passed c n (record { at = total - h; head = i; size = size_of head 0 }) (kind_of head 0) kept t) (sym g.said)
              ∙ (a head).same t;
        }

-- a header of a box to gather
module _ {c : Course} {total n : ℕ} {b : Spot} {head kept : List ℕ} (g : Gathers c total n b head kept) where
  abbrev h : ℕ
  h = b.head

  abbrev size : ℕ
  size = b.size

  abbrev buf : List ℕ
  buf = paste kept 0 head h

  abbrev begun : Course
  begun = beginning_at c (total - h)

  pub in_bytes : h ≤ length head
  in_bytes = omega (arith, (head_length head 0).1, g.whole.said, g.whole.bytes)

  -- 29
  pub gathered_29 : gather_limit < size → MeansHeaded c total n h (stopped_at total (record { number = 29; place = total - h })) head kept kept
  unfolding large
  gathered_29 l =
      refused_by_lem g.whole 29
      (λ t. decided_29 head t (kept_moof c kept) c (total - h) n (in_head g.whole) g.few (omega (arith, g.holds, g.said, g.whole.said))
      (rw g.kind (lt-ltb gather_limit (size_of head 0) (omega (arith, l, g.said)))))

  pub buf_room : length buf ≡ gather_limit
  buf_room = length-paste kept 0 head h (omega (arith, in_bytes, g.whole.bytes, g.whole.ready.room)) in_bytes ∙ g.whole.ready.room

  -- the buffer begins with the header
  buf_head : head_of buf 0 ≡ h
  buf_head = head_whole head (drop (0 + h) kept) h in_bytes (omega (arith, g.whole.said)) ∙ sym g.whole.said

  buf_size : size_of buf 0 ≡ size
  buf_size = size_whole head (drop (0 + h) kept) h in_bytes (omega (arith, g.whole.said)) ∙ sym g.said

  buf_front : take h buf ≡ take h head
  buf_front = ap (λ (i : ℕ). take i buf) (sym (zero-add h)) ∙ take-paste kept 0 head h (omega arith) in_bytes

  -- what follows the header follows it in the buffer
  begins : (t : List ℕ) → after_header c total n h head kept t ≡ rest [] begun (total - h) n (take h buf ++ t)
  begins t = by (halved c) refl ∙ ap (λ (a : List ℕ). rest [] begun (total - h) n (a ++ t)) (sym buf_front)
    where
      by : (o : Bool) → halved c ≡ o → after_header c total n h head kept t ≡ rest [] (when o (Err (total - h)) c) (total - h) n (take h head ++ t)
      by true e =
          by_header g.whole t
          ∙ decided_order head t (kept_moof c kept) c (total - h) n (in_head g.whole) e (no_mdat (kind_of head 0) g.kind)
          ∙ ap (λ (i : ℕ). rest [] (Err (total - h)) (total - h) n (take i head ++ t)) (sym g.whole.said)
      by false e = ap (λ (w : List ℕ). rest w c (total - h) n (take h head ++ t)) (none_kept c kept e)

  module _ (l : size ≤ gather_limit) where
    -- it is gathered from now on
    pub gathered_keeps : h < size → MeansHeaded c total n h (state_by (Keep h) begun total n) head kept buf
    unfolding comes_by
    gathered_keeps o =
        record {
          sum = refl;
          sound =
              sound_by (Keep h) begun total n head buf
              (says_phase (Keep h) begun total head buf
              (record {
                within = g.whole.there;
                head = omega (arith, buf_head);
                short = omega (arith, buf_size, o);
                small = omega (arith, buf_size, l);
                alone = begins_alone c (total - h);
              }))
              (begins_sound c (total - h) n kept buf g.whole.ready.course);
          same = begins;
        }

    -- it is whole already
    pub gathered_whole : size ≡ h → Gathered begun total n size buf
    gathered_whole e =
        record {
          ready =
              record {
                limit = g.whole.ready.limit;
                room = buf_room;
                course = begins_sound c (total - h) n kept buf g.whole.ready.course;
              };
          said = sym buf_size;
          holds = omega (arith, buf_head, e);
          small = l;
          there = omega (arith, e, g.whole.there);
          alone = begins_alone c (total - h);
        }

    pub gathered_settles : size ≡ h → {r : Progress} → MeansAnyway (after_gathered begun total n size buf) total r buf
        → MeansHeaded c total n h r head kept buf
    gathered_settles e a =
        record {
          sum = (a head).sum;
          sound = (a head).sound;
          same = λ t. begins t ∙ ap (λ (i : ℕ). rest [] begun (total - i) n (take i buf ++ t)) (sym e) ∙ (a head).same t;
        }
