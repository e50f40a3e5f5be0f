-- Laws of the walk along the top level: what is left of framing and of the course, and what the whole comes to.
use mathlib.Core.Path.{◌≡◌, refl, sym, ap, ◌∙◌}
use mathlib.Core.List.{List, []}
use Prim.Native.Nat.{ℕ, ◌+◌, ◌-◌, ◌≤◌, ◌<◌}
use native.Mathlib.Nat.{sub_self}
use native.Mathlib.Omega.{arith}
use lib.ListN.{length, take, drop}
use lib.Dec.{leb}
use borrow.Author.Tests.{le-leb, lt-leb, leb-true}
use Rattle.rules.specs.Limits.{byte_limit}
use Rattle.rules.specs.Boxes.{Box, look, boxes, forest, whole}
use Rattle.rules.specs.Framing.{framing, framed, framing_rule}
use Rattle.rules.specs.Track.{rule1, ruling}
use Rattle.rules.specs.Course.{judged_by, spot_of, and_box, waiting, course_from, course_end, course_of, facts_of, judgement}
use Rattle.rules.specs.declared.Refusal.{Refusal}
use Rattle.rules.specs.Rules.{Course, Judged, Rule, must, breaks, unframed}
use Rattle.std.specs.Prelude.{Ok, Err}
use Rattle.rules.specs.declared.Look.TheVariants.{Good}
use Rattle.rules.specs.declared.Path.TheVariants.{Top}
use Rattle.rules.specs.declared.Reached.TheVariants.{Start, Typed, Headed, Halved, Paired}
use Rattle.rules.proofs.Forest.{look_found, boxes_box}
use Rattle.rules.proofs.OnePass.{one_pass}
use Rattle.rules.proofs.Then.{then_holds, then_breaks, must_true, must_false, must_holds}
use Rattle.boxes.proofs.Stands.{stands_here}
use Rattle.track.specs.Course.{CourseFits, waits_from}
use Rattle.track.proofs.OwnBytes.{own_bytes, own_length, own_whole}
use Rattle.track.proofs.Stepping.{judged_breaks, FitsAt, few_later, fits_box}

-- the walk stands at a place, after n boxes, with a course: the whole comes to what is left
pub record Walking (s : List ℕ) (at n : ℕ) (c : Course) : Type 0 where
  pub framing : framed s ≡ framing (forest Top s at) 0 n
  pub course : course_from s (Ok Start) (boxes s 0) ≡ course_from s c (boxes s at)
  pub fits : FitsAt s c at
  pub inner : at ≤ length s

pub walking_begins : (s : List ℕ) → Walking s 0 0 (Ok Start)
walking_begins s = record { framing = refl; course = refl; fits = tt; inner = omega arith }

-- over the byte limit
pub over_limit : (s : List ℕ) → byte_limit < length s → breaks 1 0 0 ≡ judgement s
unfolding judgement ruling rule1
over_limit s h = sym (judged_breaks (facts_of s) (then_breaks _ (must_false 1 0 (lt-leb (length s) byte_limit h))))

-- the test of the byte limit fails, and holds
pub too_long : (s : List ℕ) {r : Rule} → r ≡ must (leb (length s) byte_limit) 1 0 → {e : Refusal} → r ≡ Err e → Err e ≡ judgement s
unfolding judgement ruling rule1
too_long s m i = sym (judged_breaks (facts_of s) (then_breaks _ (sym m ∙ i)))

pub within_limit : (s : List ℕ) {r : Rule} → r ≡ must (leb (length s) byte_limit) 1 0 → r ≡ Ok tt → length s ≤ byte_limit
within_limit s m i = leb-true (length s) byte_limit (must_holds _ 1 0 (sym m ∙ i))

-- the bytes of the `moof` that waits before a place: from where it begins
module _ (s : List ℕ) (at : ℕ) where
  abbrev between : ℕ → List ℕ
  between from = take (at - from) (drop from s)

  none_between : between at ≡ []
  none_between = rw sub_self

  waits_bytes : (c : Course) → FitsAt s c at → between (waits_from c at) ≡ waiting s c
  waits_bytes (Ok Start) h = none_between
  waits_bytes (Ok (Typed f)) h = none_between
  waits_bytes (Ok (Headed j)) h = none_between
  waits_bytes (Ok (Halved j m)) h = own_bytes s m h.1 at h.2
  waits_bytes (Ok (Paired j)) h = none_between
  waits_bytes (Err p) h = none_between

  waits_before : (c : Course) → FitsAt s c at → waits_from c at ≤ at
  waits_before (Ok Start) h = omega arith
  waits_before (Ok (Typed f)) h = omega arith
  waits_before (Ok (Headed j)) h = omega arith
  waits_before (Ok (Halved j m)) h = omega (arith, h.2)
  waits_before (Ok (Paired j)) h = omega arith
  waits_before (Err p) h = omega arith

  waits_fit : at ≤ byte_limit → (c : Course) → FitsAt s c at → CourseFits (between (waits_from c at)) c
  waits_fit l (Ok Start) h = tt
  waits_fit l (Ok (Typed f)) h = tt
  waits_fit l (Ok (Headed j)) h = few_later j at byte_limit l h
  waits_fit l (Ok (Halved j m)) h =
      (few_later j at byte_limit l h.0, own_whole s m h.1 at h.2, omega (arith, own_length s m h.1 at h.2, h.2), omega (arith, h.2))
  waits_fit l (Ok (Paired j)) h = few_later j at byte_limit l h
  waits_fit l (Err p) h = tt

module _ (s : List ℕ) {at n : ℕ} {c : Course} (g : Walking s at n c) where
  -- the bytes of the `moof` that waits
  pub waits_low : {from : ℕ} → from ≡ waits_from c at → from ≤ at
  waits_low w = rw w (waits_before s at c g.fits)

  pub waits_whole : length s ≤ byte_limit → {from : ℕ} → from ≡ waits_from c at → CourseFits (take (at - from) (drop from s)) c
  waits_whole h w = rw w (waits_fit s at (omega (arith, g.inner)) c g.fits)

  -- a box, by its own bytes and those of the `moof` that waits
  pub walking_on : {h z k m : ℕ} → framing (forest Top s at) 0 n ≡ framing (forest Top s (at + z)) 0 m → look s at ≡ Good h z k
      → (from : ℕ) → from ≡ waits_from c at
      → Walking s (at + z) m (and_box (take (at + z - at) (drop at s)) (take (at - from) (drop from s)) c (record { at = at; inner = h; size = z; kind = k }))
  unfolding course_from
  walking_on {h} {z} {k} e l from w =
      let x : Box = record { at = at; inner = h; size = z; kind = k } in
      let d = stands_here (look_found s at h z k l) in
      rw (own_bytes s (spot_of x) d (at + z) refl, w, waits_bytes s at c g.fits)
      (record {
        framing = g.framing ∙ e;
        course = g.course ∙ ap (course_from s c) (boxes_box s at h z k l);
        fits = fits_box s (whole s at) (waiting s c) x d c g.fits;
        inner = d.fits;
      })

  module _ (h : length s ≤ byte_limit) where
    short : rule1 (length s) ≡ Ok tt
    unfolding rule1
    short = must_true 1 0 (le-leb (length s) byte_limit h)

    -- no box is left
    pub walking_ends : framing (forest Top s at) 0 n ≡ Ok n → boxes s at ≡ [] → {r : Judged} → r ≡ course_end (length s) c → r ≡ judgement s
    unfolding course_from course_of judgement ruling
    walking_ends e l w =
        w
        ∙ ap (course_end (length s)) (sym (g.course ∙ ap (course_from s c) l))
        ∙ one_pass s
        ∙ ap (λ (r : Rule). judged_by r (facts_of s)) (sym (then_holds _ short ∙ then_holds _ (ap framing_rule (g.framing ∙ e))))

    -- a box is misframed
    pub walking_breaks : {k p : ℕ} → framing (forest Top s at) 0 n ≡ unframed k p → breaks k 0 p ≡ judgement s
    unfolding judgement ruling
    walking_breaks e = sym (judged_breaks (facts_of s) (then_holds _ short ∙ then_breaks _ (ap framing_rule (g.framing ∙ e))))
