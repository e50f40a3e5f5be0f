-- From the start on, the rest of a track comes to what the written rule says of its bytes.
use mathlib.Core.Path.{◌≡◌, refl, sym, ap, ◌∙◌}
use mathlib.Core.Bool.{Bool, true, false, true≢false}
use mathlib.Core.List.{List, [], ◌∷◌, ◌++◌, map}
use Prim.Native.Nat.{ℕ, zero, suc, ◌+◌, ◌-◌, ◌<◌, ◌≤◌}
use native.Mathlib.Nat.{add-zero, zero-add}
use native.Mathlib.Omega.{arith}
use lib.ListN.{length, take, drop, get_or, length-drop, length-map}
use lib.Seq.{drop-drop, get_or-append-add}
use lib.Dec.{leb, ltb, eqb}
use borrow.Author.Tests.{ltb-true, ltb-false, eqb-true, le-leb, lt-leb}
use Rattle.numbers.specs.Numbers.{be4, be8, when}
use Rattle.numbers.proofs.Bounds.{in_drop, reads4, reads8}
use Rattle.rules.specs.Kinds.{mdat}
use Rattle.rules.specs.Limits.{byte_limit, box_limit}
use Rattle.rules.specs.Rules.{◌then◌, must, on_rule, Course, Framing, Judged, Rule, breaks, unframed}
use Rattle.rules.specs.Boxes.{Box, Forest, bad, node, part, look_at, look, inside, within, forest, boxes, size_of, kind_of, whole}
use Rattle.rules.specs.Framing.{on_framing, rule5, framing, framing_rule}
use Rattle.rules.specs.Order.{ordered, step6, on_stepped}
use Rattle.rules.specs.Track.{rule1, header_of, chunks, sync_at, in_fragments, fragments, first_moofs, fragment_count, timescale, start_at, first_tick_of, last_end, end_list, end_of_track, ticks, boundaries}
use Rattle.rules.specs.Course.{judged_by, waiting, brought, spot_of, stage_of, and_box, course_from, course_end, course_of, facts_of}
use Rattle.rules.specs.Pieces.{large, with29, framed_with29, ruling_in_pieces, first_boundary, last_boundary, accepted_between, refused_as, answer_for}
use Rattle.std.specs.Prelude.{Option, None, Some, Ok, Err}
use Rattle.rules.specs.declared.Look.{Look}
use Rattle.rules.specs.declared.Look.TheVariants.{Nothing, Short, Small, Beyond, Good}
use Rattle.rules.specs.declared.Path.TheVariants.{Top}
use Rattle.rules.specs.declared.Reached.{Reached}
use Rattle.rules.specs.declared.Reached.TheVariants.{Start, Typed, Headed, Halved, Paired}
use Rattle.rules.specs.declared.Stage.{Stage}
use Rattle.rules.specs.declared.Stage.TheVariants as stage
use Rattle.rules.proofs.OnePass.{one_pass}
use Rattle.rules.proofs.Forest.{FoundBox, never, look_found, nothing_left, forest_by, boxes_by}
use Rattle.pieces.specs.Rest.{number_broken, box_framing, waits_after, rest}
use Rattle.pieces.specs.State.{state_of, open_header, sound_course, sound_phase, sound, comes_by, comes_to, answer_of}
use Rattle.std.specs.Option.{unwrap_or}
use Rattle.pieces.specs.Form.{Memory, resume, Starts}
use Rattle.pieces.specs.declared.state.Phase.TheVariants.{Head}
use Rattle.pieces.specs.declared.state.Progress.{Progress}
use Rattle.pieces.proofs.Unfolding.{after_box, rest_by_lem}

module _ (s : List ℕ) (at : ℕ) where
  -- where the rest begins its bytes are those of the whole: a size, a type, a size of eight bytes
  short_rest : be4 (drop at s) 0 ≡ be4 s at
  short_rest = in_drop reads4 at s 0 ∙ ap (be4 s) (add-zero at)

  kind_rest : kind_of (drop at s) 0 ≡ kind_of s at
  kind_rest = in_drop reads4 at s 4

  long_rest : be8 (drop at s) (0 + 8) ≡ be8 s (at + 8)
  long_rest = in_drop reads8 at s 8

  size_rest : size_of (drop at s) 0 ≡ size_of s at
  unfolding size_of
  size_rest = rw (short_rest, long_rest)

  -- so what stands there is what stands there in the whole
  pub look_rest : look (drop at s) 0 ≡ look s at
  unfolding look look_at
  look_rest =
      let left : length (drop at s) - 0 ≡ length s - at = omega (arith, length-drop at s) in
      rw (left, short_rest, kind_rest, long_rest)

  -- and its bytes are so many of the whole
  part_rest : (h n : ℕ) → part (drop at s) h n ≡ part s (at + h) n
  part_rest h n = ap (take n) (drop-drop h at s)

-- where an `mdat` is awaited no box is passed over
none_passed : (k : ℕ) (g : Stage) → ordered k ≡ false → step6 stage.Halved k ≡ Some g → ⊥
unfolding step6 ordered
none_passed k g o e = by (eqb k mdat) refl e
  where
    by : (t : Bool) → eqb k mdat ≡ t → when t (Some stage.Paired) None ≡ Some g → ⊥
    by true y p = true≢false (rw (eqb-true k mdat y) at o)
    by false y p = never (cc)

-- after a box what waits is that box itself, where it is a `moof`, or nothing
waits_on :
    (s own w : List ℕ) (r : Reached) (x : Box) (p : Option Stage) (o : Bool) →
    step6 (stage_of r) x.kind ≡ p → ordered x.kind ≡ o → own ≡ whole s x.at →
    waits_after (on_stepped p (λ g. Ok (when o (brought own w r (spot_of x)) r)) (Err x.at)) own
    ≡ waiting s (on_stepped p (λ g. Ok (when o (brought own w r (spot_of x)) r)) (Err x.at))
unfolding brought
waits_on s own w r x None o a b e = refl
waits_on s own w Start x (Some g) true a b e = refl
waits_on s own w Start x (Some g) false a b e = refl
waits_on s own w (Typed f) x (Some g) true a b e = refl
waits_on s own w (Typed f) x (Some g) false a b e = refl
waits_on s own w (Headed j) x (Some g) true a b e = e
waits_on s own w (Headed j) x (Some g) false a b e = refl
waits_on s own w (Halved j m) x (Some g) true a b e = refl
waits_on s own w (Halved j m) x (Some g) false a b e = absurd (none_passed x.kind g b a)
waits_on s own w (Paired j) x (Some g) true a b e = e
waits_on s own w (Paired j) x (Some g) false a b e = refl

-- the same of any course
waits : (s own w : List ℕ) (c : Course) (x : Box) → own ≡ whole s x.at → waits_after (and_box own w c x) own ≡ waiting s (and_box own w c x)
unfolding and_box
waits s own w (Err p) x e = refl
waits s own w (Ok r) x e = waits_on s own w r x (step6 (stage_of r) x.kind) (ordered x.kind) refl refl e

module _ (s : List ℕ) where
  -- what a course and a forest from a place on come to, after so many boxes
  abbrev comes : Course → ℕ → List Box → Forest → Judged
  comes c n xs f = on_framing (framing (with29 s f) 0 n) (λ _. course_end (length s) (course_from s c xs)) (λ k p. breaks k 0 p)

  -- a broken header
  broken_header : (c : Course) (at n k : ℕ) → breaks (number_broken (drop at s) n k) 0 at ≡ comes c n [] (bad k at)
  unfolding with29 framing rule5
  broken_header c at n k =
      rw (kind_rest s at, size_rest s at, zero-add at)
      (by (leb box_limit n) (when (eqb k 4) (when (large (kind_of s at) (size_of s at)) 29 4) k))
    where
      by : (t : Bool) (i : ℕ)
          → breaks (when t 5 i) 0 at
          ≡ on_framing (when t (unframed 5 at) (unframed i at)) (λ _. course_end (length s) (course_from s c [])) (λ k p. breaks k 0 p)
      by true i = refl
      by false i = refl

  -- a box, from what comes after it
  module _ (c : Course) (at n h z k : ℕ) where
    -- the box
    abbrev box : Box
    box = record { at = at; inner = h; size = z; kind = k }

    -- 5 and 29 at it, what is inside it, and what comes after it
    framed_box : (i : Forest) (a : ℕ → Judged) (r : Forest) (xs : List Box)
        → ((m : ℕ) → a m ≡ comes (and_box (whole s at) (waiting s c) c box) m xs r)
        → on_framing (rule5 n at (when (large k z) (unframed 29 at) (framing i (at + h) (n + 1)))) a (λ i p. breaks i 0 p)
        ≡ comes c n (box ∷ xs) (node box i r)
    unfolding with29 framing rule5 course_from
    framed_box i a r xs e = by (large k z)
      where
        then_on : ℕ → Judged
        then_on m = course_end (length s) (course_from s (and_box (whole s at) (waiting s c) c box) xs)

        refuse : ℕ → ℕ → Judged
        refuse j p = breaks j 0 p

        inner : (t : Bool) (q : Framing)
            → on_framing (when t (unframed 5 at) q) a refuse
            ≡ on_framing (when t (unframed 5 at) (on_framing q (λ m. framing (with29 s r) 0 m) (λ k p. unframed k p))) then_on refuse
        inner true q = refl
        inner false (Ok m) = e m
        inner false (Err e) = refl

        large_box : (t : Bool)
            → on_framing (when t (unframed 5 at) (unframed 29 at)) a refuse
            ≡ on_framing (when t (unframed 5 at) (unframed 29 at)) then_on refuse
        large_box true = refl
        large_box false = refl

        by : (u : Bool)
            → on_framing (rule5 n at (when u (unframed 29 at) (framing i (at + h) (n + 1)))) a refuse
            ≡ on_framing (framing (when u (bad 29 at) (node box i (with29 s r))) 0 n) then_on refuse
        by true = rw (zero-add at) (large_box (leb box_limit n))
        by false = rw (zero-add at) (inner (leb box_limit n) (framing i (at + h) (n + 1)))

  -- where l stands, from what comes after a box
  rest_step_lem :
      (c : Course) (at n : ℕ) → at ≤ length s →
      ((d : Course) (h z k m : ℕ) → FoundBox s at h z k
      → rest (waiting s d) d (at + z) m (drop (at + z) s) ≡ comes d m (boxes s (at + z)) (forest Top s (at + z))) →
      (l : Look) → look s at ≡ l → rest (waiting s c) c at n (drop at s) ≡ comes c n (boxes s at) (forest Top s at)
  unfolding course_from with29 framing box_framing whole
  rest_step_lem c at n u more Nothing e =
      let here : at ≡ length s = omega (arith, nothing_left s at e) in
      rw (boxes_by s at Nothing e, forest_by Top s at Nothing e)
      (rest_by_lem (waiting s c) c at n (drop at s) Nothing (look_rest s at ∙ e) ∙ ap (λ (i : ℕ). course_end i c) here)
  rest_step_lem c at n u more Short e =
      rw (boxes_by s at Short e, forest_by Top s at Short e)
      (rest_by_lem (waiting s c) c at n (drop at s) Short (look_rest s at ∙ e) ∙ broken_header c at n 2)
  rest_step_lem c at n u more Small e =
      rw (boxes_by s at Small e, forest_by Top s at Small e)
      (rest_by_lem (waiting s c) c at n (drop at s) Small (look_rest s at ∙ e) ∙ broken_header c at n 3)
  rest_step_lem c at n u more Beyond e =
      rw (boxes_by s at Beyond e, forest_by Top s at Beyond e)
      (rest_by_lem (waiting s c) c at n (drop at s) Beyond (look_rest s at ∙ e) ∙ broken_header c at n 4)
  rest_step_lem c at n u more (Good h z k) e =
      rw (boxes_by s at (Good h z k) e, forest_by Top s at (Good h z k) e)
      (rest_by_lem (waiting s c) c at n (drop at s) (Good h z k) (look_rest s at ∙ e)
      ∙ rw (part_rest s at h (z - h))
      (framed_box c at n h z k (within (λ q t. forest q t 0) (inside Top k) (part s (at + h) (z - h)))
      (after_box rest (waiting s c) c at (drop at s) h z k) (forest Top s (at + z)) (boxes s (at + z)) after))
    where
      d : FoundBox s at h z k
      d = look_found s at h z k e

      own : take z (drop at s) ≡ whole s at
      own = ap (λ (i : ℕ). take i (drop at s)) (sym d.size)

      after : (m : ℕ)
          → after_box rest (waiting s c) c at (drop at s) h z k m
          ≡ comes (and_box (whole s at) (waiting s c) c (box c at n h z k)) m (boxes s (at + z)) (forest Top s (at + z))
      after m =
          let x = box c at n h z k in
          rw (own, drop-drop z at s, waits s (whole s at) (waiting s c) c x refl)
          (more (and_box (whole s at) (waiting s c) c x) h z k m d)

  -- by the bytes left
  rest_left : (f : ℕ) (c : Course) (at n : ℕ) → at ≤ length s → length s - at ≤ f
      → rest (waiting s c) c at n (drop at s) ≡ comes c n (boxes s at) (forest Top s at)
  rest_left zero c at n u few = rest_step_lem c at n u (λ d h z k m b. absurd (omega (arith, b.inner))) (look s at) refl
  rest_left (suc f) c at n u few =
      rest_step_lem c at n u (λ d h z k m b. rest_left f d (at + z) m b.fits (omega (arith, b.low, b.holds, b.inner))) (look s at) refl

  -- what the rest of a slice comes to is what its forest and its boxes from there on come to
  pub rest_comes : (c : Course) (at n : ℕ) → at ≤ length s
      → rest (waiting s c) c at n (drop at s)
      ≡ on_framing (framing (with29 s (forest Top s at)) 0 n) (λ _. course_end (length s) (course_from s c (boxes s at))) (λ k p. breaks k 0 p)
  rest_comes c at n u = rest_left (length s) c at n u (omega arith)

  -- the whole, from the start on
  pub rest_whole : rest [] (Ok Start) 0 0 s ≡ on_framing (framed_with29 s) (λ _. course_of s) (λ k p. breaks k 0 p)
  unfolding course_of
  rest_whole = rest_comes (Ok Start) 0 0 (omega arith)

  -- the first boundary is the first start
  first_is : first_boundary s ≡ unwrap_or (first_tick_of s (chunks s)) 0
  unfolding first_boundary boundaries ticks last_end in_fragments
  first_is = by (chunks s)
    where
      by : (xs : List ℕ)
          → get_or (map (start_at s) (first_moofs (in_fragments (sync_at s (header_of s)) xs)) ++ end_list (last_end s (header_of s) None xs)) 0 0
          ≡ unwrap_or (first_tick_of s xs) 0
      by [] = refl
      by (x ∷ xs) = refl

  -- and the last boundary the last end
  last_is : last_boundary s ≡ unwrap_or (end_of_track s) 0
  unfolding last_boundary boundaries ticks fragment_count fragments
  last_is = by (end_of_track s)
    where
      by : (e : Option ℕ) → get_or (map (start_at s) (first_moofs (fragments s)) ++ end_list e) (length (fragments s)) 0 ≡ unwrap_or e 0
      by e =
          let moofs = first_moofs (fragments s) in
          let many : length moofs ≡ length (fragments s) = length-map (fragments s) (λ f. f.first) in
          let seam : length (fragments s) ≡ length (map (start_at s) moofs) + 0 = omega (arith, length-map moofs (start_at s), many) in
          ap (λ (i : ℕ). get_or (map (start_at s) moofs ++ end_list e) i 0) seam
          ∙ get_or-append-add (map (start_at s) moofs) (end_list e) 0 0
          ∙ value e
        where
          value : (e : Option ℕ) → get_or (end_list e) 0 0 ≡ unwrap_or e 0
          value None = refl
          value (Some t) = refl

  -- what is answered by a framing and the rules after it is what the written rule says by them
  answered_by : (q : Framing) (r : Rule)
      → answer_of (on_framing q (λ _. judged_by r (facts_of s)) (λ k p. breaks k 0 p))
      ≡ on_rule (framing_rule q then r)
      (λ _. accepted_between (fragment_count s) (timescale s) (first_boundary s) (last_boundary s))
      (λ n k p. refused_as n k p)
  unfolding answer_of judged_by facts_of timescale ◌then◌
  answered_by (Ok n) (Ok u) = rw (first_is, last_is)
  answered_by (Ok n) (Err e) = refl
  answered_by (Err e) r = refl

-- over the byte limit rule 1 decides
pub begins_over : (s : List ℕ) → byte_limit < length s → refused_as 1 0 0 ≡ answer_for s
unfolding answer_for ruling_in_pieces rule1 must ◌then◌
begins_over s h = rw (lt-leb (length s) byte_limit h)

-- the state of a start: no byte, no box
abbrev pub opening : Progress
opening = record { phase = Head 0; total = 0; boxes = 0; course = Ok Start }

-- from the start on what is answered for bytes is what the written rule says of them
pub rest_begins : (s : List ℕ) → length s ≤ byte_limit → answer_of (rest [] (Ok Start) 0 0 s) ≡ answer_for s
unfolding answer_for ruling_in_pieces rule1 must ◌then◌
rest_begins s h = rw (rest_whole s, one_pass s, le-leb (length s) byte_limit h) (answered_by s (framed_with29 s) _)

-- what a track comes to after that state is what the written rule says of its bytes
pub opening_comes : (head kept more : List ℕ) → answer_of (comes_to opening head kept more) ≡ answer_for more
unfolding comes_to comes_by answer_of
opening_comes head kept more = by (ltb byte_limit (length more)) refl
  where
    by : (t : Bool) → ltb byte_limit (length more) ≡ t
        → answer_of (when (ltb byte_limit (0 + length more)) (breaks 1 0 0) (rest [] (Ok Start) 0 0 more)) ≡ answer_for more
    by true e = rw (zero-add (length more), e) (begins_over more (ltb-true byte_limit (length more) e))
    by false e = rw (zero-add (length more), e) (rest_begins more (ltb-false byte_limit (length more) e))

-- a memory whose numbers are that state is started
pub starts_at_lem : (m : Memory) → state_of m.numbers ≡ opening → Starts m
unfolding resume sound sound_phase sound_course open_header
starts_at_lem m e more = rw e (opening_comes m.head m.kept more)
