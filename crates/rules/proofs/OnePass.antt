-- The law of one pass: the course over a slice comes to rule 6, then the header's rules, then the chunks', with what is known of the track.
use mathlib.Core.Path.{◌≡◌, refl, sym, ap, ap₂, subst, ◌∙◌}
use mathlib.Core.List.{List, [], ◌∷◌}
use mathlib.Core.Bool.{Bool, true, false, ◌&&◌, ◌||◌}
use Prim.Native.Nat.{ℕ, ◌+◌, ◌-◌, ◌≤◌}
use native.Mathlib.Nat.{zero-add}
use native.Mathlib.Omega.{arith}
use lib.ListN.{length}
use lib.Dec.{eqb}
use borrow.Author.Tests.{eqb-true}
use Rattle.numbers.specs.Numbers.{when}
use Rattle.rules.specs.Kinds.{ftyp, moov, moof, mdat}
use Rattle.rules.specs.Rules.{◌then◌, Course, Judged, Rule, breaks}
use Rattle.rules.specs.Boxes.{Box, boxes, places_of, head_of, size_of, whole}
use Rattle.rules.specs.Counts.{wanted, seen, seen_from, first_of}
use Rattle.rules.specs.Order.{ordered, awaits, step6, on_stepped, order_from, rule6}
use Rattle.rules.specs.Header.{ftyp_in}
use Rattle.rules.specs.Chunk.{sync_in, begins_one}
use Rattle.rules.specs.Track.{moov_at, moov_of, ftyp_of, header_of, chunks_from, chunks, fragment_count, mdat_at, shape_at, timing_at, start_at, end_at, first_tick_of, last_end, rules_of_chunks, rules_of_header, end_of_track, sync_at, Fragment, continuing, begun_among, in_fragments, fragments}
use Rattle.rules.specs.Set.{mdhd_at, hdlr_at}
use Rattle.rules.specs.Course.{judged_by, opened_facts, opened, or_tick, grown, joined, stage_of, spot_of, brought, and_box, waiting, course_from, course_end, course_of, facts_of, each_sync}
use Rattle.std.specs.Prelude.{Option, None, Some, Ok, Err}
use Rattle.rules.specs.declared.Entry.TheVariants.{One}
use Rattle.rules.specs.declared.Reached.{Reached}
use Rattle.rules.specs.declared.Reached.TheVariants.{Start, Typed, Headed, Halved, Paired}
use Rattle.rules.specs.declared.Seen.TheVariants.{Once}
use Rattle.rules.specs.declared.Stage.{Stage}
use Rattle.rules.specs.declared.Stage.TheVariants as stage
use Rattle.rules.specs.declared.TrackFacts.{TrackFacts}
use Rattle.std.proofs.Math.Bool.{and-true, and_assoc}
use Rattle.std.proofs.lemmas.Bool.{or_parts, or_left, or_right}
use Rattle.rules.proofs.Then.{then_assoc}
use Rattle.rules.proofs.Forest.{FoundBox}
use Rattle.rules.proofs.Walk.{Siblings, boxes_siblings, mdat_next}
use Rattle.rules.proofs.FirstSeen.{first_stays, first_at_lem}

-- a rule that comes first, then what follows it
abbrev behind : Rule → Judged → Judged
behind (Ok u) j = j
behind (Err e) j = Err e

-- rules one behind the other
behind_then : (r q : Rule) (f : TrackFacts) → behind r (judged_by q f) ≡ judged_by (r then q) f
unfolding judged_by ◌then◌
behind_then (Ok u) q f = refl
behind_then (Err e) q f = refl

-- `moov` at a place of a slice, after `ftyp`
abbrev opened_at : List ℕ → Option Bool → ℕ → Judged
opened_at s f at = opened f at (whole s at)

-- the chunk at a place of a slice
unfoldable joined_at : List ℕ → Judged → ℕ → Judged
joined_at s j x = joined j x (whole s x) (head_of s (mdat_at s x)) (size_of s (mdat_at s x) - head_of s (mdat_at s x))

-- chunks at places, one after the other
unfoldable all : List ℕ → Judged → List ℕ → Judged
all s j [] = j
all s j (x ∷ xs) = all s (joined_at s j x) xs

-- the first box's place
abbrev first_at : List Box → ℕ
first_at [] = 0
first_at (x ∷ xs) = x.at

-- where the first `moov` of boxes stands
abbrev moov_in : List Box → ℕ
moov_in xs = first_of 0 (seen (One moov) xs)

-- what is left of rule 6 after a course
abbrev order_left : ℕ → Course → List Box → Rule
order_left len (Ok c) xs = order_from len (stage_of c) xs
order_left len (Err p) xs = breaks 6 0 p

-- what the other rules come to after a stage, if the boxes that are left are in order
abbrev rules_from : List ℕ → Reached → List Box → Judged
rules_from s Start xs = all s (opened_at s (ftyp_in (whole s (first_at xs))) (moov_in xs)) (places_of moof xs)
rules_from s (Typed f) xs = all s (opened_at s f (moov_in xs)) (places_of moof xs)
rules_from s (Headed j) xs = all s j (places_of moof xs)
rules_from s (Halved j m) xs = all s j (m.at ∷ places_of moof xs)
rules_from s (Paired j) xs = all s j (places_of moof xs)

abbrev rules_left : List ℕ → Course → List Box → Judged
rules_left s (Ok c) xs = rules_from s c xs
rules_left s (Err p) xs = breaks 6 0 p

-- what is left after a course
abbrev left : List ℕ → ℕ → Course → List Box → Judged
left s len c xs = behind (order_left len c xs) (rules_left s c xs)

-- a type that the order doesn't speak of is no `moov` and no `moof`
pub unspoken : (k : ℕ) → ordered k ≡ false → (eqb k moov ≡ false) × (eqb k moof ≡ false)
unfolding ordered
unspoken k e =
    let (three, _) = or_parts (eqb k ftyp || eqb k moov || eqb k moof) (eqb k mdat) e in
    let (two, c) = or_parts (eqb k ftyp || eqb k moov) (eqb k moof) three in
    ((or_parts (eqb k ftyp) (eqb k moov) two).1, c)

-- boxes whose first is a `moof`, and is none
moof_hit : (x : Box) (xs : List Box) → eqb x.kind moof ≡ true → places_of moof (x ∷ xs) ≡ x.at ∷ places_of moof xs
unfolding places_of
moof_hit x xs e = rw e

moof_miss : (x : Box) (xs : List Box) → eqb x.kind moof ≡ false → places_of moof (x ∷ xs) ≡ places_of moof xs
unfolding places_of
moof_miss x xs e = rw e

-- a type that is another is no `moof`
other : (k w : ℕ) → eqb w moof ≡ false → eqb k w ≡ true → eqb k moof ≡ false
other k w n e = rw (eqb-true k w e) n

-- boxes whose first is a `moov`, and is none
moov_hit : (x : Box) (xs : List Box) → eqb x.kind moov ≡ true → moov_in (x ∷ xs) ≡ x.at
unfolding seen_from wanted
moov_hit x xs e =
    rw e (first_at_lem (λ p. p ≡ x.at) 0 (seen_from (Once x.at) (One moov) xs) (first_stays (λ p. p ≡ x.at) (One moov) (Once x.at) xs refl))

moov_miss : (x : Box) (xs : List Box) → eqb x.kind moov ≡ false → moov_in (x ∷ xs) ≡ moov_in xs
unfolding seen_from wanted
moov_miss x xs e = rw e

-- a type of the four is one that the order speaks of
pub spoken : (k : ℕ) → (eqb k ftyp ≡ true → ordered k ≡ true) × (eqb k moov ≡ true → ordered k ≡ true) × (eqb k moof ≡ true → ordered k ≡ true) × (eqb k mdat ≡ true → ordered k ≡ true)
unfolding ordered
spoken k =
    let a = eqb k ftyp in
    let b = eqb k moov in
    let c = eqb k moof in
    let d = eqb k mdat in
    let here = or_left (a || b || c) d in (
      λ e. here (or_left (a || b) c (or_left a b e)),
      λ e. here (or_left (a || b) c (or_right a b e)),
      λ e. here (or_right (a || b) c e),
      or_right (a || b || c) d,
    )

-- what holds of the broken order at a box, of what the box brings, and of a stage that others may follow, holds after the box
module _ (P : Course → Type 0) (own w : List ℕ) (x : Box) (b : P (Err x.at)) where
  -- it holds of a stage that others may follow
  abbrev Stays : Reached → Type 0
  Stays Start = Unit {0}
  Stays (Typed f) = P (Ok (Typed f))
  Stays (Headed j) = P (Ok (Headed j))
  Stays (Halved j m) = Unit {0}
  Stays (Paired j) = P (Ok (Paired j))

  module _ (c : Reached) (h : P (Ok (brought own w c (spot_of x)))) where
    any_step : P (Ok c) → (p : Option Stage) (o : Bool) → P (on_stepped p (λ g. Ok (when o (brought own w c (spot_of x)) c)) (Err x.at))
    any_step l None o = b
    any_step l (Some g) true = h
    any_step l (Some g) false = l

    one_step : (k : ℕ) (n : Stage) → (eqb x.kind k ≡ true → ordered x.kind ≡ true)
        → P
        (on_stepped (when (eqb x.kind k) (Some n) None) (λ g. Ok (when (ordered x.kind) (brought own w c (spot_of x)) c)) (Err x.at))
    one_step k n o = by (eqb x.kind k) refl
      where
        by : (t : Bool) → eqb x.kind k ≡ t
            → P (on_stepped (when t (Some n) None) (λ g. Ok (when (ordered x.kind) (brought own w c (spot_of x)) c)) (Err x.at))
        by true e = rw (o e) h
        by false e = b

  pub after_box_lem : (c : Reached) → P (Ok (brought own w c (spot_of x))) → Stays c → P (and_box own w (Ok c) x)
  unfolding and_box step6
  after_box_lem Start h l = one_step Start h ftyp stage.Typed (spoken x.kind).0
  after_box_lem (Typed f) h l = any_step (Typed f) h l (step6 stage.Typed x.kind) (ordered x.kind)
  after_box_lem (Headed j) h l = any_step (Headed j) h l (step6 stage.Headed x.kind) (ordered x.kind)
  after_box_lem (Halved j m) h l = one_step (Halved j m) h mdat stage.Paired (spoken x.kind).3
  after_box_lem (Paired j) h l = any_step (Paired j) h l (step6 stage.Paired x.kind) (ordered x.kind)

-- a `moof` that waits for its `mdat` ends at a place
abbrev Waits : List ℕ → Course → ℕ → Type 0
Waits s (Ok Start) at = Unit {0}
Waits s (Ok (Typed f)) at = Unit {0}
Waits s (Ok (Headed j)) at = Unit {0}
Waits s (Ok (Halved j m)) at = mdat_at s m.at ≡ at
Waits s (Ok (Paired j)) at = Unit {0}
Waits s (Err p) at = Unit {0}

-- so after one box more
module _ (s : List ℕ) (x : Box) (d : FoundBox s x.at x.inner x.size x.kind) where
  abbrev Next : Course → Type 0
  Next c = Waits s c (x.at + x.size)

  waits_next : (own w : List ℕ) (c : Course) → Next (and_box own w c x)
  unfolding brought and_box
  waits_next own w (Ok Start) = after_box_lem Next own w x tt Start tt tt
  waits_next own w (Ok (Typed f)) = after_box_lem Next own w x tt (Typed f) tt tt
  waits_next own w (Ok (Headed j)) = after_box_lem Next own w x tt (Headed j) (mdat_next s d) tt
  waits_next own w (Ok (Halved j m)) = after_box_lem Next own w x tt (Halved j m) tt tt
  waits_next own w (Ok (Paired j)) = after_box_lem Next own w x tt (Paired j) (mdat_next s d) tt
  waits_next own w (Err p) = tt

-- one box more: what is left stays what it is
module _ (s : List ℕ) (len : ℕ) (x : Box) (xs : List Box) where
  -- rule 6 takes a step: what was left, and what is left then
  abbrev Leaves : Reached → Option Stage → Bool → Type 0
  Leaves c p o =
      behind (on_stepped p (λ h. order_from len h xs) (breaks 6 0 x.at)) (rules_from s c (x ∷ xs))
      ≡ left s len (on_stepped p (λ g. Ok (when o (brought (whole s x.at) (waiting s (Ok c)) c (spot_of x)) c)) (Err x.at)) xs

  -- a box of the awaited type, which brings n
  module _
      (c n : Reached)
      (w : ℕ)
      (b : brought (whole s x.at) (waiting s (Ok c)) c (spot_of x) ≡ n)
      (o : eqb x.kind w ≡ true → ordered x.kind ≡ true)
      (e : eqb x.kind w ≡ true → rules_from s c (x ∷ xs) ≡ rules_from s n xs) where
    awaited : eqb x.kind w ≡ true → Leaves c (Some (stage_of n)) (ordered x.kind)
    awaited p = rw (o p) (rw b (ap (behind (order_from len (stage_of n) xs)) (e p)))

    -- where no other may stand
    strictly : Leaves c (when (eqb x.kind w) (Some (stage_of n)) None) (ordered x.kind)
    strictly = by (eqb x.kind w) refl
      where
        by : (t : Bool) → eqb x.kind w ≡ t → Leaves c (when t (Some (stage_of n)) None) (ordered x.kind)
        by true p = awaited p
        by false p = refl

    -- where others are passed over
    loosely : (ordered x.kind ≡ false → rules_from s c (x ∷ xs) ≡ rules_from s c xs)
        → Leaves c (awaits w (stage_of n) (stage_of c) x.kind) (ordered x.kind)
    unfolding awaits
    loosely f = by (eqb x.kind w) refl (ordered x.kind) refl
      where
        by : (t : Bool) → eqb x.kind w ≡ t → (u : Bool) → ordered x.kind ≡ u
            → Leaves c (when t (Some (stage_of n)) (when u None (Some (stage_of c)))) u
        by true p u q = rw (← q) (awaited p)
        by false p true q = refl
        by false p false q = ap (behind (order_from len (stage_of c) xs)) (f q)

  step : (c : Course) → FoundBox s x.at x.inner x.size x.kind → Waits s c x.at
      → left s len c (x ∷ xs) ≡ left s len (and_box (whole s x.at) (waiting s c) c x) xs
  unfolding and_box order_from step6 brought all joined_at
  step (Ok Start) d e =
      strictly Start (Typed (ftyp_in (whole s x.at))) ftyp refl (spoken x.kind).0
      (λ p. ap₂ (λ (at : ℕ) (ps : List ℕ). all s (opened_at s (ftyp_in (whole s x.at)) at) ps)
      (moov_miss x xs (rw (eqb-true x.kind ftyp p)))
      (moof_miss x xs (other x.kind ftyp refl p)))
  step (Ok (Typed f)) d e =
      loosely (Typed f) (Headed (opened_at s f x.at)) moov refl (spoken x.kind).1
      (λ p. ap₂ (λ (at : ℕ) (ps : List ℕ). all s (opened_at s f at) ps) (moov_hit x xs p) (moof_miss x xs (other x.kind moov refl p)))
      (λ q. ap₂ (λ (at : ℕ) (ps : List ℕ). all s (opened_at s f at) ps) (moov_miss x xs (unspoken x.kind q).0) (moof_miss x xs (unspoken x.kind q).1))
  step (Ok (Headed j)) d e =
      loosely (Headed j) (Halved j (spot_of x)) moof refl (spoken x.kind).2 (λ p. ap (all s j) (moof_hit x xs p))
      (λ q. ap (all s j) (moof_miss x xs (unspoken x.kind q).1))
  step (Ok (Halved j m)) d e =
      strictly (Halved j m) (Paired (joined_at s j m.at)) mdat (rw (e, d.head, d.size)) (spoken x.kind).3
      (λ p. ap (λ (ps : List ℕ). all s (joined_at s j m.at) ps) (moof_miss x xs (other x.kind mdat refl p)))
  step (Ok (Paired j)) d e =
      loosely (Paired j) (Halved j (spot_of x)) moof refl (spoken x.kind).2 (λ p. ap (all s j) (moof_hit x xs p))
      (λ q. ap (all s j) (moof_miss x xs (unspoken x.kind q).1))
  step (Err p) d e = refl

-- no box more
over : (s : List ℕ) (len : ℕ) (c : Course) → left s len c [] ≡ course_end len c
unfolding course_end order_from all places_of
over s len (Ok Start) = refl
over s len (Ok (Typed f)) = refl
over s len (Ok (Headed j)) = refl
over s len (Ok (Halved j m)) = refl
over s len (Ok (Paired j)) = refl
over s len (Err p) = refl

-- the course over the boxes that are left comes to what is left
comes_to_lem : (s : List ℕ) (len at : ℕ) (c : Course) (xs : List Box) → Siblings s at xs → Waits s c at → course_end len (course_from s c xs) ≡ left s len c xs
unfolding course_from
comes_to_lem s len at c [] y e = sym (over s len c)
comes_to_lem s len at c (x ∷ xs) y e =
    let d : FoundBox s x.at x.inner x.size x.kind = rw y.0 y.1 in
    let own = whole s x.at in
    let next = and_box own (waiting s c) c x in
    comes_to_lem s len (at + x.size) next xs y.2 (subst (Waits s next) (ap (λ (p : ℕ). p + x.size) y.0) (waits_next s x d own (waiting s c) c))
    ∙ sym (step s len x xs c d (rw y.0 e))

-- chunks after a broken rule, and after rules that hold
all_refused : (s : List ℕ) (n t p : ℕ) (xs : List ℕ) → all s (breaks n t p) xs ≡ breaks n t p
unfolding all joined joined_at
all_refused s n t p [] = refl
all_refused s n t p (x ∷ xs) = all_refused s n t p xs

-- the first start, unless there is one before
abbrev tick_or : Option ℕ → Option ℕ → Option ℕ
tick_or None b = b
tick_or (Some t) b = Some t

first_or_none : (a : Option ℕ) → a ≡ tick_or a None
first_or_none None = refl
first_or_none (Some t) = refl

first_or_tick : (a : Option ℕ) (n : ℕ) (b : Option ℕ) → tick_or (or_tick a n) b ≡ tick_or a (Some n)
first_or_tick None n b = refl
first_or_tick (Some t) n b = refl

-- the fragments that chunks at places begin, after an end before them
abbrev pub begun_after : Option ℕ → (ℕ → Bool) → List ℕ → List Fragment
begun_after None sync xs = in_fragments sync xs
begun_after (Some e) sync xs = begun_among sync xs

begun_none : (prev : Option ℕ) (sync : ℕ → Bool) → length (begun_after prev sync []) ≡ 0
unfolding in_fragments begun_among
begun_none None sync = refl
begun_none (Some e) sync = refl

-- a chunk that begins a fragment brings one more, any other none
pub begun_one : (prev : Option ℕ) (sync : ℕ → Bool) (x : ℕ) (xs : List ℕ)
    → when (begins_one prev (sync x)) 1 0 + length (begun_among sync xs) ≡ length (begun_after prev sync (x ∷ xs))
unfolding begins_one in_fragments begun_among
begun_one None sync x xs = omega arith
begun_one (Some e) sync x xs = by (sync x)
  where
    by : (b : Bool)
        → when b 1 0 + length (begun_among sync xs)
        ≡ length (when b (record { first = x; others = continuing sync xs } ∷ begun_among sync xs) (begun_among sync xs))
    by true = omega arith
    by false = omega arith

-- a chunk brings one fragment more at most
at_most_one : (b : Bool) → when b 1 0 ≤ 1
at_most_one true = omega arith
at_most_one false = omega arith

pub grown_few : (f : TrackFacts) (m : List ℕ) → (grown f m).fragments ≤ f.fragments + 1
unfolding grown
grown_few f m = omega (arith, at_most_one (begins_one f.end (sync_in m f.header.defaults)))

-- what is known after chunks at places
unfoldable grown_by : List ℕ → TrackFacts → List ℕ → TrackFacts
grown_by s f xs =
    record {
      header = f.header;
      mdhd = f.mdhd;
      hdlr = f.hdlr;
      fragments = f.fragments + length (begun_after f.end (sync_at s f.header) xs);
      plain = f.plain && each_sync (sync_at s f.header) xs;
      start = tick_or f.start (first_tick_of s xs);
      end = last_end s f.header f.end xs;
    }

-- facts with another count, another mark and another first start
abbrev facts_by : TrackFacts → Option ℕ → ℕ → Bool → Option ℕ → TrackFacts
facts_by f e n b a = record { header = f.header; mdhd = f.mdhd; hdlr = f.hdlr; fragments = n; plain = b; start = a; end = e }

grown_none : (s : List ℕ) (f : TrackFacts) → f ≡ grown_by s f []
unfolding grown_by last_end each_sync
grown_none s f =
    let n : f.fragments ≡ f.fragments + length (begun_after f.end (sync_at s f.header) []) = omega (arith, begun_none f.end (sync_at s f.header)) in
    ap (λ (k : ℕ). facts_by f f.end k f.plain f.start) n
    ∙ ap₂ (λ (b : Bool) (a : Option ℕ). facts_by f f.end (f.fragments + length (begun_after f.end (sync_at s f.header) [])) b a) (sym (and-true f.plain))
    (first_or_none f.start)

grown_on : (s : List ℕ) (f : TrackFacts) (x : ℕ) (xs : List ℕ) → grown_by s (grown f (whole s x)) xs ≡ grown_by s f (x ∷ xs)
unfolding grown_by grown last_end start_at end_at each_sync sync_at
grown_on s f x xs =
    let sync : ℕ → Bool = sync_at s f.header in
    let end = last_end s f.header (Some (end_at s f.header x)) xs in
    let was = f.fragments + when (begins_one f.end (sync x)) 1 0 + length (begun_among sync xs) in
    let n : was ≡ f.fragments + length (begun_after f.end sync (x ∷ xs)) = omega (arith, begun_one f.end sync x xs) in
    ap₂ (λ (b : Bool) (a : Option ℕ). facts_by f end was b a) (and_assoc f.plain (sync x) (each_sync sync xs)) (first_or_tick f.start (start_at s x) (first_tick_of s xs))
    ∙ ap (λ (k : ℕ). facts_by f end k (f.plain && (sync x && each_sync sync xs)) (tick_or f.start (Some (start_at s x)))) n

behind_rule : (s : List ℕ) (r : Rule) (f : TrackFacts) (xs : List ℕ)
    → all s (Ok f) xs ≡ judged_by (rules_of_chunks s f.header f.end xs) (grown_by s f xs)
    → all s (judged_by r f) xs ≡ judged_by (r then rules_of_chunks s f.header f.end xs) (grown_by s f xs)
unfolding judged_by ◌then◌
behind_rule s (Ok u) f xs e = e
behind_rule s (Err q) f xs e = all_refused s q.number q.track q.place xs

all_rules : (s : List ℕ) (f : TrackFacts) (xs : List ℕ)
    → all s (Ok f) xs ≡ judged_by (rules_of_chunks s f.header f.end xs) (grown_by s f xs)
unfolding all judged_by joined joined_at rules_of_chunks shape_at timing_at end_at grown grown_by last_end
all_rules s f [] = ap Ok (grown_none s f)
all_rules s f (x ∷ xs) =
    let h = f.header in
    behind_rule s (shape_at s h x then timing_at s h f.end x) (grown f (whole s x)) xs (all_rules s (grown f (whole s x)) xs)
    ∙ ap₂ judged_by
    (then_assoc (shape_at s h x) (timing_at s h f.end x) (rules_of_chunks s h (Some (end_at s h x)) xs))
    (grown_on s f x xs)

-- the first box of a slice stands at 0
first_box_at : (s : List ℕ) → first_at (boxes s 0) ≡ 0
first_box_at s = by (boxes s 0) (boxes_siblings s 0)
  where
    by : (xs : List Box) → Siblings s 0 xs → first_at xs ≡ 0
    by [] h = refl
    by (x ∷ xs) h = h.0

-- what is known by the header and every chunk is what is known of the track
all_known : (s : List ℕ) → grown_by s (opened_facts (moov_at s) (moov_of s)) (chunks s) ≡ facts_of s
unfolding grown_by opened_facts facts_of fragment_count fragments moov_of header_of mdhd_at hdlr_at
all_known s = ap (λ (n : ℕ). facts_by (facts_of s) (end_of_track s) n (facts_of s).plain (first_tick_of s (chunks s))) (zero-add (fragment_count s))

-- the whole course is rule 6, then the header's rules, then the chunks'
pub one_pass : (s : List ℕ)
    → course_of s ≡ judged_by (rule6 s then rules_of_header s then rules_of_chunks s (header_of s) None (chunks s)) (facts_of s)
unfolding course_of rule6 moov_at moov_of ftyp_of header_of chunks_from rules_of_header opened opened_facts
one_pass s =
    comes_to_lem s (length s) 0 (Ok Start) (boxes s 0) (boxes_siblings s 0) tt
    ∙ ap (λ (at : ℕ). behind (rule6 s) (all s (opened_at s (ftyp_in (whole s at)) (moov_at s)) (chunks s))) (first_box_at s)
    ∙ ap (behind (rule6 s)) (behind_rule s (rules_of_header s) (opened_facts (moov_at s) (moov_of s)) (chunks s) (all_rules s _ (chunks s)))
    ∙ ap (λ (f : TrackFacts). behind (rule6 s) (judged_by (rules_of_header s then rules_of_chunks s (header_of s) None (chunks s)) f)) (all_known s)
    ∙ behind_then (rule6 s) (rules_of_header s then rules_of_chunks s (header_of s) None (chunks s)) (facts_of s)
