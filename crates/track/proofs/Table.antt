-- Laws of the table: the boundaries as each start and the last end, written from the front.
use mathlib.Core.Path.{◌≡◌, refl, sym, ap, ap₂, ◌∙◌}
use mathlib.Core.List.{List, [], ◌∷◌, ◌++◌, map}
use Prim.Native.Nat.{ℕ, suc, ◌+◌, ◌-◌, ◌^◌, ◌≤◌, ◌<◌}
use native.Mathlib.Nat.{zero-add}
use native.Mathlib.Numerals.{add-one}
use native.Mathlib.Omega.{arith}
use lib.ListN.{length, drop, set, length-set, length-map}
use lib.Seq.{sets, sets-eq}
use borrow.Author.Tests.{lt-ltb, le-ltb, leb-true}
use Rattle.rules.specs.Limits.{byte_limit}
use Rattle.rules.specs.Track.{rule1, Outcome, ruling, header_of, timescale, room_for, refused, accepted, track_outcome, chunks, fragments, first_moofs, fragment_count, start_at, sync_at, end_list, ticks, boundaries, end_of_track}
use Rattle.rules.specs.Course.{judged_by, each_sync, facts_of, judgement}
use Rattle.rules.specs.declared.Header.{Header}
use Rattle.rules.specs.Rules.{Rule, breaks}
use Rattle.std.specs.Prelude.{Option, Some, None, Result, Ok, Err, IsErrAnd, IfErr}
use Rattle.rules.specs.declared.Refusal.{Refusal}
use Rattle.rules.specs.declared.TrackFacts.{TrackFacts}
use Rattle.rules.specs.declared.Verdict.{Verdict}
use Rattle.rules.proofs.Boundaries.{a_fragment, opens_on_sync, boundaries_length}
use Rattle.rules.proofs.Sound.{accepted_keeps}
use Rattle.rules.proofs.Then.{must_holds}
use Rattle.track.specs.Course.{Known}
use Rattle.track.specs.Cursor.{begun_from, EachSync, NextAt, IsNextFragment}
use Rattle.track.specs.declared.cursor.FragmentAt.{FragmentAt}
use Rattle.track.specs.declared.cursor.Fragments.{Fragments}

-- each start, and the last end, if there is one
unfoldable pub written : List ℕ → Option ℕ → List ℕ → List ℕ
written s end xs = map (start_at s) xs ++ end_list end

-- the boundaries of a track
pub boundaries_written : (s : List ℕ) → boundaries s ≡ written s (end_of_track s) (first_moofs (fragments s))
unfolding boundaries ticks written fragments
boundaries_written s = refl

-- an accepted track has a fragment, and one boundary more than fragments
pub length_boundaries : (s : List ℕ) → ruling s ≡ Ok tt → length (boundaries s) ≡ fragment_count s + 1
length_boundaries s r = omega (arith, boundaries_length s (a_fragment s r))

-- an accepted track
module _ (s : List ℕ) (f : TrackFacts) (k : Known s f) where
  -- what is known of it, one by one
  pub known_count : f.fragments ≡ fragment_count s
  unfolding facts_of
  known_count = ap (λ (g : TrackFacts). g.fragments) k.facts

  pub known_end : f.end ≡ end_of_track s
  unfolding facts_of
  known_end = ap (λ (g : TrackFacts). g.end) k.facts

  pub known_header : f.header ≡ header_of s
  unfolding facts_of
  known_header = ap (λ (g : TrackFacts). g.header) k.facts

  pub known_scale : f.header.timescale ≡ timescale s
  unfolding timescale
  known_scale = ap (λ (h : Header). h.timescale) known_header

  pub known_short : length s ≤ byte_limit
  unfolding rule1
  known_short = leb-true (length s) byte_limit (must_holds _ 1 0 (accepted_keeps s k.holds).0.0)

  -- its fragments are those that begin from its front on, and where it is said to be plain each chunk begins one
  pub known_begun : begun_from s f.header 0 ≡ first_moofs (fragments s)
  unfolding begun_from
  known_begun = ap (λ (h : Header). begun_from s h 0) known_header ∙ sym (opens_on_sync s k.holds)

  pub known_sync : EachSync f.plain s f.header 0
  unfolding facts_of
  known_sync p =
      ap (λ (h : Header). each_sync (sync_at s h) (chunks s)) known_header ∙ sym (ap (λ (g : TrackFacts). g.plain) k.facts) ∙ p

  -- its boundaries
  pub known_written : written s f.end (begun_from s f.header 0) ≡ boundaries s
  known_written =
      ap₂ {C = List ℕ} (λ (e : Option ℕ) (xs : List ℕ). written s e xs) known_end known_begun ∙ sym (boundaries_written s)

-- the fragments of a track from a place on
pub record WalksOver (s : List ℕ) (f : TrackFacts) (fs : Fragments) : Type 0 where
  pub bytes : fs.bytes.now ≡ s
  pub header : fs.header ≡ f.header
  pub plain : fs.plain ≡ f.plain

-- from the first on
pub over_first : {s : List ℕ} {f : TrackFacts} {fs gs : Fragments} → gs ≡ fs
    → (fs.bytes.now ≡ s) × (fs.header ≡ f.header) × (fs.plain ≡ f.plain) × (fs.at ≡ 0) → WalksOver s f gs
over_first e b =
    record {
      bytes = ap (λ (x : Fragments). x.bytes.now) e ∙ b.0;
      header = ap (λ (x : Fragments). x.header) e ∙ b.1;
      plain = ap (λ (x : Fragments). x.plain) e ∙ b.2;
    }

-- a fragment was given, and others are left
abbrev pub NextGives : Fragments → FragmentAt → Fragments → Type 0
NextGives fs x gs =
    IsNextFragment (Some x) fs.bytes.now fs.header fs.at × (gs.bytes.now ≡ fs.bytes.now) × (gs.header ≡ fs.header) × (gs.plain ≡ fs.plain)
    × (gs.at ≡ x.next)

module _ {s : List ℕ} {f : TrackFacts} {fs : Fragments} (o : WalksOver s f fs) where
  -- the next one, and none
  pub next_over : {x : FragmentAt} → IsNextFragment (Some x) fs.bytes.now fs.header fs.at → NextAt s f.header fs.at x.place x.next x.start
  next_over {x} n = rw (o.bytes, o.header) at n

  pub none_over : IsNextFragment None fs.bytes.now fs.header fs.at → begun_from s f.header fs.at ≡ []
  none_over n = rw (o.bytes, o.header) at n

  -- behind it
  pub over_on : {fs' : Fragments} → fs'.bytes.now ≡ fs.bytes.now → fs'.header ≡ fs.header → fs'.plain ≡ fs.plain → WalksOver s f fs'
  over_on b h p = record { bytes = b ∙ o.bytes; header = h ∙ o.header; plain = p ∙ o.plain }

-- as many places as fragments
pub moofs_length : (s : List ℕ) → length (first_moofs (fragments s)) ≡ fragment_count s
unfolding fragment_count
moofs_length s = length-map (fragments s) (λ f. f.first)

-- the table t, written up to k, comes to the whole with what is left
pub record Writing (s t₀ : List ℕ) (f : TrackFacts) (at k : ℕ) (t : List ℕ) : Type 0 where
  pub comes : sets t k (written s f.end (begun_from s f.header at)) ≡ sets t₀ 0 (boundaries s)
  pub room : k + length (written s f.end (begun_from s f.header at)) ≤ length t₀
  pub all : length (boundaries s) ≤ length t₀
  pub same : length t ≡ length t₀
  pub count : k + length (begun_from s f.header at) ≡ f.fragments
  pub bounded : k + (length s - at) ≤ byte_limit

pub writing_begins : (s t : List ℕ) (f : TrackFacts) → Known s f → length (boundaries s) ≤ length t → Writing s t f 0 0 t
writing_begins s t f k n =
    let b = known_written s f k in
    record {
      comes = ap (sets t 0) b;
      room = omega (arith, ap length b);
      all = n;
      same = refl;
      count = omega (arith, ap length (known_begun s f k), moofs_length s, known_count s f k);
      bounded = omega (arith, known_short s f k);
    }

module _ (s t₀ : List ℕ) {f : TrackFacts} {at k : ℕ} {t : List ℕ} (w : Writing s t₀ f at k t) where
  -- the last end, after every start
  module _ (e : begun_from s f.header at ≡ []) where
    left : written s f.end (begun_from s f.header at) ≡ end_list f.end
    unfolding written
    left = ap (written s f.end) e

    all_written : f.fragments ≡ k
    all_written = omega (arith, w.count, ap length e)

    pub end_room : f.fragments + length (end_list f.end) ≤ length t
    end_room = omega (arith, all_written, w.room, w.same, ap length left)

    pub writing_ends : {u : List ℕ} → u ≡ sets t f.fragments (end_list f.end) → u ≡ boundaries s ++ drop (length (boundaries s)) t₀
    writing_ends i =
        i
        ∙ ap (λ (n : ℕ). sets t n (end_list f.end)) all_written
        ∙ ap (sets t k) (sym left)
        ∙ w.comes
        ∙ sets-eq (boundaries s) t₀ 0 (omega (arith, w.all))
        ∙ ap (λ (l : ℕ). boundaries s ++ drop l t₀) (zero-add (length (boundaries s)))

  module _ {p q v : ℕ} (c : NextAt s f.header at p q v) where
    more : written s f.end (begun_from s f.header at) ≡ start_at s p ∷ written s f.end (begun_from s f.header q)
    unfolding written
    more = ap (written s f.end) c.places

    -- there is room for a start
    pub start_room : k < length t
    start_room = omega (arith, w.room, w.same, ap length more)

    -- a start
    pub writing_on : Writing s t₀ f q (k + 1) (set t k v)
    writing_on =
        record {
          comes =
              rw (add-one) (ap (λ (x : ℕ). sets (set t k x) (suc k) (written s f.end (begun_from s f.header q))) c.start)
              ∙ sym (ap (sets t k) more)
              ∙ w.comes;
          room = omega (arith, w.room, ap length more);
          all = w.all;
          same = simp length-set w.same;
          count = omega (arith, w.count, ap length c.places);
          bounded = omega (arith, w.bounded, c.past, c.inner);
        }

-- the same, by the fragments that are left
pub record WritingBy (s t₀ : List ℕ) (f : TrackFacts) (fs : Fragments) (k : ℕ) (t : List ℕ) : Type 0 where
  pub over : WalksOver s f fs
  pub writing : Writing s t₀ f fs.at k t

pub writing_by_begins : {s t : List ℕ} {f : TrackFacts} → Known s f → length (boundaries s) ≤ length t → {fs gs : Fragments} → gs ≡ fs
    → (fs.bytes.now ≡ s) × (fs.header ≡ f.header) × (fs.plain ≡ f.plain) × (fs.at ≡ 0) → {k : ℕ} → k ≡ 0 → WritingBy s t f gs k t
writing_by_begins {s} {t} {f} k n {fs} {gs} e b z =
    record {
      over = over_first e b;
      writing = rw (ap (λ (x : Fragments). x.at) e ∙ b.3, z) (writing_begins s t f k n);
    }

module _ {s t₀ : List ℕ} {f : TrackFacts} {fs : Fragments} {k : ℕ} {t : List ℕ} (w : WritingBy s t₀ f fs k t) where
  -- they may be counted
  pub by_counted : k + (length fs.bytes.now - fs.at) < 2 ^ 64
  by_counted = rw w.over.bytes (omega (arith, w.writing.bounded))

  -- a start
  pub writing_by_on : {x : FragmentAt} {gs : Fragments} → NextGives fs x gs → {i j : ℕ} → i ≡ k → j ≡ k + 1 → WritingBy s t₀ f gs j (set t i x.start)
  writing_by_on n i j =
      record {
        over = over_on w.over n.1 n.2 n.3;
        writing = rw (n.4, i, j) (writing_on s t₀ w.writing (next_over w.over n.0));
      }

-- a refusal's verdict with the table unchanged is the refusal's outcome
pub refused_is : (t : List ℕ) (n k p : ℕ) {v : Verdict} → v ≡ record { number = n; track = k; place = p; count = 0; timescale = 0 }
    → ◌≡◌ {A = Outcome} (record { verdict = v; table = t }) (refused n k p t)
unfolding refused
refused_is t n k p e = ap (λ (v : Verdict). record { verdict = v; table = t }) e

-- room for its boundaries
module _ (s t : List ℕ) (f : TrackFacts) (k : Known s f) where
  long : length (boundaries s) ≡ f.fragments + 1
  long = omega (arith, length_boundaries s k.holds, known_count s f k)

  -- what the boundaries need
  pub known_rest : f.fragments < length t → Known s f × (length (boundaries s) ≤ length t)
  known_rest h = (k, omega (arith, long))

  -- 23: the table is too short
  pub table_short : length t ≤ f.fragments → refused 23 0 0 t ≡ room_for (fragment_count s) (timescale s) (boundaries s) t
  unfolding room_for
  table_short h = rw (lt-ltb (length t) (length (boundaries s)) (omega (arith, long)))

  -- there is room
  pub room : f.fragments < length t → (t' : List ℕ) → t' ≡ boundaries s ++ drop (length (boundaries s)) t
      → ◌≡◌ {A = Outcome}
      (record { verdict = record { number = 0; track = 0; place = 0; count = f.fragments; timescale = f.header.timescale }; table = t' })
      (room_for (fragment_count s) (timescale s) (boundaries s) t)
  unfolding room_for accepted
  room h t' i = rw (le-ltb (length t) (length (boundaries s)) (omega (arith, long))) (rw (known_count s f k, known_scale s f k, i))

-- what an answer says of the rules
module _ (s : List ℕ) where
  pub accepted_known : {f : TrackFacts} → Ok f ≡ judgement s → Known s f
  unfolding judgement judged_by
  accepted_known {f} = by (ruling s) refl
    where
      by : (r : Rule) → ruling s ≡ r → Ok f ≡ judged_by r (facts_of s) → Known s f
      by (Ok u) e q = record { holds = e; facts = cc }
      by (Err b) e q = let z : ◌≡◌ {A = ℕ} 0 1 = cc in absurd (omega arith)

  -- and the other way round
  pub known_accepted : {f : TrackFacts} → Known s f → judgement s ≡ Ok f
  unfolding judgement judged_by
  known_accepted k = rw (k.holds, k.facts)

  pub refused_broken : {n t p : ℕ} → breaks n t p ≡ judgement s → ruling s ≡ breaks n t p
  unfolding judgement judged_by
  refused_broken {n} {t} {p} = by (ruling s) refl
    where
      by : (r : Rule) → ruling s ≡ r → breaks n t p ≡ judged_by r (facts_of s) → ruling s ≡ breaks n t p
      by (Ok u) e q = let z : ◌≡◌ {A = ℕ} 0 1 = cc in absurd (omega arith)
      by (Err x) e q = e ∙ (cc)

-- what an answer that is refused says
pub refuses : {A : Type 0} (s : List ℕ) {e : Refusal} → Err e ≡ judgement s → (r : Result A Refusal) → IsErrAnd r (λ x. x ≡ e) → IfErr r (λ x. ruling s ≡ Err x)
refuses s q (Ok v) h = absurd h
refuses s q (Err x) h = refused_broken s q ∙ ap Err (sym h)

-- the outcome of an accepted track, and of a refused one
pub track_accepted : (s t : List ℕ) → ruling s ≡ Ok tt → room_for (fragment_count s) (timescale s) (boundaries s) t ≡ track_outcome s t
unfolding track_outcome
track_accepted s t e = rw e

pub track_refused : (s t : List ℕ) {n k p : ℕ} → ruling s ≡ breaks n k p → refused n k p t ≡ track_outcome s t
unfolding track_outcome
track_refused s t e = rw e
