-- The ruling and the boundaries of an appended track: what the front keeps is not asked again, and the rest is judged from where the front ended.
use mathlib.Core.Path.{◌≡◌, refl, sym, ap, ap₂, ◌∙◌}
use mathlib.Core.Bool.{Bool, true, false}
use mathlib.Core.List.{List, [], ◌∷◌, ◌++◌, map, append_assoc, map-append}
use Prim.Native.Nat.{ℕ, ◌+◌, ◌≤◌}
use lib.ListN.{length, length-map}
use Rattle.numbers.specs.Numbers.{when}
use Rattle.rules.specs.Rules.{◌then◌, moved, Rule}
use Rattle.rules.specs.Boxes.{boxes, forest}
use Rattle.rules.specs.Framing.{framing, framing_rule, framed}
use Rattle.rules.specs.Order.{on_stepped, order_from, rule6}
use Rattle.rules.specs.Track.{rule1, header_of, chunks, timescale, start_at, end_at, sync_at, end_list, rules_of_chunks, rules_of_header, ruling, last_end, end_of_track, ticks, boundaries}
use Rattle.rules.specs.Track.{Fragment, continuing, begun_among, in_fragments, fragments, first_moofs, fragment_count}
use Rattle.rules.specs.Plans.{All}
use Rattle.rules.specs.declared.Path.TheVariants.{Top}
use Rattle.std.specs.Prelude.{Option, None, Some, Ok}
use Rattle.rules.specs.declared.Stage.{Stage}
use Rattle.rules.specs.declared.Stage.TheVariants.{Start, Paired}
use Rattle.rules.specs.declared.Header.{Header}
use Rattle.rules.proofs.Then.{then_holds, moved_then}
use Rattle.rules.proofs.Fragments.{fragments_append, fragments_append_length, alike_begun, alike_fragments, begin_moved}
use Rattle.rules.proofs.Sound.{accepted_keeps}
use Rattle.appending.proofs.Append.{EndsOnBox}
use Rattle.appending.proofs.AppendFraming.{framed_ends, rules_of_framing_append}
use Rattle.appending.proofs.AppendOrder.{stage_led, order_append, order_leads, chunks_append}
use Rattle.appending.proofs.AppendHeader.{PastHeader, header_append, rules_of_header_append}
use Rattle.appending.proofs.AppendTrack.{ChunkAt, Settled, chunks_in_full, rules_append, start_front, start_behind, end_behind, ends_front, sync_front, sync_behind}

-- what holds of every chunk holds of those that begin a fragment
all_begun : (P : ℕ → Type 0) (sync : ℕ → Bool) (xs : List ℕ) → All P xs → All P (first_moofs (begun_among sync xs))
unfolding begun_among
all_begun P sync [] f = tt
all_begun P sync (x ∷ xs) f = by (sync x) (all_begun P sync xs f.1)
  where
    by : (t : Bool) → All P (first_moofs (begun_among sync xs))
        → All P (first_moofs (when t (record { first = x; others = continuing sync xs } ∷ begun_among sync xs) (begun_among sync xs)))
    by true r = (f.0, r)
    by false r = r

all_moofs : (P : ℕ → Type 0) (sync : ℕ → Bool) (xs : List ℕ) → All P xs → All P (first_moofs (in_fragments sync xs))
unfolding in_fragments
all_moofs P sync [] f = tt
all_moofs P sync (x ∷ xs) f = (f.0, all_begun P sync xs f.1)

-- the boundaries that chunks behind others add, after an end: each start of a fragment that begins among them, and the last end
abbrev pub ticks_behind : List ℕ → Header → Option ℕ → List ℕ → List ℕ
ticks_behind s h prev xs = map (start_at s) (first_moofs (begun_among (sync_at s h) xs)) ++ end_list (last_end s h prev xs)

-- the last end of chunks and of others behind them
ends_joined : (s : List ℕ) (h : Header) (prev : Option ℕ) (xs ys : List ℕ) → last_end s h prev (xs ++ ys) ≡ last_end s h (last_end s h prev xs) ys
unfolding last_end
ends_joined s h prev [] ys = refl
ends_joined s h prev (x ∷ xs) ys = ends_joined s h (Some (end_at s h x)) xs ys

-- the boundaries of chunks and others behind them: the starts of the first ones' fragments, then what the others add
pub ticks_joined : (s : List ℕ) (h : Header) (xs ys : List ℕ) → 1 ≤ length xs
    → ticks s h (xs ++ ys) ≡ map (start_at s) (first_moofs (in_fragments (sync_at s h) xs)) ++ ticks_behind s h (last_end s h None xs) ys
unfolding ticks
ticks_joined s h xs ys l =
    let first = first_moofs (in_fragments (sync_at s h) xs) in
    let more = first_moofs (begun_among (sync_at s h) ys) in
    ap₂ {C = List ℕ} (λ (ms : List ℕ) (e : Option ℕ). map (start_at s) ms ++ end_list e) (fragments_append (sync_at s h) xs ys l) (ends_joined s h None xs ys)
    ∙ ap (λ (ms : List ℕ). ms ++ end_list (last_end s h (last_end s h None xs) ys)) (map-append (start_at s) first more)
    ∙ append_assoc (map (start_at s) first) (map (start_at s) more) (end_list (last_end s h (last_end s h None xs) ys))

module _ (a b : List ℕ) where
  -- the starts of the front's chunks
  starts_front : (xs : List ℕ) → All (ChunkAt a) xs → map (start_at (a ++ b)) xs ≡ map (start_at a) xs
  starts_front [] f = refl
  starts_front (x ∷ xs) f = ap₂ {C = List ℕ} (λ (t : ℕ) (l : List ℕ). t ∷ l) (start_front a b x f.0) (starts_front xs f.1)

  starts_behind : (xs : List ℕ) → map (start_at (a ++ b)) (map (λ x. length a + x) xs) ≡ map (start_at b) xs
  starts_behind [] = refl
  starts_behind (x ∷ xs) = ap₂ {C = List ℕ} (λ (t : ℕ) (l : List ℕ). t ∷ l) (start_behind a b x) (starts_behind xs)

  last_behind : (h : Header) (prev : Option ℕ) (xs : List ℕ) → last_end (a ++ b) h prev (map (λ x. length a + x) xs) ≡ last_end b h prev xs
  unfolding last_end
  last_behind h prev [] = refl
  last_behind h prev (x ∷ xs) =
      ap (λ (e : ℕ). last_end (a ++ b) h (Some e) (map (λ x. length a + x) xs)) (end_behind a b h x) ∙ last_behind h (Some (end_at b h x)) xs

  -- the rest's chunks begin the fragments that they begin by themselves
  sync_all : (h : Header) (xs : List ℕ) → All (λ x. sync_at (a ++ b) h (length a + x) ≡ sync_at b h x) xs
  sync_all h [] = tt
  sync_all h (x ∷ xs) = (sync_behind a b h x, sync_all h xs)

  begin_behind : (h : Header) (xs : List ℕ) → begun_among (λ x. sync_at (a ++ b) h (length a + x)) xs ≡ begun_among (sync_at b h) xs
  begin_behind h xs = alike_begun (λ x. sync_at (a ++ b) h (length a + x)) (sync_at b h) xs (sync_all h xs)

  pub ticks_behind_lem : (h : Header) (prev : Option ℕ) (xs : List ℕ) → ticks_behind (a ++ b) h prev (map (λ x. length a + x) xs) ≡ ticks_behind b h prev xs
  ticks_behind_lem h prev xs =
      ap₂ {C = List ℕ} (λ (l : List ℕ) (e : Option ℕ). l ++ end_list e)
      (ap (map (start_at (a ++ b))) (begin_moved (sync_at (a ++ b) h) (λ x. length a + x) xs)
      ∙ starts_behind (first_moofs (begun_among (λ x. sync_at (a ++ b) h (length a + x)) xs))
      ∙ ap (λ (fs : List Fragment). map (start_at b) (first_moofs fs)) (begin_behind h xs))
      (last_behind h prev xs)

  -- the front's chunks are in the fragments that they are in by themselves
  sync_fronts : (h : Header) (xs : List ℕ) → All (ChunkAt a) xs → All (λ x. sync_at (a ++ b) h x ≡ sync_at a h x) xs
  sync_fronts h [] f = tt
  sync_fronts h (x ∷ xs) f = (sync_front a b x f.0 h, sync_fronts h xs f.1)

  fragments_front : (h : Header) (xs : List ℕ) → All (ChunkAt a) xs → in_fragments (sync_at (a ++ b) h) xs ≡ in_fragments (sync_at a h) xs
  fragments_front h xs f = alike_fragments (sync_at (a ++ b) h) (sync_at a h) xs (sync_fronts h xs f)

  -- a front that ends on a box, has the header behind it and every chunk with its data box
  module _ (c : EndsOnBox a) (g : Stage) (e : stage_led a ≡ Some g) (past : PastHeader g) (rests : Settled g) where
    full : All (ChunkAt a) (chunks a)
    full = chunks_in_full a g e rests

    pub timescale_append : timescale (a ++ b) ≡ timescale a
    unfolding timescale
    timescale_append = ap (λ (h : Header). h.timescale) (header_append a b c g e past)

    -- the fragments: the front's, and those that begin among the rest's chunks, under the front's defaults; the front has a chunk
    pub count_append : 1 ≤ length (chunks a) → fragment_count (a ++ b) ≡ fragment_count a + length (begun_among (sync_at b (header_of a)) (chunks b))
    unfolding fragment_count fragments
    count_append l =
        let on : ℕ → ℕ = λ x. length a + x in
        let sync : ℕ → Bool = sync_at (a ++ b) (header_of a) in
        ap₂ (λ (h : Header) (xs : List ℕ). length (in_fragments (sync_at (a ++ b) h) xs)) (header_append a b c g e past) (chunks_append a b c)
        ∙ fragments_append_length sync (chunks a) (map on (chunks b)) l
        ∙ ap₂ (λ (m n : ℕ). m + n) (ap length (fragments_front (header_of a) (chunks a) full))
        (sym (length-map (begun_among sync (map on (chunks b))) (λ f. f.first))
        ∙ ap length (begin_moved sync on (chunks b))
        ∙ length-map (first_moofs (begun_among (λ x. sync (on x)) (chunks b))) on
        ∙ length-map (begun_among (λ x. sync (on x)) (chunks b)) (λ f. f.first)
        ∙ ap length (begin_behind (header_of a) (chunks b)))

    -- the boundaries: the starts of the front's fragments, then what the rest's chunks add, under the front's defaults and after its last end
    pub boundaries_append : 1 ≤ length (chunks a)
        → boundaries (a ++ b) ≡ map (start_at a) (first_moofs (fragments a)) ++ ticks_behind b (header_of a) (end_of_track a) (chunks b)
    unfolding boundaries fragments
    boundaries_append l =
        let on : ℕ → ℕ = λ x. length a + x in
        let h = header_of a in
        ap₂ {C = List ℕ} (ticks (a ++ b)) (header_append a b c g e past) (chunks_append a b c)
        ∙ ticks_joined (a ++ b) h (chunks a) (map on (chunks b)) l
        ∙ ap₂ {C = List ℕ} (λ (l r : List ℕ). l ++ r)
        (ap (λ (fs : List Fragment). map (start_at (a ++ b)) (first_moofs fs)) (fragments_front h (chunks a) full)
        ∙ starts_front (first_moofs (in_fragments (sync_at a h) (chunks a))) (all_moofs (ChunkAt a) (sync_at a h) (chunks a) full))
        (ticks_behind_lem h (last_end (a ++ b) h None (chunks a)) (chunks b)
        ∙ ap (λ (p : Option ℕ). ticks_behind b h p (chunks b)) (ends_front a b h None (chunks a) full))

    -- the ruling, where m boxes frame the front
    pub ruling_append : (m : ℕ) → framed a ≡ Ok m
        → ruling (a ++ b)
        ≡ (rule1 (length (a ++ b))
        then moved (length a) (framing_rule (framing (forest Top b 0) 0 m))
        then moved (length a) (order_from (length b) g (boxes b 0))
        then rules_of_header a
        then rules_of_chunks a (header_of a) None (chunks a)
        then moved (length a) (rules_of_chunks b (header_of a) (last_end a (header_of a) None (chunks a)) (chunks b)))
    unfolding ruling
    ruling_append m q =
        let order : rule6 (a ++ b) ≡ moved (length a) (order_from (length b) g (boxes b 0)) =
        order_append a b c
        ∙ ap (λ (p : Option Stage). on_stepped p (λ g. moved (length a) (order_from (length b) g (boxes b 0))) (rule6 a)) e in
        rw (
          rules_of_framing_append a b m c q,
          order,
          rules_of_header_append a b c g e past,
          header_append a b c g e past,
          rules_append a b (header_of a) None c full,
        )

-- behind an accepted track: the length, and the framing, the order and the chunks of the rest, moved
pub accepted_append : (a b : List ℕ) (m : ℕ) → ruling a ≡ Ok tt → framed a ≡ Ok m
    → ruling (a ++ b)
    ≡ (rule1 (length (a ++ b))
    then moved (length a)
    (framing_rule (framing (forest Top b 0) 0 m)
    then order_from (length b) Paired (boxes b 0)
    then rules_of_chunks b (header_of a) (last_end a (header_of a) None (chunks a)) (chunks b)))
unfolding rule6
accepted_append a b m r q =
    let k = accepted_keeps a r in
    let c = framed_ends a k.0.1 in
    let f = framing_rule (framing (forest Top b 0) 0 m) in
    let o = order_from (length b) Paired (boxes b 0) in
    let n = rules_of_chunks b (header_of a) (last_end a (header_of a) None (chunks a)) (chunks b) in
    let on : Rule → Rule = moved (length a) in
    let together : on (f then o then n) ≡ (on f then on o then on n) =
    moved_then (length a) f (o then n) ∙ ap (λ (y : Rule). on f then y) (moved_then (length a) o n) in
    let behind : (rules_of_header a then rules_of_chunks a (header_of a) None (chunks a) then on n) ≡ on n =
    then_holds (rules_of_chunks a (header_of a) None (chunks a) then on n) k.0.3 ∙ then_holds (on n) k.1 in
    ruling_append a b c Paired (order_leads (length a) Start (boxes a 0) k.0.2) tt tt m q
    ∙ ap (λ (y : Rule). rule1 (length (a ++ b)) then on f then on o then y) behind
    ∙ ap (λ (y : Rule). rule1 (length (a ++ b)) then y) (sym together)
