-- The track's first chunk: 19 is not asked of it, 21 is, and where it is non-sync the track is refused.
use mathlib.Core.Path.{◌≡◌, refl, ap, ◌∙◌}
use mathlib.Core.Bool.{true, not}
use mathlib.Core.List.{List, ◌∷◌}
use Prim.Native.Nat.{ℕ, ◌+◌}
use lib.ListN.{length}
use Rattle.rules.specs.Rules.{◌then◌, must, breaks}
use Rattle.rules.specs.Boxes.{whole}
use Rattle.rules.specs.Framing.{rules_of_framing}
use Rattle.rules.specs.Order.{rule6}
use Rattle.rules.specs.Chunk.{first_run, follows, rule19, rule20, opens, sync_in, rule21, timing}
use Rattle.rules.specs.Track.{rule1, rules_of_header, ruling, rules_of_chunks, header_of, chunks, shape_at, timing_at}
use Rattle.std.specs.Prelude.{None, Ok}
use Rattle.rules.proofs.Then.{then_holds, then_breaks, then_both, must_false, moved_breaks}
use Rattle.rules.proofs.Stuck.{non_sync}

-- it may start at any tick
pub first_any_start : (m : List ℕ) → rule19 m None ≡ Ok tt
unfolding rule19 follows must
first_any_start m = refl

-- 21 of it is broken where the bit non-sync is set in the flags of its first sample
first_broken_21 : (s : List ℕ) (x : ℕ) → non_sync s x ≡ true → rule21 (whole s x) (header_of s).defaults None ≡ breaks 21 0 (first_run (whole s x))
unfolding rule21 opens sync_in
first_broken_21 s x h = must_false 21 (first_run (whole s x)) (ap not h)

-- behind 20 it is what its timing comes to
first_timing_21 : (s : List ℕ) (x : ℕ) → rule20 (whole s x) (header_of s).defaults ≡ Ok tt → non_sync s x ≡ true
    → timing_at s (header_of s) None x ≡ breaks 21 0 (x + first_run (whole s x))
unfolding timing_at timing
first_timing_21 s x h k =
    moved_breaks x (then_holds _ (first_any_start (whole s x)) ∙ then_holds _ h ∙ then_breaks _ (first_broken_21 s x k))

-- so where 1 to 13 hold, and 14 to 18 and 20 of the first chunk, a track that begins non-sync is refused under 21 at its first run, whatever follows
pub first_21 : (s : List ℕ) (x : ℕ) (xs : List ℕ) → (rule1 (length s) then rules_of_framing s then rule6 s then rules_of_header s) ≡ Ok tt
    → chunks s ≡ x ∷ xs → shape_at s (header_of s) x ≡ Ok tt → rule20 (whole s x) (header_of s).defaults ≡ Ok tt → non_sync s x ≡ true
    → ruling s ≡ breaks 21 0 (x + first_run (whole s x))
unfolding ruling rules_of_chunks
first_21 s x xs r e h k n =
    let a = then_both (rule1 (length s)) (rules_of_framing s then rule6 s then rules_of_header s) r in
    let b = then_both (rules_of_framing s) (rule6 s then rules_of_header s) a.1 in
    let c = then_both (rule6 s) (rules_of_header s) b.1 in
    then_holds _ a.0
    ∙ then_holds _ b.0
    ∙ then_holds _ c.0
    ∙ then_holds _ c.1
    ∙ ap (rules_of_chunks s (header_of s) None) e
    ∙ then_holds _ h
    ∙ then_breaks _ (first_timing_21 s x k n)
