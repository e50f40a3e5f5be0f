-- What the program prints, by the rules: a broken rule is the refused line, and none the accepted line with the boundaries.
use mathlib.Core.Path.{◌≡◌, refl, sym, ap, ◌∙◌}
use mathlib.Core.Bool.{false}
use mathlib.Core.List.{List, ◌++◌}
use Prim.Native.Nat.{ℕ, ◌+◌, ◌≤◌}
use native.Mathlib.Numerals.{add-one}
use native.Mathlib.Omega.{arith}
use lib.Dec.{ltb}
use lib.ListN.{length, drop, length-replicate}
use lib.Seq.{take_at}
use borrow.Author.Tests.{ne_eqb, le-ltb}
use Rattle.rules.specs.Bundle.{tracks}
use Rattle.rules.specs.Track.{fragment_count, timescale, boundaries, refused, accepted, room_for}
use Rattle.rules.specs.Set.{track0, bundle_ruling, set_outcome}
use Rattle.rules.specs.Rules.{breaks}
use Rattle.std.specs.Prelude.{Ok}
use Rattle.rules.proofs.Boundaries.{boundaries_length}
use Rattle.rules.proofs.Refusals.{never_0}
use Rattle.rules.proofs.Caller.{caller_0}
use Rattle.lines.specs.Lines.{refused_line, accepted_line, tick_lines, verdict_lines, set_lines}
use Rattle.printed.specs.Printed.{input_limit, table, printed}
use Rattle.printed.proofs.Printed.{held}

-- the lines of a refusal
refusal_lines : (k n j p : ℕ) (t : List ℕ) → 1 ≤ n → set_lines k (refused n j p t) ≡ refused_line n j p
unfolding verdict_lines refused
refusal_lines k n j p t h = rw (ne_eqb n 0 (λ e. absurd (omega arith)))

-- the lines of an acceptance with F + 1 numbers
acceptance_lines : (k count scale : ℕ) (numbers t : List ℕ) → length numbers ≡ count + 1
    → set_lines k (accepted count scale numbers t) ≡ accepted_line k count scale ++ tick_lines numbers
unfolding verdict_lines accepted
acceptance_lines k count scale numbers t e =
    ap (λ (l : List ℕ). accepted_line k count scale ++ tick_lines l) (take_at numbers (drop (length numbers) t) (count + 1) e)

-- the table has 1,024 numbers
table_room : length table ≡ 1024
unfolding table
table_room = length-replicate {A = ℕ} 1024 0

module _ (b : List ℕ) (h : length b ≤ input_limit) where
  -- a bundle that breaks a rule
  pub refused_text : {n k p : ℕ} → bundle_ruling b ≡ breaks n k p → printed b ≡ refused_line n k p
  unfolding set_outcome
  refused_text {n} {k} {p} e =
      let o : refused n k p table ≡ set_outcome b table = rw e in
      sym (held b h refl o) ∙ refusal_lines (length (tracks b)) n k p table (never_0 b n k p e)

  -- an acceptance counts a fragment
  counts : (count scale : ℕ) (numbers : List ℕ) → accepted count scale numbers table ≡ set_outcome b table → 1 ≤ count
  unfolding accepted
  counts count scale numbers o = (caller_0 b table (accepted count scale numbers table) o refl).1

  -- a bundle that keeps them all, with no more boundaries than the table has room for
  pub accepted_text : bundle_ruling b ≡ Ok tt → length (boundaries (track0 (tracks b))) ≤ 1024
      → printed b ≡ accepted_line (length (tracks b)) (fragment_count (track0 (tracks b))) (timescale (track0 (tracks b)))
      ++ tick_lines (boundaries (track0 (tracks b)))
  unfolding set_outcome room_for
  accepted_text e f =
      let s₀ = track0 (tracks b) in
      let fits : ltb (length table) (length (boundaries s₀)) ≡ false = le-ltb (length table) (length (boundaries s₀)) (omega (arith, f, table_room)) in
      let o : accepted (fragment_count s₀) (timescale s₀) (boundaries s₀) table ≡ set_outcome b table = rw (e, fits) in
      sym (held b h refl o)
      ∙ acceptance_lines (length (tracks b)) (fragment_count s₀) (timescale s₀) (boundaries s₀) table
      (boundaries_length s₀ (counts (fragment_count s₀) (timescale s₀) (boundaries s₀) o) ∙ sym (add-one (fragment_count s₀)))
