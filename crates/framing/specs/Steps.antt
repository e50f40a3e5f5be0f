-- What each case of a step along a run of boxes says.
use Rattle.std.specs.Prelude.{ℕ, ◌+◌, ◌<◌, ◌≤◌, List, [], ◌≡◌, length, leb, Option, None, Some, Result, Ok, Err}
use Rattle.std.proofs.lemmas.List.Edits.{sets}
use Rattle.numbers.specs.Numbers.{when}
use Rattle.rules.specs.Limits.{box_limit}
use Rattle.rules.specs.Boxes.{look, on_look, forest, boxes}
use Rattle.rules.specs.Framing.{framing, rows}
use Rattle.rules.specs.declared.Path.{Path}
use Rattle.rules.specs.declared.Look.{Look}
use Rattle.rules.specs.declared.Look.TheVariants.{Good}
use Rattle.rules.specs.declared.Misframed.{Misframed}
use Rattle.rules.specs.declared.Refusal.{Refusal}
use Rattle.rules.specs.declared.Verdict.{Verdict}
use Rattle.framing.specs.declared.Past.{Past}
use Rattle.framing.specs.declared.Wrote.{Wrote}

-- the places of a slice that starts at a base are below 2^63, so that no sum of them wraps
abbrev pub InReach : ℕ → List ℕ → Type 0
InReach base s = base + length s < 9223372036854775808

-- what reading one box comes to: past it; no byte left; or a refusal
abbrev pub Step : Type 0
Step = Result (Option Past) Misframed

-- 5 is tried before 2, 3 and 4 where bytes remain
abbrev pub limited : ℕ → ℕ → Step → Step
limited n p r = when (leb box_limit n) (Err (record { number = 5; place = p })) r

-- the step past what stands at a place, with n boxes before it, if nothing is inside it: refusals 2 to 5
abbrev pub past_header : Look → ℕ → ℕ → Step
past_header l p n =
    on_look l (Ok None) (λ k. limited n p (Err (record { number = k; place = p })))
    (λ h z k. limited n p (Ok (Some (record { head = h; size = z; kind = k; boxes = n + 1 }))))

-- past a box at a place of n bytes, its header is no longer than it and it ends in them
abbrev pub PastBounds : Step → ℕ → ℕ → Type 0
PastBounds (Ok (Some b)) n at = (8 ≤ b.head) × (b.head ≤ b.size) × (at + b.size ≤ n)
PastBounds (Ok None) n at = Unit {0}
PastBounds (Err e) n at = Unit {0}

-- what a step at a place says of the framing of the run from there on, with n boxes before it:
-- past a box, it is the framing from behind it on; at the end, where there is no box, the boxes so far; else the refusal
abbrev pub Read : Step → List ℕ → ℕ → Path → ℕ → ℕ → Type 0
Read (Ok (Some b)) s at path base n =
    (framing (forest path s at) base n ≡ framing (forest path s (at + b.size)) base b.boxes) × (look s at ≡ Good b.head b.size b.kind)
Read (Ok None) s at path base n = (framing (forest path s at) base n ≡ Ok n) × (boxes s at ≡ [])
Read (Err e) s at path base n = framing (forest path s at) base n ≡ Err e

-- what writing one box says of the table, t before and u after, where the index of the run from the place on fits from a row on:
-- past a box, the whole is what is left to write, from the next place on, into the table as it is; without a box there is nothing to write
abbrev pub Writes : Option Wrote → List ℕ → ℕ → Path → ℕ → ℕ → ℕ → List ℕ → List ℕ → Type 0
Writes (Some w) s at path base depth row t u =
    (sets t row (rows (forest path s at) base depth) ≡ sets u w.row (rows (forest path s w.next) base depth))
    × (row + length (rows (forest path s at) base depth) ≡ w.row + length (rows (forest path s w.next) base depth))
    × (at < w.next)
    × (w.next ≤ length s)
Writes None s at path base depth row t u = (rows (forest path s at) base depth ≡ []) × (u ≡ t)

-- the verdict of an index: the boxes that it has, or the refusal
abbrev pub indexed : Result ℕ Refusal → Verdict
indexed (Ok n) = record { number = 0; track = 0; place = 0; count = n; timescale = 0 }
indexed (Err e) = record { number = e.number; track = e.track; place = e.place; count = 0; timescale = 0 }
