-- What the rest of a track comes to, from a box of the top level on: the rules of the pieces form, box by box.
use Rattle.std.specs.Prelude.{ℕ, zero, suc, ◌+◌, ◌-◌, List, [], length, take, drop, leb, eqb, Ok, Err}
use Rattle.numbers.specs.Numbers.{when}
use Rattle.rules.specs.Limits.{box_limit}
use Rattle.rules.specs.Boxes.{part, look, on_look, inside, within, forest, size_of, kind_of}
use Rattle.rules.specs.Framing.{on_framing, rule5, framing}
use Rattle.rules.specs.Course.{and_box, course_end}
use Rattle.rules.specs.Pieces.{large}
use Rattle.rules.specs.declared.Path.TheVariants.{Top}
use Rattle.rules.specs.Rules.{Course, Framing, Judged, breaks, unframed}
use Rattle.rules.specs.declared.Reached.TheVariants.{Start, Typed, Headed, Halved, Paired}

-- where a header of the bytes b is broken under a number, at a place after n boxes: 5 before all, 29 before 4
abbrev pub number_broken : List ℕ → ℕ → ℕ → ℕ
number_broken b n k = when (leb box_limit n) 5 (when (eqb k 4) (when (large (kind_of b 0) (size_of b 0)) 29 4) k)

-- 5, 29 and what is inside the box that the bytes b begin with, at a place after n boxes: the boxes with it, or the first refusal
unfoldable pub box_framing : List ℕ → ℕ → ℕ → ℕ → ℕ → ℕ → Framing
box_framing b at n h z k =
    rule5 n at
    (when (large k z) (unframed 29 at)
    (framing (within (λ q t. forest q t 0) (inside Top k) (part b h (z - h))) (at + h) (n + 1)))

-- the bytes of the `moof` that waits after a box, which are that box's own
abbrev pub waits_after : Course → List ℕ → List ℕ
waits_after (Ok Start) own = []
waits_after (Ok (Typed f)) own = []
waits_after (Ok (Headed j)) own = []
waits_after (Ok (Halved j m)) own = own
waits_after (Ok (Paired j)) own = []
waits_after (Err p) own = []

-- what the rest comes to: the bytes of the `moof` that waits, what the boxes before came to, the place, the boxes before, and the bytes from there on;
-- at most so many boxes of the top level
unfoldable pub rest_from : ℕ → List ℕ → Course → ℕ → ℕ → List ℕ → Judged
rest_from zero w c at n b = course_end at c
rest_from (suc f) w c at n b =
    on_look (look b 0) (course_end at c) (λ k. breaks (number_broken b n k) 0 at)
    (λ h z k.
    on_framing (box_framing b at n h z k)
    (λ m.
    let d = and_box (take z b) w c (record { at = at; inner = h; size = z; kind = k }) in
    rest_from f (waits_after d (take z b)) d (at + z) m (drop z b))
    (λ i p. breaks i 0 p))

-- a box takes at least 8 bytes, so there are fewer boxes than bytes
unfoldable pub rest : List ℕ → Course → ℕ → ℕ → List ℕ → Judged
rest w c at n b = rest_from (length b) w c at n b
