-- What the rest of a track comes to, by what stands at its begin: with no count of boxes, since a box takes bytes.
use mathlib.Core.Path.{◌≡◌, refl, sym, ap, ◌∙◌}
use mathlib.Core.List.{List, []}
use Prim.Native.Nat.{ℕ, zero, suc, ◌+◌, ◌<◌, ◌≤◌}
use native.Mathlib.Omega.{arith}
use lib.ListN.{length, take, drop, length-drop}
use Rattle.rules.specs.Boxes.{look, on_look}
use Rattle.rules.specs.Framing.{on_framing}
use Rattle.rules.specs.Course.{and_box, course_end}
use Rattle.rules.specs.Rules.{Course, Framing, Judged, breaks}
use Rattle.std.specs.Prelude.{Ok, Err}
use Rattle.rules.specs.declared.Look.{Look}
use Rattle.rules.specs.declared.Look.TheVariants.{Nothing, Short, Small, Beyond, Good}
use Rattle.rules.proofs.Forest.{FoundBox, look_found, look_nothing}
use Rattle.pieces.specs.Rest.{number_broken, box_framing, waits_after, rest_from, rest}

-- what comes after a box of header length h, size z and type k, from what the rest after it comes to
abbrev pub after_box : (List ℕ → Course → ℕ → ℕ → List ℕ → Judged) → List ℕ → Course → ℕ → List ℕ → ℕ → ℕ → ℕ → ℕ → Judged
after_box g w c at b h z k m =
    let d = and_box (take z b) w c (record { at = at; inner = h; size = z; kind = k }) in
    g (waits_after d (take z b)) d (at + z) m (drop z b)

-- what the rest comes to where l stands, from what the rest after a box comes to
abbrev pub rest_by : (List ℕ → Course → ℕ → ℕ → List ℕ → Judged) → List ℕ → Course → ℕ → ℕ → List ℕ → Look → Judged
rest_by g w c at n b l =
    on_look l (course_end at c) (λ k. breaks (number_broken b n k) 0 at)
    (λ h z k. on_framing (box_framing b at n h z k) (after_box g w c at b h z k) (λ i p. breaks i 0 p))

-- what the rest comes to where l stands
abbrev pub rest_step : List ℕ → Course → ℕ → ℕ → List ℕ → Look → Judged
rest_step = rest_by rest

-- two ways on that agree, after a framing
framed_same : (r : Framing) (a b : ℕ → Judged) (e : ℕ → ℕ → Judged) → ((m : ℕ) → a m ≡ b m) → on_framing r a e ≡ on_framing r b e
framed_same (Ok n) a b e h = h n
framed_same (Err q) a b e h = refl

-- what is said of all shorter bytes decides what is said of the bytes
by_same :
    (g r : List ℕ → Course → ℕ → ℕ → List ℕ → Judged) (w : List ℕ) (c : Course) (at n : ℕ) (b : List ℕ) →
    ((v : List ℕ) (d : Course) (i m : ℕ) (t : List ℕ) → length t < length b → g v d i m t ≡ r v d i m t) →
    (l : Look) → look b 0 ≡ l → rest_by g w c at n b l ≡ rest_by r w c at n b l
by_same g r w c at n b i Nothing e = refl
by_same g r w c at n b i Short e = refl
by_same g r w c at n b i Small e = refl
by_same g r w c at n b i Beyond e = refl
by_same g r w c at n b i (Good h z k) e =
    let d : FoundBox b 0 h z k = look_found b 0 h z k e in
    let less : length (drop z b) < length b = omega (arith, length-drop z b) in
    framed_same (box_framing b at n h z k) (after_box g w c at b h z k) (after_box r w c at b h z k) (λ i p. breaks i 0 p)
    (λ m. i _ _ (at + z) m (drop z b) less)

-- where no byte is left
from_end : (f : ℕ) (w : List ℕ) (c : Course) (at n : ℕ) (b : List ℕ) → length b ≤ 0 → rest_from f w c at n b ≡ course_end at c
unfolding rest_from
from_end zero w c at n b h = refl
from_end (suc f) w c at n b h = ap (rest_by (rest_from f) w c at n b) (look_nothing b 0 h)

-- any count that is enough gives one result
from_same : (f g : ℕ) (w : List ℕ) (c : Course) (at n : ℕ) (b : List ℕ) → length b ≤ f → length b ≤ g
    → rest_from f w c at n b ≡ rest_from g w c at n b
unfolding rest_from
from_same zero g w c at n b u v = sym (from_end g w c at n b u)
from_same (suc f) zero w c at n b u v = from_end (suc f) w c at n b v
from_same (suc f) (suc g) w c at n b u v =
    by_same (rest_from f) (rest_from g) w c at n b (λ y d i m t h. from_same f g y d i m t (omega arith) (omega arith)) (look b 0) refl

-- and that is the rest
pub from_rest : (f : ℕ) (w : List ℕ) (c : Course) (at n : ℕ) (b : List ℕ) → length b ≤ f → rest_from f w c at n b ≡ rest w c at n b
unfolding rest
from_rest f w c at n b h = from_same f (length b) w c at n b h (omega arith)

-- the rest by what stands at its begin
pub rest_by_lem : (w : List ℕ) (c : Course) (at n : ℕ) (b : List ℕ) (l : Look) → look b 0 ≡ l → rest w c at n b ≡ rest_step w c at n b l
unfolding rest_from
rest_by_lem w c at n b l e =
    sym (from_rest (suc (length b)) w c at n b (omega arith))
    ∙ ap (rest_by (rest_from (length b)) w c at n b) e
    ∙ by_same (rest_from (length b)) rest w c at n b (λ y d i m t h. from_rest (length b) y d i m t (omega arith)) l e

-- where no byte is left the boxes have run out
pub rest_end : (w : List ℕ) (c : Course) (at n : ℕ) → rest w c at n [] ≡ course_end at c
unfolding rest rest_from
rest_end w c at n = refl
