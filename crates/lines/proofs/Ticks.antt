-- Laws of numbers, and of a table's, put one a line.
use mathlib.Core.Path.{◌≡◌, refl, sym, ap, subst, ◌∙◌}
use mathlib.Core.List.{List, [], ◌∷◌, ◌++◌, append_assoc, append-nil}
use Prim.Native.Nat.{ℕ, ◌+◌, ◌≤◌, ◌<◌}
use native.Mathlib.Nat.{le_antisymm}
use native.Mathlib.Numerals.{add-one}
use native.Mathlib.Omega.{arith}
use lib.ListN.{length, take, get_or}
use lib.Seq.{take_all, take-suc}
use Rattle.lines.specs.Lines.{tick_line, tick_lines}
use Rattle.lines.specs.Puts.{Put}
use Rattle.lines.specs.Texts.{Puts}
use Rattle.lines.specs.declared.Text.{Text}
use Rattle.lines.proofs.Texts.{then}

-- the lines of numbers behind others stand behind theirs
lines_join : (xs ys : List ℕ) → tick_lines (xs ++ ys) ≡ tick_lines xs ++ tick_lines ys
unfolding tick_lines
lines_join [] ys = refl
lines_join (x ∷ xs) ys = ap (λ (l : List ℕ). tick_line x ++ l) (lines_join xs ys) ∙ sym (append_assoc (tick_line x) (tick_lines xs) (tick_lines ys))

-- the lines of one number more
one_more : (t : List ℕ) (k : ℕ) → k < length t → tick_lines (take k t) ++ tick_line (get_or t k 0) ≡ tick_lines (take (k + 1) t)
unfolding tick_lines
one_more t k h =
    ap (λ (l : List ℕ). tick_lines (take k t) ++ l) (sym (append-nil (tick_line (get_or t k 0))))
    ∙ sym (lines_join (take k t) (get_or t k 0 ∷ []))
    ∙ ap tick_lines (sym (take-suc t k 0 h))
    ∙ ap (λ (j : ℕ). tick_lines (take j t)) (sym (add-one k))

-- none of them
pub none : (s : Text) → Puts s (tick_lines []) s
unfolding tick_lines
none s = record { same = refl; put = record { next = omega arith; now_is = refl }; room = refl }

-- one number more
pub next : (t : List ℕ) (k : ℕ) {s u v : Text} → k < length t → Puts s (tick_lines (take k t)) u → Puts u (tick_line (get_or t k 0)) v
    → Puts s (tick_lines (take (k + 1) t)) v
next t k {s} {u} {v} h p q = subst (λ (xs : List ℕ). Puts s xs v) (one_more t k h) (then p q)

-- the numbers before k of a table are put at a place
abbrev pub TicksPut : List ℕ → ℕ → List ℕ → ℕ → ℕ → List ℕ → Type 0
TicksPut t k l at n m = Put l at (tick_lines (take k t)) n m

-- all of those before j: that many, or as many as the table has
pub up_to : (t : List ℕ) (k j : ℕ) {l m : List ℕ} {at n : ℕ} → k ≤ j → j ≤ k → TicksPut t k l at n m → TicksPut t j l at n m
up_to t k j {l} {m} {at} {n} h g p = subst (λ (i : ℕ). TicksPut t i l at n m) (le_antisymm h g) p

pub every_tick : (t : List ℕ) (k j : ℕ) {l m : List ℕ} {at n : ℕ} → k ≤ j → length t ≤ k → TicksPut t k l at n m → TicksPut t j l at n m
every_tick t k j {l} {m} {at} {n} h g p =
    subst (λ (xs : List ℕ). Put l at (tick_lines xs) n m) (take_all k t g ∙ sym (take_all j t (omega arith))) p
