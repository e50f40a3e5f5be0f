-- The equality with the written rule shuts out every dummy: for each there are pieces on which what it answers is not permitted.
use mathlib.Core.Path.{◌≡◌, refl, sym, ap, ◌∙◌}
use mathlib.Core.Bool.{false≢true}
use mathlib.Core.List.{List, [], ◌∷◌, ◌++◌, flatten, append-nil}
use Prim.Native.Nat.{ℕ}
use native.Mathlib.Omega.{arith}
use lib.ListN.{length, get_or}
use Rattle.numbers.specs.Numbers.{when}
use Rattle.rules.specs.Bytes.{in4, boxed}
use Rattle.rules.specs.Computed.{computed}
use Rattle.rules.specs.Examples.{free}
use Rattle.rules.specs.Refusals.{member, value_numbers}
use Rattle.rules.specs.Pieces.{accepted_between, refused_as, answer_for}
use Rattle.rules.specs.declared.Answer.{Answer}
use Rattle.rules.specs.declared.Verdict.{Verdict}
use Rattle.pieces.specs.Form.{Taken}
use Rattle.pieces.specs.Later.{late_t, behind_late, later_wins}
use Rattle.pieces.specs.Dummies.{Checker, Permitted, RefusedByValue, FaultyChecker, first_only, forgets, judges_at_once}
use Rattle.pieces.proofs.Cutting.{taken_cut}

-- the answers for the bytes alone, with a box behind them, and with a stray byte
by_itself : answer_for late_t ≡ refused_as 19 0 678
unfolding behind_late
by_itself = ap answer_for (sym (append-nil late_t)) ∙ ap (λ (rs : List Answer). get_or rs 0 (refused_as 0 0 0)) later_wins

with_box : answer_for (late_t ++ boxed free []) ≡ refused_as 19 0 678
unfolding behind_late
with_box = ap (λ (rs : List Answer). get_or rs 1 (refused_as 0 0 0)) later_wins

with_byte : answer_for (late_t ++ (0 ∷ [])) ≡ refused_as 2 0 768
unfolding behind_late
with_byte = ap (λ (rs : List Answer). get_or rs 2 (refused_as 0 0 0)) later_wins

-- they are 768
late_length : length late_t ≡ 768
unfolding computed late_t
late_length = refl

-- they are refused by a value
by_value : RefusedByValue late_t
unfolding member
by_value = rw by_itself

-- a permitted checker on one piece, and on two
module _ (check : Checker) (permitted : Permitted check) where
  one_piece : (p : List ℕ) → check (p ∷ []) ≡ answer_for p
  unfolding flatten
  one_piece p = permitted (p ∷ []) ∙ ap answer_for (append-nil p)

  two_pieces : (p q : List ℕ) → check (p ∷ q ∷ []) ≡ answer_for (p ++ q)
  unfolding flatten
  two_pieces p q = permitted (p ∷ q ∷ []) ∙ ap (λ (l : List ℕ). answer_for (p ++ l)) (append-nil q)

  -- so it answers 2 for the stray byte in a piece of its own, and not 19
  not_the_first : check (late_t ∷ (0 ∷ []) ∷ []) ≡ answer_for late_t → ⊥
  not_the_first e =
      let n : ◌≡◌ {A = ℕ} 2 19 = ap (λ (r : Answer). r.verdict.number) (sym with_byte ∙ sym (two_pieces late_t (0 ∷ [])) ∙ e ∙ by_itself) in
      omega (arith, n)

-- what meets the contracts on all pieces is permitted
pub met_permitted : (check : Checker) → ((ps : List (List ℕ)) → Taken ps (check ps)) → Permitted check
met_permitted check h ps = taken_cut (h ps)

-- no dummy is permitted, whatever else it does
pub shut_out : (check : Checker) → FaultyChecker check → Permitted check → ⊥
unfolding flatten boxed in4
shut_out check (first_only d) h =
    not_the_first check h (d late_t ((0 ∷ []) ∷ []) (omega (arith, late_length)) ∙ one_piece check h late_t)
shut_out check (forgets d) h =
    d late_t (boxed free []) by_value (omega arith) (omega (arith, late_length))
    (ap (λ (r : Answer). r.verdict) (by_itself ∙ sym with_box ∙ sym (two_pieces check h late_t (boxed free []))))
shut_out check (judges_at_once d) h = not_the_first check h (d late_t (0 ∷ []) by_value (omega (arith, late_length)))

-- there are such: one that answers for the first piece
pub some_first_only : FaultyChecker (λ ps. answer_for (get_or ps 0 []))
some_first_only = first_only (λ p ps l. refl)

-- a checker that is right but where the first piece is refused by a value, of which f says what it answers there
abbrev at_once : (Answer → Answer) → Checker
at_once f [] = answer_for []
at_once f (p ∷ ps) = when (member (answer_for p).verdict.number value_numbers) (f (answer_for p)) (answer_for (flatten (p ∷ ps)))

-- it forgets where f says an acceptance, and judges at once where f leaves the refusal
pub some_forgets : FaultyChecker (at_once (λ _. accepted_between 0 0 0 0))
unfolding member
some_forgets =
    forgets
    (λ s b v l m e.
    let forgotten : (at_once (λ _. accepted_between 0 0 0 0) (s ∷ b ∷ [])).verdict.number ≡ 0 = rw v in
    false≢true (rw (ap (λ (r : Verdict). r.number) e ∙ forgotten) at v))

pub some_judges_at_once : FaultyChecker (at_once (λ r. r))
some_judges_at_once = judges_at_once (λ s b v l. rw v)
