-- However a track is cut, what is answered at the end is what the written rule says of its bytes.
use mathlib.Core.Path.{◌≡◌, refl, sym, ap, ◌∙◌}
use mathlib.Core.List.{List, [], ◌++◌, flatten, append-nil, append_assoc}
use Prim.Native.Nat.{ℕ}
use Rattle.rules.specs.Pieces.{answer_for}
use Rattle.rules.specs.declared.Answer.{Answer}
use Rattle.pieces.specs.Form.{Memory, resume, Starts, Finishes, Fed, no_piece, and_piece, Taken}

-- pieces that are fed lead as their bytes in one piece do
pub fed_at_once : {a b : Memory} {ps : List (List ℕ)} → Fed a ps b → (t : List ℕ) → resume a (flatten ps ++ t) ≡ resume b t
unfolding flatten
fed_at_once no_piece t = refl
fed_at_once (and_piece {a} {b} {c} {p} {ps} f r) t = ap (resume a) (append_assoc p (flatten ps) t) ∙ f (flatten ps ++ t) ∙ fed_at_once r t

-- however the bytes are cut, the answer is the written rule's for them
pub however_cut : {a b : Memory} {ps : List (List ℕ)} {r : Answer} → Starts a → Fed a ps b → Finishes b r → r ≡ answer_for (flatten ps)
however_cut {a} {ps = ps} s f e = e ∙ sym (fed_at_once f []) ∙ ap (resume a) (append-nil (flatten ps)) ∙ s (flatten ps)

-- the same of an answer for pieces
pub taken_cut : {ps : List (List ℕ)} {r : Answer} → Taken ps r → r ≡ answer_for (flatten ps)
taken_cut h = however_cut h.starts h.fed h.finishes

-- two cuts of the same bytes have one answer
pub cut_alike : (ps qs : List (List ℕ)) (r q : Answer) → flatten ps ≡ flatten qs → Taken ps r → Taken qs q → r ≡ q
cut_alike ps qs r q e h k = taken_cut h ∙ ap answer_for e ∙ sym (taken_cut k)
