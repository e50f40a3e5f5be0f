-- Laws of a text that is put together in a lent buffer.
use mathlib.Core.Path.{◌≡◌, sym, ap, ◌∙◌}
use mathlib.Core.List.{List, ◌++◌, append_assoc}
use Prim.Native.Nat.{ℕ, ◌+◌, ◌-◌, ◌≤◌}
use native.Mathlib.Omega.{arith}
use lib.ListN.{length, take, drop}
use lib.Seq.{sets, sets-eq}
use borrow.Rule.Slice.PartMut.{put_mid, Post-is}
use Rattle.lines.specs.Puts.{Line}
use Rattle.lines.specs.Texts.{Puts}
use Rattle.lines.specs.declared.Text.{Text}
use Rattle.lines.proofs.Puts as puts

-- what is put behind it joins it
pub then : {s t u : Text} {xs ys : List ℕ} → Puts s xs t → Puts t ys u → Puts s (xs ++ ys) u
then p q = record { same = q.same ∙ p.same; put = puts.then p.put q.put; room = q.room ∙ p.room }

-- a text that began with no bytes is a line at the start
pub whole_line : {s t : Text} {xs : List ℕ} → Puts s xs t → s.len ≡ 0 → t.len ≤ length s.buffer.now → Line xs s.buffer.now t.len t.buffer.now
whole_line {s} {t} {xs} p e h = puts.whole_line (rw e at p.put) h

-- bytes copied into a part of a list
pub copied : (l : List ℕ) (at : ℕ) (xs : List ℕ) → at + length xs ≤ length l → put_mid at (at + length xs - at) l xs ≡ sets l at xs
copied l at xs h =
    ap (λ (z : List ℕ). take at l ++ (xs ++ z)) (Post-is at (at + length xs) l (omega arith))
    ∙ sym (append_assoc (take at l) xs (drop (at + length xs) l))
    ∙ sym (sets-eq xs l at h)
