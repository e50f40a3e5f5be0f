-- Laws of what is put behind one another into a buffer.
use mathlib.Core.Path.{◌≡◌, sym, ap, ◌∙◌}
use mathlib.Core.List.{List, [], ◌∷◌, ◌++◌}
use Prim.Native.Nat.{ℕ, ◌+◌, ◌≤◌, ◌<◌}
use native.Mathlib.Numerals.{add-one}
use native.Mathlib.Omega.{arith}
use lib.ListN.{length, take, drop, get_or, set, length-append}
use lib.Seq.{sets, sets-eq, length-sets, length-take-le, take_all, take-suc, take-append_seam}
use Rattle.rules.proofs.Laws.{sets_append}
use Rattle.lines.specs.Puts.{Put, Line}

-- what is put behind it joins it
pub then : {l : List ℕ} {at : ℕ} {xs : List ℕ} {n : ℕ} {m ys : List ℕ} {n' : ℕ} {m' : List ℕ} → Put l at xs n m → Put m n ys n' m'
    → Put l at (xs ++ ys) n' m'
then {l} {at} {xs} {n} {m} {ys} {n'} {m'} p q =
    record {
      next = omega (arith, p.next, q.next, length-append xs ys);
      now_is = q.now_is ∙ ap (λ (k : ℕ). sets m k ys) p.next ∙ ap (λ (k : List ℕ). sets k (at + length xs) ys) p.now_is
          ∙ sym (sets_append l at xs ys);
    }

-- a whole line at the start
pub whole_line : {l xs : List ℕ} {n : ℕ} {m : List ℕ} → Put l 0 xs n m → n ≤ length l → Line xs l n m
whole_line {l} {xs} {n} {m} p h =
    let e : n ≡ length xs = omega (arith, p.next) in
    let z : 0 + length xs ≡ length xs = omega arith in
    let w : n ≤ length m = omega (arith, ap length p.now_is, length-sets l 0 xs) in
    record {
      size = e;
      starts = p.now_is ∙ sets-eq xs l 0 (omega arith) ∙ ap (λ (k : ℕ). xs ++ drop k l) z;
      within = w;
      front = sym (length-take-le n m w);
    }

-- the bytes up to where it ends are the line
pub line_is : {l xs : List ℕ} {n : ℕ} {m : List ℕ} → Line xs l n m → take n m ≡ xs
line_is {l} {xs} p = rw (p.size, p.starts) (take-append_seam xs (drop (length xs) l))

-- a line leaves one possible length and one possible buffer
pub line_unique : {l xs : List ℕ} {n k : ℕ} {m o : List ℕ} → Line xs l n m → Line xs l k o → (n ≡ k) × (m ≡ o)
line_unique p q = (p.size ∙ sym q.size, p.starts ∙ sym q.starts)

-- one more byte of a text
pub byte_more : (l : List ℕ) (at : ℕ) (xs : List ℕ) (i : ℕ) (m : List ℕ) → i < length xs → m ≡ sets l at (take i xs)
    → set m (at + i) (get_or xs i 0) ≡ sets l at (take (i + 1) xs)
byte_more l at xs i m h e =
    let front : length (take i xs) ≡ i = length-take-le i xs (omega arith) in
    let next : take (i + 1) xs ≡ take i xs ++ (get_or xs i 0 ∷ []) = rw add-one (take-suc xs i 0 h) in
    ap (λ (k : List ℕ). set k (at + i) (get_or xs i 0)) e
    ∙ ap (λ (k : ℕ). set (sets l at (take i xs)) (at + k) (get_or xs i 0)) (sym front)
    ∙ sym (sets_append l at (take i xs) (get_or xs i 0 ∷ []))
    ∙ ap (sets l at) (sym next)

-- a whole text
pub whole_text : (l : List ℕ) (at : ℕ) (xs : List ℕ) (i : ℕ) (m : List ℕ) → i ≤ length xs → length xs ≤ i → m ≡ sets l at (take i xs) → Put l at xs (at + i) m
whole_text l at xs i m h g e =
    record {
      next = omega arith;
      now_is = e ∙ ap (sets l at) (take_all i xs g);
    }
