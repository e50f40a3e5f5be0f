-- Laws of the index: how long it is, and how it is written box by box.
use mathlib.Core.Path.{◌≡◌, refl, sym, ap, ◌∙◌, subst}
use mathlib.Core.List.{List, [], ◌∷◌, ◌++◌}
use mathlib.Core.Bool.{Bool, true, false}
use Prim.Native.Nat.{ℕ, suc, ◌+◌, ◌*◌, ◌≤◌}
use native.Mathlib.Numerals.{add-one, add-two, add-three, add-four}
use native.Mathlib.Omega.{arith}
use lib.ListN.{length, set, length-append}
use lib.Seq.{sets}
use lib.Dec.{leb}
use Rattle.numbers.specs.Numbers.{when}
use Rattle.rules.specs.Limits.{box_limit}
use Rattle.rules.specs.Boxes.{look, forest, Forest, end, bad, node}
use Rattle.rules.specs.Framing.{rule5, framing, on_framing, rows}
use Rattle.rules.proofs.Laws.{sets_append}
use Rattle.rules.proofs.Forest.{never, FoundBox, forest_nothing, forest_short, forest_small, forest_beyond, forest_box}
use Rattle.rules.specs.declared.Path.{Path}
use Rattle.rules.specs.declared.Look.{Look}
use Rattle.rules.specs.declared.Look.TheVariants.{Nothing, Short, Small, Beyond, Good}
use Rattle.rules.specs.Rules.{Framing, unframed}
use Rattle.std.specs.Prelude.{Option, Some, Ok, Err}
use Rattle.framing.specs.declared.Wrote.{Wrote}
use Rattle.framing.specs.Steps.{Writes}
use Rattle.framing.proofs.Steps.{box_at}

-- four stores
pub sets_four : (t : List ℕ) (i a b c d : ℕ) → set (set (set (set t i a) (i + 1) b) (i + 2) c) (i + 3) d ≡ sets t i (a ∷ b ∷ c ∷ d ∷ [])
sets_four t i a b c d = rw (add-one i, add-two i, add-three i)

-- four numbers a box: what is framed with n boxes before it and m after it has m - n of them
pub rows_length : (f : Forest) (base n d m : ℕ) → framing f base n ≡ Ok m → 4 * n + length (rows f base d) ≡ 4 * m
unfolding framing rule5 rows
rows_length end base n d m e = let q : n ≡ m = cc in omega arith
rows_length (bad k p) base n d m e = by (leb box_limit n) e
  where
    by : (b : Bool) → when b (unframed 5 (base + p)) (unframed k (base + p)) ≡ Ok m → 4 * n + 0 ≡ 4 * m
    by true e = never (cc)
    by false e = never (cc)
rows_length (node x i r) base n d m e = by (leb box_limit n) (framing i inner (n + 1)) refl e (rows_length i inner (n + 1) (d + 1)) (λ k. rows_length r base k d m)
  where
    inner : ℕ
    inner = base + x.at + x.inner

    by :
        (b : Bool) (f : Framing) → framing i inner (n + 1) ≡ f →
        when b (unframed 5 (base + x.at)) (on_framing f (λ m. framing r base m) (λ k p. unframed k p)) ≡ Ok m →
        ((k : ℕ) → framing i inner (n + 1) ≡ Ok k → 4 * (n + 1) + length (rows i inner (d + 1)) ≡ 4 * k) →
        ((k : ℕ) → framing r base k ≡ Ok m → 4 * k + length (rows r base d) ≡ 4 * m) →
        4 * n + suc (suc (suc (suc (length (rows i inner (d + 1) ++ rows r base d))))) ≡ 4 * m
    by true f p e u v = never (cc)
    by false (Ok k) p e u v = omega (arith, u k p, v k e, length-append (rows i inner (d + 1)) (rows r base d))
    by false (Err b) p e u v = never (cc)

-- a writing whose variant is known
pub known :
    {r q : Option Wrote} (s : List ℕ) (at : ℕ) (path : Path) (base d row : ℕ) (t u : List ℕ) → r ≡ q →
    Writes r s at path base d row t u → Writes q s at path base d row t u
known s at path base d row t u e h = subst (λ (x : Option Wrote). Writes x s at path base d row t u) e h

module _ (path : Path) (s : List ℕ) (at base d : ℕ) where
  -- where no box is framed there is nothing to write
  pub rows_none : {l : Look} → l ≡ look s at → ((h z k : ℕ) → l ≡ Good h z k → ⊥) → rows (forest path s at) base d ≡ []
  unfolding rows
  rows_none {l} e o = by l (sym e) o
    where
      by : (l : Look) → look s at ≡ l → ((h z k : ℕ) → l ≡ Good h z k → ⊥) → rows (forest path s at) base d ≡ []
      by Nothing e o = ap (λ f. rows f base d) (forest_nothing path s at e)
      by Short e o = ap (λ f. rows f base d) (forest_short path s at e)
      by Small e o = ap (λ f. rows f base d) (forest_small path s at e)
      by Beyond e o = ap (λ f. rows f base d) (forest_beyond path s at e)
      by (Good x z k) e o = absurd (o x z k refl)

  -- where the index has room, a framed box's four numbers have it
  pub room :
      {l : Look} {h z k : ℕ} (row : ℕ) (t : List ℕ) → l ≡ look s at → l ≡ Good h z k →
      row + length (rows (forest path s at) base d) ≤ length t → row + 4 ≤ length t
  unfolding rows
  room {l} {h} {z} {k} row t e g r = omega (arith, ap (λ f. length (rows f base d)) (forest_box path s at h z k (sym e ∙ g)))

  module _ {h z k : ℕ} {i : Forest} (f : FoundBox s at h z k) (e : forest path s at ≡ box_at path s at h z k i) where
    -- a box's index: its four numbers, what is inside it, what follows it
    rows_box : rows (forest path s at) base d ≡ (base + at) ∷ z ∷ k ∷ d ∷ (rows i (base + at + h) (d + 1) ++ rows (forest path s (at + z)) base d)
    unfolding rows
    rows_box = ap (λ f. rows f base d) e

    pub rows_count : length (rows (forest path s at) base d) ≡ 4 + length (rows i (base + at + h) (d + 1)) + length (rows (forest path s (at + z)) base d)
    rows_count =
        ap length rows_box
        ∙ (let n = length-append (rows i (base + at + h) (d + 1)) (rows (forest path s (at + z)) base d) in omega (arith, n))

    -- past a box: its four numbers are written, then what is inside it
    pub writes_box :
        (row m : ℕ) (t u v : List ℕ) → u ≡ sets t row ((base + at) ∷ z ∷ k ∷ d ∷ []) →
        v ≡ sets u (row + 4) (rows i (base + at + h) (d + 1)) → m ≡ row + 4 + length (rows i (base + at + h) (d + 1)) →
        Writes (Some (record { next = at + z; row = m })) s at path base d row t v
    writes_box row m t u v p q w = (
      ap (sets t row) rows_box
          ∙ sets_append four (suc (suc (suc (suc row)))) inner rest
          ∙ ap (λ x. sets x (suc (suc (suc (suc row))) + length inner) rest) table
          ∙ ap (λ n. sets v n rest) place,
      omega (arith, rows_count, w),
      omega (arith, f),
      omega (arith, f),
    )
      where
        four : List ℕ
        four = sets t row ((base + at) ∷ z ∷ k ∷ d ∷ [])

        inner : List ℕ
        inner = rows i (base + at + h) (d + 1)

        rest : List ℕ
        rest = rows (forest path s (at + z)) base d

        table : sets four (suc (suc (suc (suc row)))) inner ≡ v
        table = ap (λ n. sets four n inner) (sym (add-four row)) ∙ ap (λ x. sets x (row + 4) inner) (sym p) ∙ sym q

        place : suc (suc (suc (suc row))) + length inner ≡ m
        place = omega (arith, w)

  -- past a leaf: nothing is inside it
  pub writes_leaf :
      {h z k : ℕ} (row : ℕ) (t u : List ℕ) → FoundBox s at h z k → forest path s at ≡ box_at path s at h z k end →
      u ≡ sets t row ((base + at) ∷ z ∷ k ∷ d ∷ []) → Writes (Some (record { next = at + z; row = row + 4 })) s at path base d row t u
  unfolding rows
  writes_leaf row t u f e p = writes_box f e row (row + 4) t u u p refl (omega arith)
