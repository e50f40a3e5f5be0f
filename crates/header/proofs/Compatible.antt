-- Laws of `ftyp`: its form by the bytes behind its header, and its compatible brands, one after the other.
use mathlib.Core.Path.{◌≡◌, refl, sym, ◌∙◌, ap}
use mathlib.Core.List.{List, ◌++◌}
use mathlib.Core.Bool.{Bool, true, false, ◌||◌, true≢false}
use Prim.Native.Nat.{ℕ, suc, ◌+◌, ◌-◌, ◌*◌, ◌/◌, ◌%◌, ◌<◌, ◌≤◌}
use native.Mathlib.Decide.{le_ind}
use native.Mathlib.Numerals.{add-one}
use native.Mathlib.Omega.{arith}
use lib.ListN.{length, take, drop, length-append, length-drop, get_or-append}
use lib.Seq.{drop-drop, drop-append_seam}
use Rattle.std.proofs.lemmas.List.{take_all}
use borrow.Author.Tests.{le-leb, lt-leb, eq-eqb, ne_eqb}
use Rattle.numbers.specs.Numbers.{be4}
use Rattle.numbers.proofs.Bounds.{reads4, in_drop}
use Rattle.rules.specs.Fields.{short_size, field, has_form}
use Rattle.rules.specs.Header.{is_brand, branded, brands, ftyp_in}
use Rattle.std.specs.Prelude.{None, Some}
use Rattle.std.proofs.lemmas.Bool.{or_from, or_left, or_right}
use Rattle.boxes.specs.Stands.{WholeBox}

-- all bytes from a place on
pub whole_rest : (n : ℕ) (f : List ℕ) → take (length f - n) (drop n f) ≡ drop n f
whole_rest n f = take_all _ (drop n f) (omega (arith, length-drop n f))

-- the brands before the bytes that are left are none of the two
abbrev pub NoneBefore : List ℕ → ℕ → List ℕ → Type 0
NoneBefore f h rest = (i : ℕ) × (rest ≡ drop (h + 8 + 4 * i) f) × (branded f i ≡ false)

module _ (f : List ℕ) (h : ℕ) (w : WholeBox f h) where
  pub none_yet : branded f 0 ≡ false
  unfolding branded
  none_yet = refl

  pub none_before : {rest : List ℕ} → rest ≡ drop (h + 8) f → NoneBefore f h rest
  unfolding branded
  none_before e = (0, e ∙ ap (λ (n : ℕ). drop n f) (omega arith), refl)

  -- one more brand, at its place
  module _ (i : ℕ) (part rest : List ℕ) {left : List ℕ} {x : ℕ} {b : Bool} (at : left ≡ drop (h + 8 + 4 * i) f) (cut : left ≡ part ++ rest) (four : length part ≡ 4) (e : x ≡ be4 part 0) (t : b ≡ is_brand x) where
    front : be4 (part ++ rest) 0 ≡ be4 part 0
    front = reads4.agree (part ++ rest) part 0 0 (λ k l. get_or-append part rest 0 (0 + k) (omega (arith, four, l)))

    same : field f 0 (8 + 4 * i) ≡ x
    unfolding field
    same = ap (be4 f) (omega (arith, w.head)) ∙ sym (in_drop reads4 (h + 8 + 4 * i) f 0) ∙ ap (λ (l : List ℕ). be4 l 0) (sym at ∙ cut) ∙ front ∙ sym e

    rest_is : rest ≡ drop (h + 8 + 4 * (i + 1)) f
    rest_is =
        sym (ap (λ (n : ℕ). drop n (part ++ rest)) (sym four) ∙ drop-append_seam part rest)
        ∙ ap (drop 4) (sym cut ∙ at) ∙ drop-drop 4 (h + 8 + 4 * i) f ∙ ap (λ (n : ℕ). drop n f) (omega arith)

    pub none_more : b ≡ false → branded f i ≡ false → NoneBefore f h rest
    unfolding branded
    none_more p n = (i + 1, rest_is, rw (add-one, same) (or_from _ _ n (sym t ∙ p)))

    pub one_more : b ≡ true → branded f (suc i) ≡ true
    unfolding branded
    one_more y = rw same (or_right (branded f i) _ (sym t ∙ y))

  more : (i n : ℕ) → branded f i ≡ true → i ≤ n → branded f n ≡ true
  unfolding branded
  more i n e = le_ind (λ (k : ℕ). branded f k ≡ true) e (λ k l b. or_left (branded f k) _ b) n

  -- the size with the short header, by the bytes behind the header
  short : short_size f 0 ≡ length f - h + 8
  unfolding short_size
  short = rw (w.head, w.size)

  -- the forms that are wrong
  pub too_small : length f - h < 8 → None ≡ ftyp_in f
  unfolding ftyp_in has_form
  too_small l = rw (lt-leb 16 (short_size f 0) (omega (arith, short)))

  pub no_fours : ((length f - h - 8) % 4 ≡ 0 → ⊥) → 8 ≤ length f - h → None ≡ ftyp_in f
  unfolding ftyp_in has_form
  no_fours n l =
      rw (le-leb 16 (short_size f 0) (omega (arith, short)), ne_eqb ((short_size f 0 - 16) % 4) 0 (λ e. n (ap (λ (k : ℕ). k % 4) (omega (arith, short)) ∙ e)))

  -- the right form, with or without one of the two
  module _ (l : 8 ≤ length f - h) (r : (length f - h - 8) % 4 ≡ 0) where
    formed : ftyp_in f ≡ Some (branded f ((length f - h - 8) / 4))
    unfolding ftyp_in has_form brands
    formed =
        rw (le-leb 16 (short_size f 0) (omega (arith, short)), eq-eqb ((short_size f 0 - 16) % 4) 0 (ap (λ (k : ℕ). k % 4) (omega (arith, short)) ∙ r), w.head, w.size)

    pub found : (i : ℕ) (part rest : List ℕ) → drop (h + 8 + 4 * i) f ≡ part ++ rest → length part ≡ 4 → branded f (suc i) ≡ true → Some true ≡ ftyp_in f
    found i part rest cut four y =
        sym (formed ∙ ap Some (more (suc i) _ y (omega (arith, ap length cut, length-drop (h + 8 + 4 * i) f, length-append part rest, four))))

    pub found_none : {rest : List ℕ} → NoneBefore f h rest → length rest < 4 → Some false ≡ ftyp_in f
    found_none (i, at, n) short = sym (formed ∙ ap Some (go (branded f ((length f - h - 8) / 4)) refl))
      where
        past : (length f - h - 8) / 4 ≤ i
        past = omega (arith, ap length at, length-drop (h + 8 + 4 * i) f, short, r)

        go : (b : Bool) → branded f ((length f - h - 8) / 4) ≡ b → branded f ((length f - h - 8) / 4) ≡ false
        go true p = absurd (true≢false (sym (more _ i p past) ∙ n))
        go false p = p

-- what `read_ftyp` goes by
pub ruleset compatible = (too_small, no_fours)
