-- Laws of the forms of a box that stands in a slice, by the bytes behind its header.
use mathlib.Core.Path.{◌≡◌, refl, sym, ◌∙◌}
use mathlib.Core.List.{List}
use mathlib.Core.Bool.{Bool, true, false}
use Prim.Native.Nat.{ℕ, ◌+◌, ◌-◌, ◌≤◌}
use native.Mathlib.Omega.{arith}
use lib.Dec.{eqb, leb}
use borrow.Author.Tests.{eq-eqb, ne_eqb, eqb-true, leb-true, leb-false}
use Rattle.numbers.specs.Numbers.{byte, when}
use Rattle.rules.specs.Fields.{short_size, version, either, plain, at_least, has_form}
use Rattle.boxes.specs.Stands.{Stands}
use Rattle.rules.specs.declared.Spot.{Spot}
use Rattle.std.specs.Prelude.{Option, None, Some}
use Rattle.fields.specs.Versions.{SaysVersion}
use Rattle.fields.specs.declared.Version.{Version}

module _ (s : List ℕ) (b : Spot) (st : Stands s b) where
  -- the size with the short header, by the bytes behind the header
  pub short_is : short_size s b.at ≡ b.size - b.head + 8
  unfolding short_size
  short_is = rw (st.head, st.size)

  -- it is a size, and it is not
  pub of_size : (a : ℕ) → 8 ≤ a → b.size - b.head ≡ a - 8 → eqb (short_size s b.at) a ≡ true
  of_size a l e = eq-eqb (short_size s b.at) a (omega (arith, short_is, e, l))

  pub not_of_size : (a : ℕ) → 8 ≤ a → (b.size - b.head ≡ a - 8 → ⊥) → eqb (short_size s b.at) a ≡ false
  not_of_size a l n = ne_eqb (short_size s b.at) a (λ e. n (omega (arith, short_is, e, l)))

  -- the version, by the byte behind the header
  pub version_is : version s b.at ≡ byte s (b.at + b.head)
  unfolding version
  version_is = rw st.head

  -- version 0 with its size, version 1 with its size, and neither
  pub is_zero : (a c : ℕ) → 8 ≤ a → b.size - b.head ≡ a - 8 → byte s (b.at + b.head) ≡ 0 → has_form (either a c) s b.at ≡ true
  unfolding has_form
  is_zero a c l e v = rw (eq-eqb (version s b.at) 0 (version_is ∙ v), of_size a l e)

  pub is_one : (a c : ℕ) → 8 ≤ c → b.size - b.head ≡ c - 8 → byte s (b.at + b.head) ≡ 1 → has_form (either a c) s b.at ≡ true
  unfolding has_form
  is_one a c l e v =
      rw (ne_eqb (version s b.at) 0 (λ z. omega (arith, z, version_is, v)), eq-eqb (version s b.at) 1 (version_is ∙ v), of_size c l e)

  pub is_neither : (a c : ℕ) → 8 ≤ a → 8 ≤ c → (b.size - b.head ≡ a - 8 → byte s (b.at + b.head) ≡ 0 → ⊥)
      → (b.size - b.head ≡ c - 8 → byte s (b.at + b.head) ≡ 1 → ⊥) → has_form (either a c) s b.at ≡ false
  unfolding has_form
  is_neither a c l k f g = go (eqb (version s b.at) 0) (eqb (version s b.at) 1) refl refl
    where
      go : (t u : Bool) → eqb (version s b.at) 0 ≡ t → eqb (version s b.at) 1 ≡ u
          → when t (eqb (short_size s b.at) a) (when u (eqb (short_size s b.at) c) false) ≡ false
      go true u p q = not_of_size a l (λ e. f e (sym version_is ∙ eqb-true (version s b.at) 0 p))
      go false true p q = not_of_size c k (λ e. g e (sym version_is ∙ eqb-true (version s b.at) 1 q))
      go false false p q = refl

  -- a body whose two versions have one size
  pub has_version : (a : ℕ) {r : Option Version} {v : Version} → SaysVersion r s b a a → r ≡ Some v
      → (has_form (either a a) s b.at ≡ true) × (b.size + 8 ≡ b.head + a)
  has_version a {v = v} k e = go v (rw e at k)
    where
      go : (v : Version) → SaysVersion (Some v) s b a a → (has_form (either a a) s b.at ≡ true) × (b.size + 8 ≡ b.head + a)
      go Version.Zero h = (h.0, h.2)
      go Version.One h = (h.0, h.2)

  -- version 0 and a size
  pub plain_is : (a : ℕ) → 8 ≤ a → b.size - b.head ≡ a - 8 → has_form (plain a) s b.at ≡ eqb (byte s (b.at + b.head)) 0
  unfolding has_form
  plain_is a l e = rw (version_is, of_size a l e) (go (eqb (byte s (b.at + b.head)) 0))
    where
      go : (t : Bool) → when t true false ≡ t
      go true = refl
      go false = refl

  pub plain_not : (a : ℕ) → 8 ≤ a → (b.size - b.head ≡ a - 8 → ⊥) → has_form (plain a) s b.at ≡ false
  unfolding has_form
  plain_not a l n = rw (not_of_size a l n) (go (eqb (version s b.at) 0))
    where
      go : (t : Bool) → when t false false ≡ false
      go true = refl
      go false = refl

  -- at least a size
  pub least_is : (a : ℕ) → 8 ≤ a → has_form (at_least a) s b.at ≡ leb (a - 8) (b.size - b.head)
  unfolding has_form
  least_is a l = rw short_is (go (leb a (b.size - b.head + 8)) (leb (a - 8) (b.size - b.head)) refl refl)
    where
      go : (t u : Bool) → leb a (b.size - b.head + 8) ≡ t → leb (a - 8) (b.size - b.head) ≡ u → t ≡ u
      go true true p q = refl
      go false false p q = refl
      go true false p q = let z : ⊥ = omega (arith, leb-true a (b.size - b.head + 8) p, leb-false (a - 8) (b.size - b.head) q) in absurd z
      go false true p q = let z : ⊥ = omega (arith, leb-true (a - 8) (b.size - b.head) q, leb-false a (b.size - b.head + 8) p) in absurd z

-- a body of two versions, by what its reader answered
module _ (s : List ℕ) (b : Spot) (a c : ℕ) {v : Option Version} (h : SaysVersion v s b a c) where
  pub as_zero : v ≡ Some Version.Zero → (has_form (either a c) s b.at ≡ true) × (version s b.at ≡ 0) × (b.size + 8 ≡ b.head + a)
  as_zero e = rw e at h

  pub as_one : v ≡ Some Version.One → (has_form (either a c) s b.at ≡ true) × (version s b.at ≡ 1) × (b.size + 8 ≡ b.head + c)
  as_one e = rw e at h

  pub as_none : v ≡ None → has_form (either a c) s b.at ≡ false
  as_none e = rw e at h
