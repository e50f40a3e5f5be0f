-- Laws of the readers of bodies: rule 8 by a body's form, and what a reader's answer says.
use mathlib.Core.Path.{◌≡◌, refl, sym, ◌∙◌}
use mathlib.Core.List.{List}
use mathlib.Core.Bool.{Bool, true, false, true≢false}
use Prim.Native.Nat.{ℕ, ◌+◌, ◌-◌, ◌≤◌}
use native.Mathlib.Omega.{arith}
use lib.Dec.{eqb}
use borrow.Author.Tests.{leb-true, eqb-true, eqb-false}
use Rattle.rules.specs.Fields.{Form, either, plain, at_least, version, field, timed, has_form, body}
use Rattle.rules.specs.Rules.{breaks}
use Rattle.std.specs.Prelude.{Option, None, Some, Ok}
use Rattle.rules.specs.declared.Defaults.{Defaults}
use Rattle.rules.proofs.Then.{must_true, must_false}
use Rattle.boxes.specs.Stands.{Stands}
use Rattle.rules.specs.declared.Spot.{Spot}
use Rattle.fields.specs.Versions.{SaysVersion}
use Rattle.fields.specs.declared.Version.{Version}
use Rattle.fields.proofs.Forms.{least_is, plain_not}
use Rattle.rules.specs.Header.{trex_defaults}
use Rattle.header.specs.Bodies.{SaysMvhd}

-- rule 8 of a body that has its form, and of one that has not
module _ (w : Form) (m : List ℕ) (at : ℕ) {r : Bool} (h : r ≡ has_form w m at) where
  pub good_body : r ≡ true → body 8 w m at ≡ Ok tt
  unfolding body
  good_body e = must_true 8 at (sym h ∙ e)

  pub bad : r ≡ false → body 8 w m at ≡ breaks 8 0 at
  unfolding body
  bad e = must_false 8 at (sym h ∙ e)

-- a body of two versions
module _ (m : List ℕ) (b : Spot) (a d : ℕ) {v : Option Version} (h : SaysVersion v m b a d) where
  pub as_zero : v ≡ Some Version.Zero → (body 8 (either a d) m b.at ≡ Ok tt) × (version m b.at ≡ 0) × (b.size + 8 ≡ b.head + a)
  as_zero e = let k : SaysVersion (Some Version.Zero) m b a d = rw e at h in (good_body _ _ _ refl k.0, k.1, k.2)

  pub as_one : v ≡ Some Version.One → (body 8 (either a d) m b.at ≡ Ok tt) × (version m b.at ≡ 1) × (b.size + 8 ≡ b.head + d)
  as_one e = let k : SaysVersion (Some Version.One) m b a d = rw e at h in (good_body _ _ _ refl k.0, k.1, k.2)

  pub as_wrong : v ≡ None → body 8 (either a d) m b.at ≡ breaks 8 0 b.at
  as_wrong e = let k : SaysVersion None m b a d = rw e at h in bad _ _ _ refl k

-- the number behind its two times
module _ (m : List ℕ) (at : ℕ) {x : ℕ} where
  pub timed_zero : version m at ≡ 0 → x ≡ field m at 12 → x ≡ timed m at
  unfolding timed
  timed_zero e k = rw e k

  pub timed_one : version m at ≡ 1 → x ≡ field m at 20 → x ≡ timed m at
  unfolding timed
  timed_one e k = rw e k

-- what stands inside a body that has its form
module _ (m : List ℕ) (b : Spot) (st : Stands m b) {r : Bool} where
  pub least_fits : (least k : ℕ) → 12 + k ≤ least → r ≡ has_form (at_least least) m b.at → r ≡ true → b.head + k + 4 ≤ b.size
  least_fits least k l h e =
      omega (arith, leb-true (least - 8) (b.size - b.head) (sym (least_is m b st least (omega arith)) ∙ sym h ∙ e), st.holds)

  pub plain_fits : (a : ℕ) → 8 ≤ a → r ≡ has_form (plain a) m b.at → r ≡ true → b.size + 8 ≡ b.head + a
  plain_fits a l h e = by (eqb (b.size - b.head) (a - 8)) refl
    where
      by : (t : Bool) → eqb (b.size - b.head) (a - 8) ≡ t → b.size + 8 ≡ b.head + a
      by true q = omega (arith, eqb-true (b.size - b.head) (a - 8) q, st.holds)
      by false q = absurd (true≢false (sym e ∙ h ∙ plain_not m b st a l (eqb-false (b.size - b.head) (a - 8) q)))

-- the defaults of `trex`
pub defaults_are : (m : List ℕ) (at : ℕ) {d : Defaults} → d.duration ≡ field m at 12 → d.size ≡ field m at 16 → d.flags ≡ field m at 20 → d ≡ trex_defaults m at
unfolding trex_defaults
defaults_are m at a b e = rw (← a, ← b, ← e)

-- `mvhd`, by its version
pub mvhd_says : (m : List ℕ) (b : Spot) (v : Option Version) → SaysVersion v m b 108 120 → SaysMvhd v m b.at
mvhd_says m b (Some Version.Zero) k = good_body _ _ _ refl k.0
mvhd_says m b (Some Version.One) k = good_body _ _ _ refl k.0
mvhd_says m b None k = bad _ _ _ refl k
