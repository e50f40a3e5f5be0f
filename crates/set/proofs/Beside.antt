-- Laws of rules 25 to 28: the boundaries side by side, and the rules in their order.
use mathlib.Core.Path.{◌≡◌, refl, sym, ap, ap₂, subst, ◌∙◌}
use mathlib.Core.List.{List, [], ◌∷◌}
use mathlib.Core.Bool.{false}
use Prim.Native.Nat.{ℕ, ◌≤◌}
use native.Mathlib.Omega.{arith}
use lib.ListN.{length}
use lib.Dec.{eqb}
use borrow.Author.Tests.{ne_eqb, eqb-true}
use Rattle.rules.specs.Rules.{◌then◌, must, Rule}
use Rattle.rules.specs.Track.{header_of, chunks, fragments, first_moofs, fragment_count, timescale, end_at, last_end, end_list}
use Rattle.rules.specs.Set.{handler, hdlr_at, mdhd_at, same, rule28, rule28_from, agrees}
use Rattle.rules.specs.Course.{facts_of}
use Rattle.rules.specs.declared.Header.{Header}
use Rattle.std.specs.Prelude.{Option, None, Some, Ok, Err}
use Rattle.std.specs.Option.{option_eq}
use Rattle.std.proofs.lemmas.List.{nil_from_length}
use Rattle.rules.specs.declared.Refusal.{Refusal}
use Rattle.rules.specs.declared.TrackFacts.{TrackFacts}
use Rattle.rules.proofs.Sound.{accepted_keeps}
use Rattle.rules.proofs.Walk.{some_chunk}
use Rattle.rules.proofs.Then.{then_holds, then_breaks, then_last, must_false, must_holds}
use Rattle.track.specs.Course.{Known}
use Rattle.track.specs.Cursor.{begun_from, NextAt, IsNextFragment}
use Rattle.track.specs.declared.cursor.FragmentAt.{FragmentAt}
use Rattle.track.specs.declared.cursor.Fragments.{Fragments}
use Rattle.track.proofs.Table.{WalksOver, NextGives, over_first, over_on, next_over, moofs_length, written, known_count, known_end, known_begun, known_written}

-- an end that is set
abbrev IsSet : Option ℕ → Type 0
IsSet None = ⊥
IsSet (Some e) = Unit {0}

-- chunks behind an end lead to an end, and so does a chunk
ends_behind : (s : List ℕ) (h : Header) (e : ℕ) (xs : List ℕ) → IsSet (last_end s h (Some e) xs)
unfolding last_end
ends_behind s h e [] = tt
ends_behind s h e (x ∷ xs) = ends_behind s h (end_at s h x) xs

ends_some : (s : List ℕ) (h : Header) (xs : List ℕ) → 1 ≤ length xs → IsSet (last_end s h None xs)
unfolding last_end
ends_some s h [] l = absurd (omega arith)
ends_some s h (x ∷ xs) l = ends_behind s h (end_at s h x) xs

-- an accepted track has an end
known_set : (s : List ℕ) (f : TrackFacts) → Known s f → IsSet f.end
known_set s f k =
    subst IsSet (sym (known_end s f k)) (ends_some s (header_of s) (chunks s) (some_chunk s (accepted_keeps s k.holds).0.2))

-- rule 28 where no fragment is left
ends : (end₀ end : Option ℕ) (place : ℕ) → IsSet end₀ → IsSet end → rule28_from place (end_list end₀) (end_list end) [] ≡ must (option_eq eqb end end₀) 28 place
unfolding rule28_from
ends None end place i₀ i = absurd i₀
ends (Some a) None place i₀ i = absurd i
ends (Some a) (Some b) place i₀ i = then_last (must (eqb b a) 28 place)

-- where the fragments of a track begin from a place on, and its boundaries from there on
abbrev begun_of : List ℕ → TrackFacts → ℕ → List ℕ
begun_of s f at = begun_from s f.header at

abbrev left_of : List ℕ → TrackFacts → ℕ → List ℕ
left_of s f at = written s f.end (begun_of s f at)

-- rule 28 from here on: two places, the last fragment passed, and what is left of both tracks
abbrev rest28 : List ℕ → TrackFacts → List ℕ → TrackFacts → ℕ → ℕ → ℕ → Rule
rest28 s₀ f₀ s f at₀ at last = rule28_from last (left_of s₀ f₀ at₀) (left_of s f at) (begun_of s f at)

pub record BesideGoing (s₀ : List ℕ) (f₀ : TrackFacts) (s : List ℕ) (f : TrackFacts) (at₀ at last : ℕ) : Type 0 where
  pub rule : rule28 s₀ s ≡ rest28 s₀ f₀ s f at₀ at last
  pub same : length (begun_of s f at) ≡ length (begun_of s₀ f₀ at₀)
  pub set₀ : IsSet f₀.end
  pub set : IsSet f.end

pub beside_begins : (s₀ s : List ℕ) {f₀ f : TrackFacts} → Known s₀ f₀ → Known s f
    → fragment_count s ≡ fragment_count s₀ → BesideGoing s₀ f₀ s f 0 0 0
unfolding rule28
beside_begins s₀ s {f₀} {f} k₀ k n =
    let b₀ = known_begun s₀ f₀ k₀ in
    let b = known_begun s f k in
    record {
      rule =
          ap₂ (λ (x y : List ℕ). rule28_from 0 x y (first_moofs (fragments s))) (sym (known_written s₀ f₀ k₀)) (sym (known_written s f k))
          ∙ ap (rule28_from 0 (left_of s₀ f₀ 0) (left_of s f 0)) (sym b);
      same = ap length b ∙ moofs_length s ∙ n ∙ sym (ap length b₀ ∙ moofs_length s₀);
      set₀ = known_set s₀ f₀ k₀;
      set = known_set s f k;
    }

module _ (s₀ : List ℕ) {f₀ : TrackFacts} (s : List ℕ) {f : TrackFacts} {at₀ at last : ℕ} (g : BesideGoing s₀ f₀ s f at₀ at last) where
  -- the last boundary
  pub beside_ends : begun_of s₀ f₀ at₀ ≡ [] → rule28 s₀ s ≡ must (option_eq eqb f.end f₀.end) 28 last
  unfolding written
  beside_ends e =
      g.rule
      ∙ ap₂ (λ (x y : List ℕ). rule28_from last (written s₀ f₀.end x) (written s f.end y) y) e
      (nil_from_length (begun_of s f at) (omega (arith, g.same, ap length e)))
      ∙ ends f₀.end f.end last g.set₀ g.set

  -- where the track has no fragment more, track 0 has none
  pub beside_short : begun_of s f at ≡ [] → begun_of s₀ f₀ at₀ ≡ []
  beside_short e = nil_from_length (begun_of s₀ f₀ at₀) (omega (arith, g.same, ap length e))

  module _ {p₀ q₀ v₀ p q v : ℕ} (c₀ : NextAt s₀ f₀.header at₀ p₀ q₀ v₀) (c : NextAt s f.header at p q v) where
    -- one boundary of both
    beside_step : rule28 s₀ s ≡ (must (eqb v v₀) 28 p then rest28 s₀ f₀ s f q₀ q p)
    unfolding rule28_from written
    beside_step =
        g.rule
        ∙ ap₂ (λ (x y : List ℕ). rule28_from last (written s₀ f₀.end x) (written s f.end y) y) c₀.places c.places
        ∙ ap₂ (λ (x y : ℕ). must (eqb y x) 28 p then rest28 s₀ f₀ s f q₀ q p) (sym c₀.start) (sym c.start)

    pub beside_differs : (v ≡ v₀ → ⊥) → rule28 s₀ s ≡ must false 28 p
    unfolding must
    beside_differs e = beside_step ∙ then_breaks _ (must_false 28 p (ne_eqb v v₀ e))

    module _ {r : Rule} (m : r ≡ must (eqb v v₀) 28 p) where
      -- it is the same
      pub beside_on : r ≡ Ok tt → BesideGoing s₀ f₀ s f q₀ q p
      beside_on i =
          record {
            rule = beside_step ∙ then_holds _ (sym m ∙ i);
            same = omega (arith, g.same, ap length c.places, ap length c₀.places);
            set₀ = g.set₀;
            set = g.set;
          }

      -- it differs
      pub beside_breaks : {e : Refusal} → r ≡ Err e → Err e ≡ rule28 s₀ s
      beside_breaks i = sym (beside_step ∙ then_breaks _ (sym m ∙ i))

-- the same, by the fragments that are left of both
pub record BesideBy (s₀ : List ℕ) (f₀ : TrackFacts) (s : List ℕ) (f : TrackFacts) (fs₀ fs : Fragments) (last : ℕ) : Type 0 where
  pub over₀ : WalksOver s₀ f₀ fs₀
  pub over : WalksOver s f fs
  pub going : BesideGoing s₀ f₀ s f fs₀.at fs.at last

pub beside_by_begins : {s₀ s : List ℕ} {f₀ f : TrackFacts} → Known s₀ f₀ → Known s f → fragment_count s ≡ fragment_count s₀
    → {fs₀ gs₀ fs gs : Fragments} → gs₀ ≡ fs₀ → gs ≡ fs
    → (fs₀.bytes.now ≡ s₀) × (fs₀.header ≡ f₀.header) × (fs₀.plain ≡ f₀.plain) × (fs₀.at ≡ 0)
    → (fs.bytes.now ≡ s) × (fs.header ≡ f.header) × (fs.plain ≡ f.plain) × (fs.at ≡ 0) → BesideBy s₀ f₀ s f gs₀ gs 0
beside_by_begins {s₀} {s} {f₀} {f} k₀ k n e₀ e b₀ b =
    record {
      over₀ = over_first e₀ b₀;
      over = over_first e b;
      going =
          rw (ap (λ (x : Fragments). x.at) e₀ ∙ b₀.3, ap (λ (x : Fragments). x.at) e ∙ b.3)
          (beside_begins s₀ s k₀ k n);
    }

module _ {s₀ s : List ℕ} {f₀ f : TrackFacts} {fs₀ fs : Fragments} {last : ℕ} (w : BesideBy s₀ f₀ s f fs₀ fs last) where
  -- a boundary of both that is the same
  pub beside_by_on : {x₀ x : FragmentAt} {gs₀ gs : Fragments} → NextGives fs₀ x₀ gs₀ → NextGives fs x gs → {r : Rule} → r ≡ must (eqb x.start x₀.start) 28 x.place
      → r ≡ Ok tt → BesideBy s₀ f₀ s f gs₀ gs x.place
  beside_by_on n₀ n m i =
      record {
        over₀ = over_on w.over₀ n₀.1 n₀.2 n₀.3;
        over = over_on w.over n.1 n.2 n.3;
        going = rw (n₀.4, n.4) (beside_on s₀ s w.going (next_over w.over₀ n₀.0) (next_over w.over n.0) m i);
      }

  -- one that differs
  pub beside_by_breaks : {x₀ x : FragmentAt} → IsNextFragment (Some x₀) fs₀.bytes.now fs₀.header fs₀.at → IsNextFragment (Some x) fs.bytes.now fs.header fs.at
      → {r : Rule} → r ≡ must (eqb x.start x₀.start) 28 x.place → {e : Refusal} → r ≡ Err e → Err e ≡ rule28 s₀ s
  beside_by_breaks n₀ n m i = beside_breaks s₀ s w.going (next_over w.over₀ n₀) (next_over w.over n) m i

-- the rules in their order, by what is known of both tracks
module _ (s₀ s : List ℕ) (f₀ f : TrackFacts) (k₀ : Known s₀ f₀) (k : Known s f) where
  -- 25 to 27 by the book's names
  is_25 : must (eqb f.header.handler f₀.header.handler) 25 f.hdlr ≡ same 25 handler hdlr_at s₀ s
  unfolding same facts_of handler
  is_25 = rw (k₀.facts, k.facts)

  is_26 : must (eqb f.header.timescale f₀.header.timescale) 26 f.mdhd ≡ same 26 timescale mdhd_at s₀ s
  unfolding same facts_of timescale
  is_26 = rw (k₀.facts, k.facts)

  is_27 : must (eqb f.fragments f₀.fragments) 27 (length s) ≡ same 27 fragment_count length s₀ s
  unfolding same facts_of
  is_27 = rw (k₀.facts, k.facts)

  module _ {r₂₅ : Rule} (e₂₅ : r₂₅ ≡ must (eqb f.header.handler f₀.header.handler) 25 f.hdlr) where
    -- 25 breaks
    pub breaks_25 : {e : Refusal} → r₂₅ ≡ Err e → Err e ≡ agrees s₀ s
    unfolding agrees
    breaks_25 i = sym (then_breaks _ (sym is_25 ∙ sym e₂₅ ∙ i))

    module _ (h₂₅ : r₂₅ ≡ Ok tt) {r₂₆ : Rule} (e₂₆ : r₂₆ ≡ must (eqb f.header.timescale f₀.header.timescale) 26 f.mdhd) where
      -- it holds
      from_26 : agrees s₀ s ≡ (same 26 timescale mdhd_at s₀ s then same 27 fragment_count length s₀ s then rule28 s₀ s)
      unfolding agrees
      from_26 = then_holds _ (sym is_25 ∙ sym e₂₅ ∙ h₂₅)

      -- 26 breaks
      pub breaks_26 : {e : Refusal} → r₂₆ ≡ Err e → Err e ≡ agrees s₀ s
      breaks_26 i = sym (from_26 ∙ then_breaks _ (sym is_26 ∙ sym e₂₆ ∙ i))

      module _ (h₂₆ : r₂₆ ≡ Ok tt) {r₂₇ : Rule} (e₂₇ : r₂₇ ≡ must (eqb f.fragments f₀.fragments) 27 (length s)) where
        -- both hold
        from_27 : agrees s₀ s ≡ (same 27 fragment_count length s₀ s then rule28 s₀ s)
        from_27 = from_26 ∙ then_holds _ (sym is_26 ∙ sym e₂₆ ∙ h₂₆)

        -- 27 breaks
        pub breaks_27 : {e : Refusal} → r₂₇ ≡ Err e → Err e ≡ agrees s₀ s
        breaks_27 i = sym (from_27 ∙ then_breaks _ (sym is_27 ∙ sym e₂₇ ∙ i))

        -- all three hold
        pub only_28 : r₂₇ ≡ Ok tt → rule28 s₀ s ≡ agrees s₀ s
        only_28 i = sym (from_27 ∙ then_holds _ (sym is_27 ∙ sym e₂₇ ∙ i))

  pub same_count : {r₂₇ : Rule} → r₂₇ ≡ must (eqb f.fragments f₀.fragments) 27 (length s) → r₂₇ ≡ Ok tt → fragment_count s ≡ fragment_count s₀
  same_count e i =
      sym (known_count s f k) ∙ eqb-true f.fragments f₀.fragments (must_holds _ 27 (length s) (sym e ∙ i)) ∙ known_count s₀ f₀ k₀
