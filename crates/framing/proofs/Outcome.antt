-- Laws of the index job's outcome: at each refusal, and where everything holds.
use mathlib.Core.Path.{◌≡◌, refl, sym, ap, ◌∙◌}
use mathlib.Core.Bool.{Bool, true, false}
use mathlib.Core.List.{List, ◌++◌}
use Prim.Native.Nat.{ℕ, ◌+◌, ◌*◌, ◌/◌, ◌≤◌}
use native.Mathlib.Nat.{zero-add}
use native.Mathlib.Omega.{arith}
use lib.ListN.{length, drop}
use lib.Seq.{sets, sets-eq}
use lib.Dec.{leb}
use borrow.Author.Tests.{leb-true, leb-false, lt-ltb, le-ltb}
use Rattle.numbers.specs.Numbers.{when}
use Rattle.rules.specs.Limits.{byte_limit}
use Rattle.rules.specs.Rules.{Rule, must, on_rule, Framing}
use Rattle.rules.specs.Boxes.{forest}
use Rattle.rules.specs.Framing.{framed, on_framing, rows}
use Rattle.rules.specs.Jobs.{Permits}
use Rattle.rules.specs.Track.{rule1, Outcome, refused, accepted, room_for, index, index_outcome}
use Rattle.rules.specs.declared.Path.TheVariants.{Top}
use Rattle.rules.specs.declared.Misframed.{Misframed}
use Rattle.rules.specs.declared.Refusal.{Refusal}
use Rattle.rules.proofs.Then.{must_holds}
use Rattle.rules.proofs.Forest.{never}
use Rattle.std.specs.Prelude.{Result, Ok, Err, IsErrAnd}
use Rattle.framing.specs.Steps.{indexed}
use Rattle.framing.proofs.Steps.{passed_up}
use Rattle.framing.proofs.Rows.{rows_length}

-- a test that fails: what it was, and its refusal
abbrev refusal_in : Rule → Refusal
refusal_in (Ok u) = record { number = 0; track = 0; place = 0 }
refusal_in (Err e) = e

pub must_refuses : (b : Bool) (n p : ℕ) {e : Refusal} → must b n p ≡ Err e → (b ≡ false) × (e ≡ record { number = n; track = 0; place = p })
unfolding must
must_refuses true n p q = never (cc)
must_refuses false n p q = (refl, sym (ap refusal_in q))

module _ (s t : List ℕ) where
  -- what is left behind rule 1
  abbrev behind : Rule → Outcome
  behind r = on_rule r (λ _. on_framing (framed s) (λ n. room_for n 0 (index s) t) (λ k p. refused k 0 p t)) (λ k _ p. refused k 0 p t)

  -- 1
  pub too_long :
      {r : Rule} {e : Refusal} (v : Result ℕ Refusal) → r ≡ must (leb (length s) byte_limit) 1 0 → r ≡ Err e → IsErrAnd v (λ y. y ≡ e) →
      Permits index_outcome s t (indexed v) t
  unfolding index_outcome rule1 refused
  too_long v g h d =
      let e = (must_refuses (leb (length s) byte_limit) 1 0 (sym g ∙ h)).1 in
      rw (passed_up v d, e) (sym (ap behind (sym g ∙ h) ∙ rw e refl))

  -- four numbers a box
  pub long : {f : Framing} {n : ℕ} → f ≡ framed s → f ≡ Ok n → length (rows (forest Top s 0) 0 0) ≡ 4 * n
  long {f} {n} e g = omega (arith, rows_length (forest Top s 0) 0 0 0 n (sym e ∙ g))

  -- behind rule 1
  module _ {r : Rule} {u : _} (a : r ≡ must (leb (length s) byte_limit) 1 0) (b : r ≡ Ok u) where
    framed_by : (f : Framing) → framed s ≡ f → index_outcome s t ≡ on_framing f (λ n. room_for n 0 (index s) t) (λ k p. refused k 0 p t)
    unfolding index_outcome rule1
    framed_by f e = ap behind (sym a ∙ b) ∙ ap (λ f. on_framing f (λ n. room_for n 0 (index s) t) (λ k p. refused k 0 p t)) e

    -- 2 to 5
    pub misframed :
        {f : Framing} {x : Misframed} (v : Result ℕ Refusal) → f ≡ framed s → f ≡ Err x →
        IsErrAnd v (λ y. y ≡ record { number = x.number; track = 0; place = x.place }) → Permits index_outcome s t (indexed v) t
    unfolding refused
    misframed v e g d = rw (passed_up v d) (sym (framed_by _ (sym e ∙ g)))

    module _ {f : Framing} {n : ℕ} (e : f ≡ framed s) (g : f ≡ Ok n) where
      module _ {q : Rule} (o : q ≡ must (leb n (length t / 4)) 23 0) where
        -- 23
        pub no_room : {x : Refusal} (v : Result ℕ Refusal) → q ≡ Err x → IsErrAnd v (λ y. y ≡ x) → Permits index_outcome s t (indexed v) t
        unfolding index room_for refused
        no_room v h d =
            let m = must_refuses (leb n (length t / 4)) 23 0 (sym o ∙ h) in
            let less = leb-false n (length t / 4) m.0 in
            rw (passed_up v d, m.1)
            (sym (framed_by (Ok n) (sym e ∙ g)
            ∙ ap (λ b. when b (refused 23 0 0 t) (accepted n 0 (index s) t)) (lt-ltb (length t) (length (index s)) (omega (arith, long e g, less)))))

        module _ {w : _} (h : q ≡ Ok w) where
          fits : n ≤ length t / 4
          fits = leb-true n (length t / 4) (must_holds (leb n (length t / 4)) 23 0 (sym o ∙ h))

          -- the index has room
          pub room_there : 0 + length (rows (forest Top s 0) 0 0) ≤ length t
          room_there = omega (arith, long e g, fits)

          -- 0
          pub good_index : (u : List ℕ) → u ≡ sets t 0 (rows (forest Top s 0) 0 0) → Permits index_outcome s t (indexed (Ok n)) u
          unfolding index room_for accepted
          good_index u k =
              sym (framed_by (Ok n) (sym e ∙ g)
              ∙ ap (λ b. when b (refused 23 0 0 t) (accepted n 0 (index s) t)) (le-ltb (length t) (length (index s)) (omega (arith, room_there)))
              ∙ ap (λ x. record { verdict = indexed (Ok n); table = x }) (sym written))
            where
              written : u ≡ index s ++ drop (length (index s)) t
              written = k ∙ sets-eq (index s) t 0 (omega (arith, room_there)) ∙ ap (λ k. index s ++ drop k t) (zero-add (length (index s)))
