-- Over any rules that give a job's outcome: there is one possible outcome, examples shut the dummies out, and number 0 is an acceptance.
use Prim.Native.Nat.{ℕ, zero, suc, ◌<◌}
use mathlib.Core.Bool.{Bool, true, false}
use mathlib.Core.List.{List}
use mathlib.Core.Path.{◌≡◌, refl, sym, ap, ◌∙◌}
use native.Mathlib.Nat.{add-zero}
use native.Mathlib.Omega.{arith}
use borrow.Author.Tests.{eqb-true, eqb-false}
use lib.Dec.{eqb}
use lib.ListN.{length, drop, set, get_or, replicate, length-drop, length-replicate, get_or-replicate}
use lib.Seq.{drop-append_seam, get_or-drop, get_or-set_same}
use Rattle.rules.specs.Refusals.{member}
use Rattle.rules.specs.Track.{Outcome, refused, accepted}
use Rattle.rules.specs.declared.Verdict.{Verdict}
use Rattle.rules.specs.Jobs.{Job, Permits, Shut, Dummy, refuses_all, one_verdict, never_writes, invents_count, writes_past, Shown, Answered, is_accepted, is_refused, no_room}
use Rattle.rules.proofs.Members.{not_both_lem}

-- two outcomes that a contract permits are equal, verdict and table
pub unique : (rules : Job) (s t : List ℕ) (v w : Verdict) (u x : List ℕ) → Permits rules s t v u → Permits rules s t w x → (v ≡ w) × (u ≡ x)
unique rules s t v w u x p q = (ap (λ (o : Outcome). o.verdict) (p ∙ sym q), ap (λ (o : Outcome). o.table) (p ∙ sym q))

-- two lists that are the same from a place on are so at that place
same_at : (k : ℕ) (u t : List ℕ) → drop k u ≡ drop k t → get_or u k 0 ≡ get_or t k 0
same_at k u t e = sym (at u) ∙ ap (λ (l : List ℕ). get_or l 0 0) e ∙ at t
  where
    at : (l : List ℕ) → get_or (drop k l) 0 0 ≡ get_or l k 0
    at l = get_or-drop k l 0 0 ∙ ap (λ (n : ℕ). get_or l n 0) (add-zero k)

module _ (rules : Job) (e : Shown rules) (job : Job) where
  -- a verdict's number for every slice is 0, or is not
  one : (n : ℕ) → ((s t : List ℕ) → (job s t).verdict.number ≡ n) → Shut rules job
  one zero same = (e.bad, e.lent, λ p. eqb-false _ _ e.refuses (sym (ap (λ (o : Outcome). o.verdict.number) p) ∙ same e.bad e.lent))
  one (suc n) same =
      (e.good, e.lent, λ p. let f : suc n ≡ 0 = sym (same e.good e.lent) ∙ ap (λ (o : Outcome). o.verdict.number) p ∙ e.accepts in omega arith)

  -- an invented count is that of the one slice, or is not
  invented : (count : ℕ → List ℕ → ℕ)
      → ((s t : List ℕ) → (job s t).verdict.count ≡ count (length s) t)
      → (b : Bool)
      → eqb (count (length e.good) e.lent) (rules e.good e.lent).verdict.count ≡ b
      → Shut rules job
  invented count by false differs =
      (e.good, e.lent, λ p. eqb-false _ _ differs (sym (by e.good e.lent) ∙ ap (λ (o : Outcome). o.verdict.count) p))
  invented count by true equals = (
    e.other,
    e.lent,
    λ p. eqb-false _ _ e.counts
        (sym (ap (λ (o : Outcome). o.verdict.count) p) ∙ by e.other e.lent ∙ ap (λ (n : ℕ). count n e.lent) e.as_long ∙ eqb-true _ _ equals),
  )

  -- of a table that holds one more than the value past what the rules write, the value is another
  past : (s : List ℕ) (k x : ℕ) → ((t : List ℕ) → drop k (rules s t).table ≡ drop k t) → ((t : List ℕ) → (job s t).table ≡ set (rules s t).table k x)
      → Shut rules job
  past s k x left writes = (s, replicate (suc k) (suc x), λ p. differs _ (left _) (sym (writes _) ∙ ap (λ (o : Outcome). o.table) p))
    where
      differs : (u : List ℕ) → drop k u ≡ drop k (replicate (suc k) (suc x)) → set u k x ≡ u → ⊥
      differs u e q =
          let lent : List ℕ = replicate (suc k) (suc x) in
          let room : k < length u = omega (arith, length-drop k u, length-drop k lent, ap length e, length-replicate (suc k) (suc x)) in
          let kept : get_or u k 0 ≡ suc x = same_at k u lent e ∙ get_or-replicate (suc k) k (suc x) 0 (omega arith) in
          let f : x ≡ suc x = sym (get_or-set_same u k x 0 room) ∙ ap (λ (l : List ℕ). get_or l k 0) q ∙ kept in
          omega arith

  -- no dummy meets the contract
  pub shut : Dummy rules job → Shut rules job
  shut (refuses_all never) = (e.good, e.lent, λ p. never e.good e.lent (ap (λ (o : Outcome). o.verdict.number) p ∙ e.accepts))
  shut (one_verdict v same) = one v.number (λ s t. ap (λ (w : Verdict). w.number) (same s t))
  shut (never_writes kept) = (
    e.good,
    e.lent,
    λ p. eqb-false _ _ e.writes
        (ap (λ (t : List ℕ). get_or t 0 0) (sym (ap (λ (o : Outcome). o.table) p) ∙ kept e.good e.lent)),
  )
  shut (invents_count count by) = invented count by (eqb (count (length e.good) e.lent) (rules e.good e.lent).verdict.count) refl
  shut (writes_past at value left writes) = past e.good (at e.good) (value e.good) (left e.good) (writes e.good)

module _ {refusals : List ℕ} {count scale : ℕ} {numbers t : List ℕ} {o : Outcome} where
  -- where the verdict's number is 0 the outcome is an acceptance: no refusal has that number
  pub zero_accepts : member 0 refusals ≡ false → Answered refusals count scale numbers t o → o.verdict.number ≡ 0
      → o ≡ accepted count scale numbers t
  unfolding refused
  zero_accepts none (is_accepted h e) z = e
  zero_accepts none (is_refused n k place m e) z =
      let f : n ≡ 0 = sym (ap (λ (o : Outcome). o.verdict.number) e) ∙ z in absurd (not_both_lem 0 refusals (rw f at m) none)
  zero_accepts none (no_room h e) z = let f : ◌≡◌ {A = ℕ} 23 0 = sym (ap (λ (o : Outcome). o.verdict.number) e) ∙ z in absurd (omega arith)

  -- past the numbers of an acceptance the table is as it was lent
  pub left_past : Answered refusals count scale numbers t o → drop (length numbers) o.table ≡ drop (length numbers) t
  unfolding refused accepted
  left_past (is_accepted h e) =
      ap (λ (o : Outcome). drop (length numbers) o.table) e ∙ drop-append_seam numbers (drop (length numbers) t)
  left_past (is_refused n k place m e) = ap (λ (o : Outcome). drop (length numbers) o.table) e
  left_past (no_room h e) = ap (λ (o : Outcome). drop (length numbers) o.table) e
