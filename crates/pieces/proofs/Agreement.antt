-- The track check over a whole slice and in pieces agree, but where 29 is given.
use mathlib.Core.Path.{◌≡◌, refl, sym, ap}
use mathlib.Core.Bool.{Bool, true, false, false≢true}
use mathlib.Core.List.{List}
use mathlib.Core.Logic.{◌⊎◌, inl, inr}
use Prim.Native.Nat.{ℕ, suc, ◌+◌}
use native.Mathlib.Omega.{arith}
use lib.ListN.{length, drop, get_or-append}
use lib.Dec.{leb, ltb, eqb}
use borrow.Author.Tests.{eqb-true}
use Rattle.numbers.specs.Numbers.{when}
use Rattle.rules.specs.Limits.{box_limit}
use Rattle.rules.specs.Refusals.{member}
use Rattle.rules.specs.Rules.{◌then◌, Framing, Rule, breaks, unframed}
use Rattle.rules.specs.Boxes.{Forest, end, bad, node, forest, size_of, kind_of}
use Rattle.rules.specs.Framing.{on_framing, rule5, framing, framed, framing_rule}
use Rattle.rules.specs.Track.{rule1, fragment_count, ruling, boundaries, refused, accepted, room_for, track_outcome}
use Rattle.rules.specs.Pieces.{large, with29, framed_with29, ruling_in_pieces, first_boundary, last_boundary, answer_for}
use Rattle.std.specs.Prelude.{Ok, Err}
use Rattle.rules.specs.declared.Path.TheVariants.{Top}
use Rattle.rules.proofs.NumbersOfTrack.{n_ruling}
use Rattle.rules.proofs.Boundaries.{a_fragment, boundaries_length}
use Rattle.pieces.specs.Agreeing.{Agrees}

-- a framing is another's, or breaks under 29
abbrev SameOr29 : Framing → Framing → Type 0
SameOr29 a b = (a ≡ b) ⊎ ((p : ℕ) × (a ≡ unframed 29 p))

-- 5 before both
after5 : (n p : ℕ) (a b : Framing) → SameOr29 a b → SameOr29 (rule5 n p a) (rule5 n p b)
unfolding rule5
after5 n p a b h = by (leb box_limit n) h
  where
    by : (t : Bool) → SameOr29 a b → SameOr29 (when t (unframed 5 p) a) (when t (unframed 5 p) b)
    by true h = inl refl
    by false h = h

-- with 29 a forest is framed as without it, or breaks under 29
same_or_29 : (s : List ℕ) (f : Forest) (b n : ℕ) → SameOr29 (framing (with29 s f) b n) (framing f b n)
unfolding with29 framing
same_or_29 s end b n = inl refl
same_or_29 s (bad k p) b n = after5 n (b + p) _ _ (by (eqb k 4) (large (kind_of s p) (size_of s p)) refl)
  where
    by : (t u : Bool) → eqb k 4 ≡ t → SameOr29 (unframed (when t (when u 29 4) k) (b + p)) (unframed k (b + p))
    by true true e = inr (b + p, refl)
    by true false e = inl (ap (λ (i : ℕ). unframed i (b + p)) (sym (eqb-true k 4 e)))
    by false u e = inl refl
same_or_29 s (node x i r) b n = by (large x.kind x.size) (same_or_29 s r b)
  where
    inner : (q : Framing) → ((m : ℕ) → SameOr29 (framing (with29 s r) b m) (framing r b m))
        → SameOr29 (on_framing q (λ m. framing (with29 s r) b m) (λ k p. unframed k p)) (on_framing q (λ m. framing r b m) (λ k p. unframed k p))
    inner (Ok m) more = more m
    inner (Err e) more = inl refl

    by : (t : Bool) → ((m : ℕ) → SameOr29 (framing (with29 s r) b m) (framing r b m))
        → SameOr29 (framing (when t (bad 29 x.at) (node x i (with29 s r))) b n) (framing (node x i r) b n)
    by true more = after5 n (b + x.at) _ _ (inr (b + x.at, refl))
    by false more = after5 n (b + x.at) _ _ (inner (framing i (b + x.at + x.inner) (n + 1)) more)

-- so the rules say in pieces what they say of the whole, or 29 is given
pub ruled_or_29 : (s : List ℕ) → (ruling_in_pieces s ≡ ruling s) ⊎ ((p : ℕ) × (ruling_in_pieces s ≡ breaks 29 0 p))
unfolding ruling_in_pieces ruling ◌then◌
ruled_or_29 s = by (rule1 (length s)) (framed_with29 s) _ (same_or_29 s (forest Top s 0) 0 0)
  where
    by : (r : Rule) (q : Framing) (after : Rule) → SameOr29 q (framed s)
        → ((r then framing_rule q then after) ≡ (r then framing_rule (framed s) then after))
        ⊎ ((p : ℕ) × ((r then framing_rule q then after) ≡ breaks 29 0 p))
    by (Err e) q after h = inl refl
    by (Ok u) q after (inl e) = inl (ap (λ (f : Framing). framing_rule f then after) e)
    by (Ok u) q after (inr h) = inr (h.0, ap (λ (f : Framing). framing_rule f then after) h.1)

module _ (s t : List ℕ) (not29 : (answer_for s).verdict.number ≡ 29 → ⊥) (not23 : (track_outcome s t).verdict.number ≡ 23 → ⊥) where
  -- where 29 is not given they say the same
  ruled : ruling_in_pieces s ≡ ruling s
  unfolding answer_for
  ruled = by (ruled_or_29 s)
    where
      by : (ruling_in_pieces s ≡ ruling s) ⊎ ((p : ℕ) × (ruling_in_pieces s ≡ breaks 29 0 p)) → ruling_in_pieces s ≡ ruling s
      by (inl e) = e
      by (inr h) = absurd (not29 (rw h.1))

  -- where every rule holds the boundaries stand at the front of the table
  holds : ruling s ≡ Ok tt → Agrees s t
  unfolding answer_for first_boundary last_boundary track_outcome room_for accepted refused
  holds h =
      let many : length (boundaries s) ≡ suc (fragment_count s) = boundaries_length s (a_fragment s h) in
      let fits : ltb (length t) (length (boundaries s)) ≡ false = by (ltb (length t) (length (boundaries s))) refl in
      let after : List ℕ = drop (length (boundaries s)) t in
      record {
        verdict = rw (ruled, h, fits);
        first = λ _. rw (ruled, h, fits) (get_or-append (boundaries s) after 0 0 (omega arith));
        last = λ _. rw (ruled, h, fits) (get_or-append (boundaries s) after 0 (fragment_count s) (omega arith));
        none = λ n. absurd (n (rw (ruled, h)));
      }
    where
      by : (o : Bool) → ltb (length t) (length (boundaries s)) ≡ o → o ≡ false
      by true e = absurd (not23 (rw (h, e)))
      by false e = refl

  -- where a rule breaks nothing is written
  broken : (n k p : ℕ) → ruling s ≡ breaks n k p → Agrees s t
  unfolding answer_for track_outcome refused member
  broken n k p h =
      record {
        verdict = rw (ruled, h);
        first = λ z. absurd (some (rw (ruled, h) at z));
        last = λ z. absurd (some (rw (ruled, h) at z));
        none = λ _. (rw (ruled, h), rw (ruled, h));
      }
    where
      some : n ≡ 0 → ⊥
      some z = false≢true (rw z at ((n_ruling s).told n k p h))

  -- whole and in pieces agree where 29 is not given, with any table for which 23 is not
  pub agrees_whole : Agrees s t
  agrees_whole = by (ruling s) refl
    where
      by : (r : Rule) → ruling s ≡ r → Agrees s t
      by (Ok u) h = holds h
      by (Err e) h = broken e.number e.track e.place h
