-- Laws of rule 7 container by container: its counts, and where the first box of each entry stands.
use mathlib.Core.Path.{◌≡◌, refl, ap, ◌∙◌}
use mathlib.Core.List.{List, [], ◌∷◌, ◌++◌}
use Prim.Native.Nat.{ℕ}
use lib.ListN.{length}
use Rattle.std.specs.Result.{result_and}
use Rattle.rules.specs.Rules.{◌then◌, PlacedUpTo, Rule}
use Rattle.rules.specs.Boxes.{kids}
use Rattle.rules.specs.Counts.{seen, first_in, counts, counts_if}
use Rattle.rules.specs.declared.Entry.{Entry}
use Rattle.rules.specs.declared.Seen.{Seen}
use Rattle.boxes.specs.Stands.{WholeBox, StandsAt}
use Rattle.rules.specs.declared.Spot.{Spot}
use Rattle.counts.specs.Sights.{seen_of, Sighted, Counts}
use Rattle.counts.specs.declared.Sight.{Sight}
use Rattle.counts.specs.declared.Counted.{Counted}
use Rattle.counts.proofs.Firsts.{counts_join}
use Rattle.rules.proofs.Then.{then_assoc}
use Rattle.rules.proofs.Untracked.{then_is}
use Rattle.header.specs.Places.{Judges}

-- `moov` stands at its own start
pub at_start : {m : List ℕ} {h : ℕ} (w : WholeBox m h) → StandsAt m 0 (record { at = 0; head = h; size = length m })
at_start w = record { stands = w; place = refl }

-- in the container that stands at a place
module _ {m : List ℕ} {x : Spot} {p : ℕ} (h : StandsAt m p x) where
  -- the first box of an entry
  pub met : {e : Entry} {v : Sight} → Sighted m x.at e v → StandsAt m (first_in m p e) v.first
  met {e} g = record { stands = g.stands.0; place = g.first ∙ ap (λ (i : ℕ). first_in m i e) h.place }

  -- its counts, by other entries that come to the same
  pub judged : {a b c : Entry} {r : Counted} {q : Rule} → Counts 7 m x.at a b c r → counts 7 m p (a ∷ b ∷ c ∷ []) ≡ q
      → Judges m q r.rule
  judged {a} {b} {c} g k = record { is = g.rule ∙ ap (λ (i : ℕ). counts 7 m i (a ∷ b ∷ c ∷ [])) h.place ∙ k; low = g.low }

  -- those in a container that may be absent
  pub judged_if : {e : Entry} (w : Entry) {v : Sight} {r : Rule} → Sighted m x.at e v → r ≡ counts_if 7 m (seen_of v) (w ∷ []) → PlacedUpTo (length m) r
      → Judges m (counts_if 7 m (seen e (kids m p)) (w ∷ [])) r
  judged_if {e} w g k l =
      record {
        is = k ∙ ap (λ (s : Seen). counts_if 7 m s (w ∷ [])) g.all ∙ ap (λ (i : ℕ). counts_if 7 m (seen e (kids m i)) (w ∷ [])) h.place;
        low = l;
      }

-- one container's counts after another's
pub judged_then : {m : List ℕ} {p q r s t : Rule} → t ≡ (r then s) → Judges m p r → Judges m q s → Judges m (p then q) t
judged_then {m} {p} {q} {r} {s} e a b =
    record {
      is = e ∙ ap (λ (i : Rule). i then s) a.is ∙ ap (λ (i : Rule). p then i) b.is;
      low = rw e (then_is (PlacedUpTo (length m)) r s a.low b.low);
    }

-- counts in two walks over one container
pub judged_join : {m : List ℕ} (p : ℕ) (es fs : List Entry) {r s t : Rule} → t ≡ (r then s) → Judges m (counts 7 m p es) r → Judges m (counts 7 m p fs) s
    → Judges m (counts 7 m p (es ++ fs)) t
judged_join {m} p es fs e a b =
    let j = judged_then e a b in
    record { is = j.is ∙ counts_join 7 m p es fs; low = j.low }

-- rules that std's `and` joins
pub then_of_and : (r s : Rule) {t : Rule} → t ≡ result_and r s → t ≡ (r then s)
unfolding ◌then◌
then_of_and r s e = e

-- counts that come to the same
pub judged_as : {m : List ℕ} {p q t : Rule} → Judges m p t → p ≡ q → Judges m q t
judged_as j e = record { is = j.is ∙ e; low = j.low }

-- rules may be grouped
pub regrouped : (a b c d e f g h : Rule) →
    (((a then ((b then c) then d)) then ((e then f) then g)) then h) ≡ (a then b then c then d then e then f then g then h)
regrouped a b c d e f g h = simp then_assoc
