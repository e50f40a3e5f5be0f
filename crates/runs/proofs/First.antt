-- Laws of the first sample of runs: that of the first run that has one.
use Rattle.std.proofs.Common.{◌≡◌, ℕ, ◌+◌, List, [], ◌∷◌, refl, ap, ◌∙◌, eq-eqb, ne_eqb}
use Rattle.numbers.specs.Numbers.{be3, be4}
use Rattle.rules.specs.Fields.{box_flags, field}
use Rattle.rules.specs.Chunk.{count_of, first_flags_of, first_flags}
use Rattle.rules.specs.declared.Defaults.{Defaults}
use Rattle.rules.specs.declared.Spot.{Spot}
use Rattle.boxes.specs.Stands.{Stands}

-- the flags of a box that stands there, and the samples of a run, by what is read behind the header
module _ (m : List ℕ) (b : Spot) (st : Stands m b) {n : ℕ} where
  pub flags_read : n ≡ be3 m (b.at + b.head + 1) → n ≡ box_flags m b.at
  unfolding box_flags
  flags_read e = rw st.head e

  pub count_read : n ≡ be4 m (b.at + b.head + 4) → n ≡ count_of m b.at
  unfolding count_of field
  count_read e = rw st.head e

-- all runs have the first sample of those left: none is left, the next is empty, or it has a sample
module _ (m : List ℕ) (d : Defaults) (all left : List ℕ) (from : first_flags m d all ≡ first_flags m d left) where
  pub first_none : left ≡ [] → first_flags m d all ≡ 0
  unfolding first_flags
  first_none e = from ∙ ap (first_flags m d) e

  module _ (r : ℕ) (rest : List ℕ) (e : left ≡ r ∷ rest) where
    pub first_later : count_of m r ≡ 0 → first_flags m d all ≡ first_flags m d rest
    unfolding first_flags
    first_later n = from ∙ ap (first_flags m d) e ∙ rw (eq-eqb (count_of m r) 0 n)

    pub first_here : (count_of m r ≡ 0 → ⊥) → first_flags m d all ≡ first_flags_of m d r
    unfolding first_flags
    first_here n = from ∙ ap (first_flags m d) e ∙ rw (ne_eqb (count_of m r) 0 n)

-- of the defaults its flags take the flags alone
pub first_by_flags : (m : List ℕ) (a b : Defaults) → a.flags ≡ b.flags → (rs : List ℕ) → first_flags m a rs ≡ first_flags m b rs
unfolding first_flags first_flags_of
first_by_flags m a b e [] = refl
first_by_flags m a b e (r ∷ rs) = rw (first_by_flags m a b e rs, e)
