-- Laws of the cursor over fragments.
use mathlib.Core.Path.{◌≡◌, refl, sym, ap, ◌∙◌}
use mathlib.Core.Bool.{Bool, true, false, ◌&&◌, false≢true}
use mathlib.Core.List.{List, [], ◌∷◌}
use Prim.Native.Nat.{ℕ, ◌+◌, ◌≤◌}
use native.Mathlib.Omega.{arith}
use Rattle.rules.specs.Kinds.{moof}
use Rattle.rules.specs.Boxes.{boxes, whole}
use Rattle.rules.specs.Chunk.{start_of, sync_in}
use Rattle.rules.specs.Course.{each_sync}
use Rattle.rules.specs.Track.{chunks_from, start_at, sync_at, begun_among}
use Rattle.rules.specs.declared.Header.{Header}
use Rattle.rules.proofs.Forest.{places_end}
use Rattle.boxes.specs.Siblings.{FirstOf}
use Rattle.boxes.specs.declared.Sibling.{Sibling}
use Rattle.boxes.proofs.Walks.{first_hit, first_miss}
use Rattle.track.specs.Cursor.{begun_from, EachSync, NextAt}

-- what is left from a place on, by the chunks from there on
module _ (s : List ℕ) (h : Header) where
  -- no chunk
  begun_end : (at : ℕ) → chunks_from s at ≡ [] → begun_from s h at ≡ []
  unfolding begun_from begun_among
  begun_end at e = rw e

  -- the same chunks
  begun_same : (a b : ℕ) → chunks_from s a ≡ chunks_from s b → begun_from s h a ≡ begun_from s h b
  unfolding begun_from
  begun_same a b e = rw e

  sync_same : (a b : ℕ) → chunks_from s a ≡ chunks_from s b → (plain : Bool) → EachSync plain s h a → EachSync plain s h b
  sync_same a b e plain g p = ap (each_sync (sync_at s h)) (sym e) ∙ g p

  -- a chunk that begins a fragment, and one that does not
  module _ (a p q : ℕ) (e : chunks_from s a ≡ p ∷ chunks_from s q) where
    begun_here : sync_at s h p ≡ true → begun_from s h a ≡ p ∷ begun_from s h q
    unfolding begun_from begun_among
    begun_here y = rw (e, y)

    begun_later : sync_at s h p ≡ false → begun_from s h a ≡ begun_from s h q
    unfolding begun_from begun_among
    begun_later n = rw (e, n)

    each : each_sync (sync_at s h) (chunks_from s a) ≡ (sync_at s h p && each_sync (sync_at s h) (chunks_from s q))
    unfolding each_sync
    each = rw e

    sync_here : (plain : Bool) → EachSync plain s h a → plain ≡ true → sync_at s h p ≡ true
    sync_here plain g t = by (sync_at s h p) (each_sync (sync_at s h) (chunks_from s q)) (sym each ∙ g t)
      where
        by : (a b : Bool) → (a && b) ≡ true → a ≡ true
        by true b y = refl
        by false b y = y

    sync_later : (plain : Bool) → EachSync plain s h a → EachSync plain s h q
    sync_later plain g t = by (sync_at s h p) (each_sync (sync_at s h) (chunks_from s q)) (sym each ∙ g t)
      where
        by : (a b : Bool) → (a && b) ≡ true → b ≡ true
        by true b y = y
        by false b y = absurd (false≢true y)

-- no fragment begins between two places
pub record Skipped (s : List ℕ) (h : Header) (at here : ℕ) : Type 0 where
  pub from : at ≤ here
  pub places : begun_from s h at ≡ begun_from s h here
  pub sync : (plain : Bool) → EachSync plain s h at → EachSync plain s h here

pub skipped_none : (s : List ℕ) (h : Header) (at : ℕ) → Skipped s h at at
skipped_none s h at = record { from = omega arith; places = refl; sync = λ plain g. g }

module _ {s : List ℕ} {h : Header} {at here : ℕ} (k : Skipped s h at here) where
  -- no box more
  pub skipped_all : boxes s here ≡ [] → begun_from s h at ≡ []
  unfolding chunks_from
  skipped_all e = k.places ∙ begun_end s h here (places_end s here moof e)

  module _ {q : ℕ} {b : Sibling} (f : FirstOf s here q b) where
    goes_on : at ≤ q
    goes_on = omega (arith, k.from, f.place, f.next)

    -- a box of another type
    pub skipped_box : (b.kind ≡ moof → ⊥) → Skipped s h at q
    unfolding chunks_from
    skipped_box d =
        let same = first_miss f d in
        record {
          from = goes_on;
          places = k.places ∙ begun_same s h here q same;
          sync = λ plain g. sync_same s h here q same plain (k.sync plain g);
        }

    -- a chunk
    module _ (y : b.kind ≡ moof) (m : List ℕ) (own : m ≡ whole s b.spot.at) where
      chunk_here : chunks_from s here ≡ b.spot.at ∷ chunks_from s q
      unfolding chunks_from
      chunk_here = first_hit f y

      sync_is : {v : Bool} → v ≡ sync_in m h.defaults → sync_at s h b.spot.at ≡ v
      unfolding sync_at
      sync_is i = sym (i ∙ ap (λ (l : List ℕ). sync_in l h.defaults) own)

      -- where each begins a fragment, it does
      pub plain_sync : (plain : Bool) → EachSync plain s h at → plain ≡ true → sync_in m h.defaults ≡ true
      unfolding sync_at
      plain_sync plain g p =
          ap (λ (l : List ℕ). sync_in l h.defaults) own ∙ sync_here s h here b.spot.at q chunk_here plain (k.sync plain g) p

      pub skipped_chunk : {v : Bool} → v ≡ sync_in m h.defaults → v ≡ false → Skipped s h at q
      skipped_chunk i n =
          record {
            from = goes_on;
            places = k.places ∙ begun_later s h here b.spot.at q chunk_here (sync_is i ∙ n);
            sync = λ plain g. sync_later s h here b.spot.at q chunk_here plain (k.sync plain g);
          }

      -- a chunk that begins a fragment, with its start
      pub next_at : {v : Bool} {p t : ℕ} → v ≡ sync_in m h.defaults → v ≡ true → t ≡ start_of m → p ≡ b.spot.at + b.spot.size → NextAt s h at b.spot.at p t
      unfolding start_at
      next_at i o u e =
          rw (e, ← f.next)
          (record {
            places = k.places ∙ begun_here s h here b.spot.at q chunk_here (sync_is i ∙ o);
            start = u ∙ ap start_of own;
            past = omega (arith, k.from, f.place, f.next, f.stands.low, f.stands.holds);
            inner = omega (arith, f.next, f.stands.fits);
            sync = λ plain g. sync_later s h here b.spot.at q chunk_here plain (k.sync plain g);
          })
