-- What the cursor over a track's fragments answers.
use Rattle.std.specs.Prelude.{ℕ, ◌≤◌, ◌<◌, ◌≡◌, Bool, true, List, [], ◌∷◌, length, Option, Some, None}
use Rattle.rules.specs.Track.{chunks_from, start_at, sync_at, begun_among, first_moofs}
use Rattle.rules.specs.Course.{each_sync}
use Rattle.rules.specs.declared.Header.{Header}
use Rattle.track.specs.declared.cursor.FragmentAt.{FragmentAt}

-- where fragments begin from a place on, behind others
unfoldable pub begun_from : List ℕ → Header → ℕ → List ℕ
begun_from s h at = first_moofs (begun_among (sync_at s h) (chunks_from s at))

-- where it is so said, the first sample of each chunk from a place on is sync
abbrev pub EachSync : Bool → List ℕ → Header → ℕ → Type 0
EachSync plain s h at = plain ≡ true → each_sync (sync_at s h) (chunks_from s at) ≡ true

-- from a place on the next fragment begins at p with its start v, and those after it from q on
pub record NextAt (s : List ℕ) (h : Header) (at p q v : ℕ) : Type 0 where
  pub places : begun_from s h at ≡ p ∷ begun_from s h q
  pub start : v ≡ start_at s p
  pub past : at < q
  pub inner : q ≤ length s
  pub sync : (plain : Bool) → EachSync plain s h at → EachSync plain s h q

-- the next fragment from a place on, or none
abbrev pub IsNextFragment : Option FragmentAt → List ℕ → Header → ℕ → Type 0
IsNextFragment (Some f) s h at = NextAt s h at f.place f.next f.start
IsNextFragment None s h at = begun_from s h at ≡ []
