-- The switching set: tracks in order, then rules 25 to 28 for track 1, for track 2, and so on, then room.
use Rattle.std.specs.Prelude.{ℕ, ◌+◌, List, [], ◌∷◌, length, drop, eqb, Ok}
use Rattle.rules.specs.Rules.{◌then◌, must, of_track, on_rule, Rule}
use Rattle.rules.specs.Header.{places_in}
use Rattle.rules.specs.Track.{rule1, ruling, moov_at, moov_of, header_of, fragments, first_moofs, fragment_count}
use Rattle.rules.specs.Track.{timescale, boundaries, Outcome, room_of, refused}
use Rattle.rules.specs.Bundle.{rule24, tracks}

-- where the track's `hdlr` and `mdhd` stand
unfoldable pub hdlr_at : List ℕ → ℕ
hdlr_at s = moov_at s + (places_in (moov_of s)).hdlr

unfoldable pub mdhd_at : List ℕ → ℕ
mdhd_at s = moov_at s + (places_in (moov_of s)).mdhd

-- the handler of a track
unfoldable pub handler : List ℕ → ℕ
handler s = (header_of s).handler

-- rule n: a value is track 0's; place, where the track has it
unfoldable pub same : ℕ → (List ℕ → ℕ) → (List ℕ → ℕ) → List ℕ → List ℕ → Rule
same n value place s₀ s = must (eqb (value s) (value s₀)) n (place s)

-- the first place, or another where there is none
abbrev pub first_or : ℕ → List ℕ → ℕ
first_or p [] = p
first_or p (x ∷ xs) = x

-- 28 over boundaries of track 0, boundaries of the track, and the places of its fragments from here on; the last one's stands in for a missing one.
-- It is tried behind 27: of two tracks with one number of fragments, so with one number of boundaries.
unfoldable pub rule28_from : ℕ → List ℕ → List ℕ → List ℕ → Rule
rule28_from last [] ys ps = Ok tt
rule28_from last (x ∷ xs) ys ps =
    must (eqb (first_or 0 ys) x) 28 (first_or last ps) then rule28_from (first_or last ps) xs (drop 1 ys) (drop 1 ps)

-- 28: a boundary differs from track 0; place, the first `moof` of fragment k, of the last fragment if k is F
unfoldable pub rule28 : List ℕ → List ℕ → Rule
rule28 s₀ s = rule28_from 0 (boundaries s₀) (boundaries s) (first_moofs (fragments s))

-- a track beside track 0: handler (25), timescale (26), number of fragments (27), boundaries (28)
unfoldable pub agrees : List ℕ → List ℕ → Rule
agrees s₀ s =
    same 25 handler hdlr_at s₀ s
    then same 26 timescale mdhd_at s₀ s
    then same 27 fragment_count length s₀ s
    then rule28 s₀ s

-- each track by itself, from the k-th on
unfoldable pub rulings : ℕ → List (List ℕ) → Rule
rulings k [] = Ok tt
rulings k (s ∷ ss) = of_track k (ruling s) then rulings (k + 1) ss

-- each track beside track 0, from the k-th on
unfoldable pub agree : List ℕ → ℕ → List (List ℕ) → Rule
agree s₀ k [] = Ok tt
agree s₀ k (s ∷ ss) = of_track k (agrees s₀ s) then agree s₀ (k + 1) ss

-- track 0 of a set
abbrev pub track0 : List (List ℕ) → List ℕ
track0 [] = []
track0 (s ∷ ss) = s

-- every rule of a set of tracks but room
unfoldable pub set_ruling : List (List ℕ) → Rule
set_ruling ss = rulings 0 ss then agree (track0 ss) 1 (drop 1 ss)

-- every rule of a bundle but room, in the order in which they are tried: framed whole first, then the set
unfoldable pub bundle_ruling : List ℕ → Rule
bundle_ruling b = rule1 (length b) then rule24 b then set_ruling (tracks b)

-- the set job: every rule, then room
unfoldable pub set_outcome : List ℕ → List ℕ → Outcome
set_outcome b t =
    on_rule (bundle_ruling b) (λ _. room_of (track0 (tracks b)) t) (λ n k p. refused n k p t)

-- the mark of this file: its definitions unfold wherever it does
unfoldable pub computed_set : Unit {0}
unfolding hdlr_at mdhd_at handler same rule28_from rule28 agrees rulings agree set_ruling bundle_ruling set_outcome
computed_set = tt
