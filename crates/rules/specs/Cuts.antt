-- Examples of a track in pieces, by computation: U accepted; 29 at both sides of its bound and at its place in the order, and what comes later over what
-- is pending.
use Rattle.std.specs.Prelude.{ℕ, List, [], ◌∷◌, ◌++◌, map, ◌≡◌, refl}
use Rattle.rules.specs.Kinds.{ftyp, moov, moof, mdat}
use Rattle.rules.specs.Bytes.{in4, in8, zeros, boxed, track_u}
use Rattle.rules.specs.Computed.{computed}
use Rattle.rules.specs.Examples.{free}
use Rattle.rules.specs.Pieces.{ruling_in_pieces, accepted_between, answer_for}
use Rattle.rules.specs.Rules.{Rule, breaks}

-- a `ftyp` and a `moov` with nothing in it, 24 bytes: 7 at the `moov` is pending
unfoldable pub bare : List ℕ
bare = boxed ftyp (zeros 8) ++ boxed moov []

-- the bytes of a track, and the rule that it breaks first
unfoldable pub cuts : List (List ℕ × Rule)
cuts =
    -- 32,769 bytes declared and not there: 29 before 4; 32,768: 4; other types: 4
    (in4 32769 ++ in4 ftyp, breaks 29 0 0)
    ∷ (in4 32769 ++ in4 moov, breaks 29 0 0)
    ∷ (in4 32769 ++ in4 moof, breaks 29 0 0)
    ∷ (in4 32768 ++ in4 moof, breaks 4 0 0)
    ∷ (in4 32769 ++ in4 mdat, breaks 4 0 0)
    ∷ (in4 32769 ++ in4 free, breaks 4 0 0)
    -- the same by the long header, whose size is counted as it is; and cut off before its size is whole: 2
    ∷ (in4 1 ++ in4 moov ++ in8 32769, breaks 29 0 0)
    ∷ (in4 1 ++ in4 moov ++ in8 32768, breaks 4 0 0)
    ∷ (in4 1 ++ in4 moov ++ zeros 7, breaks 2 0 0)
    -- a size below the header: 3
    ∷ (in4 7 ++ in4 moof, breaks 3 0 0)
    -- 6 is pending: a stray byte, 2; a second `ftyp` that is too large, 29 there
    ∷ (boxed free [] ++ zeros 1, breaks 2 0 8)
    ∷ (boxed free [] ++ in4 32769 ++ in4 ftyp, breaks 29 0 8)
    -- 7 is pending: the boxes run out, 6; a second `moov`, 6 there; a stray byte, 2; a `moof` that is too large, 29
    ∷ (bare, breaks 6 0 24)
    ∷ (bare ++ boxed moov [], breaks 6 0 24)
    ∷ (bare ++ zeros 1, breaks 2 0 24)
    ∷ (bare ++ in4 32769 ++ in4 moof, breaks 29 0 24)
    ∷ []

-- U in pieces: two fragments, from the first start to the last chunk's end
pub chunks_in_pieces : answer_for track_u ≡ accepted_between 2 90000 0 540000
unfolding computed
chunks_in_pieces = refl

pub cut_examples : map (λ e. ruling_in_pieces e.0) cuts ≡ map (λ e. e.1) cuts
unfolding computed bare cuts
cut_examples = refl
