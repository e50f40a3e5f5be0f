-- What comes later decides: a value is broken, and more bytes follow. Examples by computation.
use Rattle.std.specs.Prelude.{ℕ, List, [], ◌∷◌, ◌++◌, map, ◌≡◌, refl, Ok}
use Rattle.rules.specs.Kinds.{moov, moof, mdat}
use Rattle.rules.specs.Bytes.{in4, in8, boxed, header, chunk}
use Rattle.rules.specs.Boxes.{end, node}
use Rattle.rules.specs.Framing.{framing}
use Rattle.rules.specs.Examples.{free}
use Rattle.rules.specs.Computed.{computed}
use Rattle.rules.specs.Pieces.{with29, ruling_in_pieces, refused_as, answer_for}
use Rattle.rules.specs.declared.Answer.{Answer}
use Rattle.rules.specs.Rules.{Framing, Rule, breaks, unframed}

-- T with its second `tfdt` 180001: 768 bytes in which one value is wrong
unfoldable pub late_t : List ℕ
late_t = header ++ chunk 0 108 30 ++ chunk 180001 108 30

-- what may follow them, and what is answered for both together
unfoldable pub behind_late : List (List ℕ × Answer)
behind_late =
    -- nothing; a box that no rule names: 19 stands
    ([], refused_as 19 0 678)
    ∷ (boxed free [], refused_as 19 0 678)
    -- a stray byte: 2 wins
    ∷ (0 ∷ [], refused_as 2 0 768)
    -- a second `moov`, and a `moof` without its `mdat`: 6 wins
    ∷ (boxed moov [], refused_as 6 0 768)
    ∷ (boxed moof [], refused_as 6 0 776)
    -- a `moof` that declares 32,769 bytes: 29 wins, and over 4 at the same place
    ∷ (in4 32769 ++ in4 moof, refused_as 29 0 768)
    ∷ []

pub later_wins : map (λ e. answer_for (late_t ++ e.0)) behind_late ≡ map (λ e. e.1) behind_late
unfolding computed late_t behind_late
later_wins = refl

-- the edges of 29, and what follows an order that is broken: small tracks, and the rule that each breaks first
unfoldable pub edges : List (List ℕ × Rule)
edges =
    -- inside a container there is no such limit: 4 there
    (boxed moov (in4 32769 ++ in4 moof), breaks 4 0 8)
    -- the largest size: of `mdat` 4, of `moof` 29
    ∷ (in4 1 ++ in4 mdat ++ in8 18446744073709551615, breaks 4 0 0)
    ∷ (in4 1 ++ in4 moof ++ in8 18446744073709551615, breaks 29 0 0)
    -- 6 is pending: a size below its header, 3; a box that ends beyond the track, 4
    ∷ (boxed free [] ++ in4 7 ++ in4 free, breaks 3 0 8)
    ∷ (boxed free [] ++ in4 9 ++ in4 free, breaks 4 0 8)
    ∷ []

pub edge_examples : map (λ e. ruling_in_pieces e.0) edges ≡ map (λ e. e.1) edges
unfolding computed edges
edge_examples = refl

-- a box of the top level that is there whole, of a type and a size: what 29 makes of it
abbrev pub there_whole : ℕ → ℕ → ℕ → Framing
there_whole n k z = framing (with29 [] (node (record { at = 0; inner = 8; size = z; kind = k }) end end)) 0 n

-- 32,768 bytes are allowed, and 32,769 of other types; 5 comes before 29
unfoldable pub wholes : List (Framing × Framing)
wholes =
    (there_whole 0 moof 32768, Ok 1)
    ∷ (there_whole 0 moof 32769, unframed 29 0)
    ∷ (there_whole 0 mdat 32769, Ok 1)
    ∷ (there_whole 65535 moov 32769, unframed 29 0)
    ∷ (there_whole 65536 moov 32769, unframed 5 0)
    ∷ []

pub whole_examples : map (λ e. e.0) wholes ≡ map (λ e. e.1) wholes
unfolding computed wholes
whole_examples = refl
