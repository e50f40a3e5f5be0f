-- A track that arrives in pieces (document 02, request 1): what the form answers, as one function of the joined bytes.
use Rattle.std.specs.Prelude.{ℕ, Bool, false, ◌||◌, List, length, get_or, ltb, eqb, None}
use Rattle.numbers.specs.Numbers.{when}
use Rattle.rules.specs.Kinds.{ftyp, moov, moof}
use Rattle.rules.specs.Limits.{gather_limit}
use Rattle.rules.specs.Rules.{◌then◌, on_rule, Framing, Rule}
use Rattle.rules.specs.Boxes.{Forest, end, bad, node, forest, size_of, kind_of}
use Rattle.rules.specs.Framing.{framing, framing_rule}
use Rattle.rules.specs.Order.{rule6}
use Rattle.rules.specs.Track.{rule1, header_of, chunks, fragment_count, timescale, rules_of_header, rules_of_chunks, boundaries}
use Rattle.rules.specs.declared.Path.TheVariants.{Top}
use Rattle.rules.specs.declared.Answer.{Answer}

-- the types of the top level whose boxes are gathered
unfoldable pub gathered : ℕ → Bool
gathered k = eqb k ftyp || eqb k moov || eqb k moof

-- 29: a `ftyp`, `moov` or `moof` that declares over 32,768 bytes, by its type and the size that its header says
unfoldable pub large : ℕ → ℕ → Bool
large k z = when (gathered k) (ltb gather_limit z) false

-- 29 joins the framing refusals of the top level: at one place it is tried after 3 and before 4, and what is inside such a box is not looked at
unfoldable pub with29 : List ℕ → Forest → Forest
with29 s end = end
with29 s (bad n p) = bad (when (eqb n 4) (when (large (kind_of s p) (size_of s p)) 29 4) n) p
with29 s (node x i r) = when (large x.kind x.size) (bad 29 x.at) (node x i (with29 s r))

-- 2 to 5 and 29 of a slice, in byte order
abbrev pub framed_with29 : List ℕ → Framing
framed_with29 s = framing (with29 s (forest Top s 0)) 0 0

-- every rule of a track in pieces, in the order in which they are tried; room is left out
unfoldable pub ruling_in_pieces : List ℕ → Rule
ruling_in_pieces s =
    rule1 (length s)
    then framing_rule (framed_with29 s)
    then rule6 s
    then rules_of_header s
    then rules_of_chunks s (header_of s) None (chunks s)

-- the first and the last boundary of a track
unfoldable pub first_boundary : List ℕ → ℕ
first_boundary s = get_or (boundaries s) 0 0

unfoldable pub last_boundary : List ℕ → ℕ
last_boundary s = get_or (boundaries s) (fragment_count s) 0

-- an acceptance, with the first and the last boundary
abbrev pub accepted_between : ℕ → ℕ → ℕ → ℕ → Answer
accepted_between count scale first last =
    record {
      verdict = record { number = 0; track = 0; place = 0; count = count; timescale = scale };
      first = first;
      last = last;
    }

-- a refusal: no count, no timescale, no boundary
abbrev pub refused_as : ℕ → ℕ → ℕ → Answer
refused_as n k place =
    record { verdict = record { number = n; track = k; place = place; count = 0; timescale = 0 }; first = 0; last = 0 }

-- what the form answers for a track, however it is cut
unfoldable pub answer_for : List ℕ → Answer
answer_for s =
    on_rule (ruling_in_pieces s)
    (λ _. accepted_between (fragment_count s) (timescale s) (first_boundary s) (last_boundary s))
    (λ n k p. refused_as n k p)

-- the mark of this file: its definitions unfold wherever it does
unfoldable pub computed_pieces : Unit {0}
unfolding gathered large with29 ruling_in_pieces first_boundary last_boundary answer_for
computed_pieces = tt
