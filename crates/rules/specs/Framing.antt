-- Rules 2 to 5, box by box in byte order, and the index.
use Rattle.std.specs.Prelude.{ℕ, ◌+◌, List, [], ◌∷◌, ◌++◌, leb, Ok, Err}
use Rattle.numbers.specs.Numbers.{when}
use Rattle.rules.specs.Limits.{box_limit}
use Rattle.rules.specs.Boxes.{Forest, end, bad, node, forest}
use Rattle.rules.specs.declared.Path.TheVariants.{Top}
use Rattle.rules.specs.Rules.{Framing, Rule, breaks, unframed}

-- a case by how a run is framed
abbrev pub on_framing : {A : Type 0} → Framing → (ℕ → A) → (ℕ → ℕ → A) → A
on_framing (Ok n) a b = a n
on_framing (Err e) a b = b e.number e.place

-- 5: bytes remain after 65,536 boxes; at one place it is tried before 2, 3 and 4
unfoldable pub rule5 : ℕ → ℕ → Framing → Framing
rule5 n place r = when (leb box_limit n) (unframed 5 place) r

-- 2 to 5 over a forest whose slice starts at a base, with n boxes before it: the boxes in all, or the first refusal
unfoldable pub framing : Forest → ℕ → ℕ → Framing
framing end base n = Ok n
framing (bad k p) base n = rule5 n (base + p) (unframed k (base + p))
framing (node x i r) base n =
    rule5 n (base + x.at)
    (on_framing (framing i (base + x.at + x.inner) (n + 1)) (λ m. framing r base m) (λ k p. unframed k p))

-- a framing as a rule
abbrev pub framing_rule : Framing → Rule
framing_rule (Ok n) = Ok tt
framing_rule (Err e) = breaks e.number 0 e.place

-- the index: four numbers a box, parents before children, in byte order: offset, whole size, type, depth
unfoldable pub rows : Forest → ℕ → ℕ → List ℕ
rows end base depth = []
rows (bad k p) base depth = []
rows (node x i r) base depth =
    (base + x.at) ∷ x.size ∷ x.kind ∷ depth ∷ (rows i (base + x.at + x.inner) (depth + 1) ++ rows r base depth)

-- the framing of a whole slice, and its rule
abbrev pub framed : List ℕ → Framing
framed s = framing (forest Top s 0) 0 0

-- 2 to 5 of a slice
abbrev pub rules_of_framing : List ℕ → Rule
rules_of_framing s = framing_rule (framed s)

-- the mark of this file: its definitions unfold wherever it does
unfoldable pub computed_framing : Unit {0}
unfolding rule5 framing rows
computed_framing = tt
