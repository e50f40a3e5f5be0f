-- Rule 6: the order of the top level, as an automaton over its boxes.
use Rattle.std.specs.Prelude.{ℕ, List, [], ◌∷◌, Bool, ◌||◌, length, eqb, Option, None, Some, Ok}
use Rattle.numbers.specs.Numbers.{when}
use Rattle.rules.specs.Kinds.{ftyp, moov, moof, mdat}
use Rattle.rules.specs.Boxes.{Box, boxes}
use Rattle.rules.specs.declared.Stage.{Stage}
use Rattle.rules.specs.declared.Stage.TheVariants.{Start, Typed, Headed, Halved, Paired}
use Rattle.rules.specs.Rules.{Rule, breaks}

-- the four types that the order speaks of; any other is passed over
unfoldable pub ordered : ℕ → Bool
ordered k = eqb k ftyp || eqb k moov || eqb k moof || eqb k mdat

-- the wanted type leads on, another of the four is wrong, any other box is passed over
unfoldable pub awaits : ℕ → Stage → Stage → ℕ → Option Stage
awaits w next same k = when (eqb k w) (Some next) (when (ordered k) None (Some same))

-- the stage after a box of type k: the first box is `ftyp`; then `moov`; then `moof`, whose next box is its `mdat`, one or more times
unfoldable pub step6 : Stage → ℕ → Option Stage
step6 Start k = when (eqb k ftyp) (Some Typed) None
step6 Typed k = awaits moov Headed Typed k
step6 Headed k = awaits moof Halved Headed k
step6 Halved k = when (eqb k mdat) (Some Paired) None
step6 Paired k = awaits moof Halved Paired k

-- where the boxes may run out: after a pair
abbrev pub complete : Stage → Rule → Rule
complete Start r = r
complete Typed r = r
complete Headed r = r
complete Halved r = r
complete Paired r = Ok tt

-- a case by a step
abbrev pub on_stepped : {A : Type 0} → Option Stage → (Stage → A) → A → A
on_stepped (Some g) a b = a g
on_stepped None a b = b

-- 6 from a stage on: place, the first box after which no continuation could be good; the slice's length if the boxes run out
unfoldable pub order_from : ℕ → Stage → List Box → Rule
order_from len g [] = complete g (breaks 6 0 len)
order_from len g (x ∷ xs) = on_stepped (step6 g x.kind) (λ h. order_from len h xs) (breaks 6 0 x.at)

-- 6 of a slice
unfoldable pub rule6 : List ℕ → Rule
rule6 s = order_from (length s) Start (boxes s 0)

-- the mark of this file: its definitions unfold wherever it does
unfoldable pub computed_order : Unit {0}
unfolding ordered awaits step6 order_from rule6
computed_order = tt
