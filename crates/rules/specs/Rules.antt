-- How rules are put together: the first broken one, in the order in which they are written.
use Rattle.std.specs.Prelude.{ℕ, ◌+◌, ◌≤◌, Bool, true, false, Result, Ok, Err}
use Rattle.rules.specs.declared.Refusal.{Refusal}
use Rattle.rules.specs.declared.Misframed.{Misframed}
use Rattle.rules.specs.declared.Reached.{Reached}
use Rattle.rules.specs.declared.TrackFacts.{TrackFacts}

-- what a rule, or a list of rules in their order, says: all hold, or the first that breaks with its number, its track and its place
abbrev pub Rule : Type 0
Rule = Result (Unit {0}) Refusal

-- what the rules of a track come to: all hold, with what is known of it, or the first that breaks
abbrev pub Judged : Type 0
Judged = Result TrackFacts Refusal

-- what a track has come to after some of its boxes: a stage that they reached, or the place where the order breaks
abbrev pub Course : Type 0
Course = Result Reached ℕ

-- how a run of boxes is framed: whole, with the number of boxes so far, or broken at a place
abbrev pub Framing : Type 0
Framing = Result ℕ Misframed

-- a rule breaks, by its number, its track and its place; a framing is broken, by its number and its place
abbrev pub breaks : {A : Type 0} → ℕ → ℕ → ℕ → Result A Refusal
breaks n t p = Err (record { number = n; track = t; place = p })

abbrev pub unframed : ℕ → ℕ → Framing
unframed n p = Err (record { number = n; place = p })

-- the first rule if it breaks, else the second
infixr 20 ◌then◌
unfoldable pub ◌then◌ : Rule → Rule → Rule
◌then◌ (Ok u) r = r
◌then◌ (Err e) r = Err e

-- a test that must hold, with the number and the place of its refusal
unfoldable pub must : Bool → ℕ → ℕ → Rule
must true n p = Ok tt
must false n p = breaks n 0 p

-- a track's rule, or what its rules come to, as track k of a set
unfoldable pub of_track : {A : Type 0} → ℕ → Result A Refusal → Result A Refusal
of_track k (Ok x) = Ok x
of_track k (Err e) = breaks e.number k e.place

-- a rule over the bytes of a box, moved to where the box stands
unfoldable pub moved : ℕ → Rule → Rule
moved b (Ok u) = Ok tt
moved b (Err e) = breaks e.number e.track (b + e.place)

-- a rule that, where it breaks, breaks at a place up to n
abbrev pub PlacedUpTo : ℕ → Rule → Type 0
PlacedUpTo n (Ok u) = Unit {0}
PlacedUpTo n (Err e) = e.place ≤ n

-- a case by whether a rule holds
abbrev pub on_rule : {A : Type 0} → Rule → (Unit {0} → A) → (ℕ → ℕ → ℕ → A) → A
on_rule (Ok u) a b = a tt
on_rule (Err e) a b = b e.number e.track e.place

-- the mark of this file: its definitions unfold wherever it does
unfoldable pub computed_rules : Unit {0}
unfolding ◌then◌ must of_track moved
computed_rules = tt
