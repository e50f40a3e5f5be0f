-- A rule's numbers: it gives, where it breaks, those of a list and no other. How that passes through the ways in which rules are put together.
use mathlib.Core.Path.{◌≡◌, refl, subst}
use mathlib.Core.Bool.{Bool, true, false}
use mathlib.Core.List.{List, [], ◌∷◌}
use Prim.Native.Nat.{ℕ, ◌+◌}
use Rattle.rules.specs.Refusals.{member, among}
use Rattle.rules.specs.Rules.{◌then◌, must, of_track, moved, Rule, breaks}
use Rattle.rules.specs.Boxes.{kids}
use Rattle.rules.specs.Counts.{seen, one_of, at_most_one_of, some_of, counted, counts, counts_if}
use Rattle.rules.specs.Fields.{Form, body}
use Rattle.rules.specs.declared.Entry.{Entry}
use Rattle.rules.specs.declared.Entry.TheVariants.{Nothing, One, AtMostOne, OneOrMore, OneInAll}
use Rattle.rules.specs.declared.Seen.{Seen}
use Rattle.rules.specs.declared.Seen.TheVariants.{Never, Once, Twice}
use Rattle.std.specs.Prelude.{Ok, Err}
use Rattle.rules.proofs.Members.{member_among, not_both_lem}

-- a rule that, where it breaks, gives a number of a list
pub record Numbered (ns : List ℕ) (r : Rule) : Type 0 where
  pub told : (n t p : ℕ) → r ≡ breaks n t p → member n ns ≡ true

-- the same by the rule's cases
abbrev pub Told : List ℕ → Rule → Type 0
Told ns (Ok u) = Unit {0}
Told ns (Err e) = member e.number ns ≡ true

pub of_told : (ns : List ℕ) (r : Rule) → Told ns r → Numbered ns r
of_told ns r c = record { told = λ n t p e. subst (Told ns) e c }

pub to_told : (ns : List ℕ) (r : Rule) → Numbered ns r → Told ns r
to_told ns (Ok u) h = tt
to_told ns (Err e) h = h.told e.number e.track e.place refl

-- a longer list
pub wider : (ns ms : List ℕ) (r : Rule) → among ns ms ≡ true → Numbered ns r → Numbered ms r
wider ns ms r w h = record { told = λ n t p e. member_among n ns ms (h.told n t p e) w }

-- how rules are put together
pub n_then : {ns : List ℕ} (r q : Rule) → Numbered ns r → Numbered ns q → Numbered ns (r then q)
unfolding ◌then◌
n_then (Ok u) q h k = k
n_then (Err e) q h k = h

pub n_must : {ns : List ℕ} (b : Bool) (n p : ℕ) → member n ns ≡ true → Numbered ns (must b n p)
unfolding must
n_must {ns} true n p m = of_told ns (Ok tt) tt
n_must {ns} false n p m = of_told ns (breaks n 0 p) m

pub n_holds : {ns : List ℕ} → Numbered ns (Ok tt)
n_holds {ns} = of_told ns (Ok tt) tt

pub n_moved : {ns : List ℕ} (b : ℕ) (r : Rule) → Numbered ns r → Numbered ns (moved b r)
unfolding moved
n_moved b (Ok u) h = h
n_moved {ns} b (Err e) h = of_told ns (breaks e.number e.track (b + e.place)) (to_told ns (Err e) h)

pub n_track : {ns : List ℕ} (k : ℕ) (r : Rule) → Numbered ns r → Numbered ns (of_track k r)
unfolding of_track
n_track k (Ok u) h = h
n_track {ns} k (Err e) h = of_told ns (breaks e.number k e.place) (to_told ns (Err e) h)

-- counts and bodies
n_one_of : {ns : List ℕ} (n c : ℕ) (v : Seen) → member n ns ≡ true → Numbered ns (one_of n c v)
unfolding one_of
n_one_of {ns} n c Never m = of_told ns (breaks n 0 c) m
n_one_of n c (Once a) m = n_holds
n_one_of {ns} n c (Twice a b) m = of_told ns (breaks n 0 b) m

n_at_most : {ns : List ℕ} (n : ℕ) (v : Seen) → member n ns ≡ true → Numbered ns (at_most_one_of n v)
unfolding at_most_one_of
n_at_most n Never m = n_holds
n_at_most n (Once a) m = n_holds
n_at_most {ns} n (Twice a b) m = of_told ns (breaks n 0 b) m

n_some_of : {ns : List ℕ} (n c : ℕ) (v : Seen) → member n ns ≡ true → Numbered ns (some_of n c v)
unfolding some_of
n_some_of {ns} n c Never m = of_told ns (breaks n 0 c) m
n_some_of n c (Once a) m = n_holds
n_some_of n c (Twice a b) m = n_holds

n_counted : {ns : List ℕ} (n c : ℕ) (e : Entry) (v : Seen) → member n ns ≡ true → Numbered ns (counted n c e v)
unfolding counted
n_counted n c Nothing v m = n_holds
n_counted n c (One w) v m = n_one_of n c v m
n_counted n c (AtMostOne w) v m = n_at_most n v m
n_counted n c (OneOrMore w) v m = n_some_of n c v m
n_counted n c (OneInAll u x w) v m = n_one_of n c v m

pub n_counts : {ns : List ℕ} (n : ℕ) (m : List ℕ) (at : ℕ) (es : List Entry) → member n ns ≡ true → Numbered ns (counts n m at es)
unfolding counts
n_counts n m at [] w = n_holds
n_counts n m at (e ∷ es) w = n_then _ _ (n_counted n at e (seen e (kids m at)) w) (n_counts n m at es w)

pub n_counts_if : {ns : List ℕ} (n : ℕ) (m : List ℕ) (v : Seen) (es : List Entry) → member n ns ≡ true → Numbered ns (counts_if n m v es)
unfolding counts_if
n_counts_if n m Never es w = n_holds
n_counts_if n m (Once a) es w = n_counts n m a es w
n_counts_if n m (Twice a b) es w = n_counts n m a es w

pub n_body : {ns : List ℕ} (n : ℕ) (f : Form) (m : List ℕ) (at : ℕ) → member n ns ≡ true → Numbered ns (body n f m at)
unfolding body
n_body n f m at w = n_must _ n at w

-- a number that isn't one of a rule's own comes from what follows it
pub passes_on : (ns : List ℕ) (r q : Rule) (n k p : ℕ) → Numbered ns r → member n ns ≡ false → r then q ≡ breaks n k p
    → (r ≡ Ok tt) × (q ≡ breaks n k p)
unfolding ◌then◌
passes_on ns (Ok u) q n k p h f e = (refl, e)
passes_on ns (Err x) q n k p h f e = absurd (not_both_lem n ns (h.told n k p e) f)
