-- The framing and the index of an appended slice: the boxes are counted on from the front's, and the places moved behind it.
use mathlib.Core.Path.{◌≡◌, refl, sym, ap, ap₂, subst, ◌∙◌}
use mathlib.Core.Bool.{Bool, true, false}
use mathlib.Core.List.{List, ◌∷◌, ◌++◌, append_assoc}
use Prim.Native.Nat.{ℕ, ◌+◌}
use native.Mathlib.Omega.{arith}
use lib.ListN.{length}
use lib.Dec.{leb}
use Rattle.numbers.specs.Numbers.{when}
use Rattle.rules.specs.Limits.{box_limit}
use Rattle.rules.specs.Rules.{moved, Framing, unframed}
use Rattle.rules.specs.Boxes.{Forest, end, bad, node, forest}
use Rattle.rules.specs.Framing.{on_framing, rule5, framing, framing_rule, framed, rules_of_framing, rows}
use Rattle.rules.specs.Track.{index}
use Rattle.rules.specs.declared.Path.TheVariants.{Top}
use Rattle.std.specs.Prelude.{Ok, Err}
use Rattle.rules.proofs.Then.{broken}
use Rattle.appending.proofs.Append.{forest_on, joined_forest, Closed, EndsOnBox, forest_append}

-- a framing so many places on
abbrev pub framing_on : ℕ → Framing → Framing
framing_on c (Ok n) = Ok n
framing_on c (Err e) = unframed e.number (c + e.place)

-- it is the same rule, moved
pub rule_on : (c : ℕ) (r : Framing) → framing_rule (framing_on c r) ≡ moved c (framing_rule r)
unfolding moved
rule_on c (Ok n) = refl
rule_on c (Err e) = refl

-- a framing, and what follows where it is whole
abbrev pub onward : Framing → (ℕ → Framing) → Framing
onward r f = on_framing r f (λ k p. unframed k p)

-- equal framings inside and behind a box
onward_same : (r q : Framing) (f g : ℕ → Framing) → r ≡ q → ((m : ℕ) → f m ≡ g m) → onward r f ≡ onward q g
onward_same r q f g e h = ap (λ (y : Framing). onward y f) e ∙ go q
  where
    go : (y : Framing) → onward y f ≡ onward y g
    go (Ok m) = h m
    go (Err e) = refl

-- the framing of a forest joined: of the first, then of the other with the boxes counted on
pub framing_joined : (f g : Forest) (base n : ℕ) → framing (joined_forest f g) base n ≡ onward (framing f base n) (λ m. framing g base m)
unfolding framing joined_forest rule5
framing_joined end g base n = refl
framing_joined (bad k p) g base n = go (leb box_limit n)
  where
    go : (t : Bool) → when t (unframed 5 (base + p)) (unframed k (base + p))
        ≡ onward (when t (unframed 5 (base + p)) (unframed k (base + p))) (λ m. framing g base m)
    go true = refl
    go false = refl
framing_joined (node x i r) g base n =
    go (leb box_limit n) (framing i (base + x.at + x.inner) (n + 1)) (λ m. framing_joined r g base m)
  where
    go : (t : Bool) (y : Framing) → ((m : ℕ) → framing (joined_forest r g) base m ≡ onward (framing r base m) (λ m. framing g base m))
        → when t (unframed 5 (base + x.at)) (onward y (λ m. framing (joined_forest r g) base m))
        ≡ onward (when t (unframed 5 (base + x.at)) (onward y (λ m. framing r base m))) (λ m. framing g base m)
    go true y f = refl
    go false (Ok m) f = f m
    go false (Err e) f = refl

-- the framing of a forest whose slice starts so many places on
pub framing_base : (c : ℕ) (f : Forest) (base n : ℕ) → framing f (c + base) n ≡ framing_on c (framing f base n)
unfolding framing rule5
framing_base c end base n = refl
framing_base c (bad k p) base n = go (leb box_limit n)
  where
    on : c + base + p ≡ c + (base + p)
    on = omega arith

    go : (t : Bool) → when t (unframed 5 (c + base + p)) (unframed k (c + base + p))
        ≡ framing_on c (when t (unframed 5 (base + p)) (unframed k (base + p)))
    go true = ap (unframed 5) on
    go false = ap (unframed k) on
framing_base c (node x i r) base n =
    go (leb box_limit n) (framing i (base + x.at + x.inner) (n + 1))
    (ap (λ (q : ℕ). framing i q (n + 1)) into ∙ framing_base c i (base + x.at + x.inner) (n + 1))
    (λ m. framing_base c r base m)
  where
    on : c + base + x.at ≡ c + (base + x.at)
    on = omega arith

    into : c + base + x.at + x.inner ≡ c + (base + x.at + x.inner)
    into = omega arith

    by : (y : Framing) → ((m : ℕ) → framing r (c + base) m ≡ framing_on c (framing r base m))
        → onward (framing_on c y) (λ m. framing r (c + base) m) ≡ framing_on c (onward y (λ m. framing r base m))
    by (Ok m) f = f m
    by (Err e) f = refl

    go : (t : Bool) (y : Framing) → framing i (c + base + x.at + x.inner) (n + 1) ≡ framing_on c y
        → ((m : ℕ) → framing r (c + base) m ≡ framing_on c (framing r base m))
        → when t (unframed 5 (c + base + x.at)) (onward (framing i (c + base + x.at + x.inner) (n + 1)) (λ m. framing r (c + base) m))
        ≡ framing_on c (when t (unframed 5 (base + x.at)) (onward y (λ m. framing r base m)))
    go true y e f = ap (unframed 5) on
    go false y e f = ap (λ (z : Framing). onward z (λ m. framing r (c + base) m)) e ∙ by y f

-- the framing of a forest moved
pub framing_on_lem : (c : ℕ) (f : Forest) (base n : ℕ) → framing (forest_on c f) base n ≡ framing f (base + c) n
unfolding framing forest_on
framing_on_lem c end base n = refl
framing_on_lem c (bad k p) base n =
    let on : base + (c + p) ≡ base + c + p = omega arith in
    ap (λ (q : ℕ). rule5 n q (unframed k q)) on
framing_on_lem c (node x i r) base n =
    let on : base + (c + x.at) ≡ base + c + x.at = omega arith in
    let into = framing i (base + c + x.at + x.inner) (n + 1) in
    ap (λ (q : ℕ). rule5 n q (onward (framing i (q + x.inner) (n + 1)) (λ m. framing (forest_on c r) base m))) on
    ∙ ap (rule5 n (base + c + x.at))
    (onward_same into into (λ m. framing (forest_on c r) base m) (λ m. framing r (base + c) m) refl (λ m. framing_on_lem c r base m))

-- the framing of an appended slice, with n boxes before it: by the front's, and where that is whole by the rest's, counted on and moved
pub framing_append : (a b : List ℕ) (n : ℕ) → EndsOnBox a
    → framing (forest Top (a ++ b) 0) 0 n ≡ onward (framing (forest Top a 0) 0 n) (λ m. framing_on (length a) (framing (forest Top b 0) 0 m))
framing_append a b n c =
    ap (λ (f : Forest). framing f 0 n) (forest_append a b Top 0 (omega arith) c)
    ∙ framing_joined (forest Top a 0) (forest_on (length a) (forest Top b 0)) 0 n
    ∙ onward_same (framing (forest Top a 0) 0 n) (framing (forest Top a 0) 0 n) (λ m. framing (forest_on (length a) (forest Top b 0)) 0 m)
    (λ m. framing_on (length a) (framing (forest Top b 0) 0 m)) refl (λ m. framing_on_lem (length a) (forest Top b 0) 0 m ∙ rest m)
  where
    at : 0 + length a ≡ length a + 0
    at = omega arith

    rest : (m : ℕ) → framing (forest Top b 0) (0 + length a) m ≡ framing_on (length a) (framing (forest Top b 0) 0 m)
    rest m = ap (λ (q : ℕ). framing (forest Top b 0) q m) at ∙ framing_base (length a) (forest Top b 0) 0 m

-- so, where m boxes frame the front, the rules of framing are the rest's after m boxes, moved
pub rules_of_framing_append : (a b : List ℕ) (m : ℕ) → EndsOnBox a → framed a ≡ Ok m
    → rules_of_framing (a ++ b) ≡ moved (length a) (framing_rule (framing (forest Top b 0) 0 m))
rules_of_framing_append a b m c e =
    ap framing_rule (framing_append a b 0 c ∙ ap (λ (r : Framing). onward r (λ m. framing_on (length a) (framing (forest Top b 0) 0 m))) e)
    ∙ rule_on (length a) (framing (forest Top b 0) 0 m)

-- a forest that is framed ends on a box, and so does a slice that the rules of framing accept
abbrev FramedWhole : Framing → Type 0
FramedWhole (Ok n) = Unit {0}
FramedWhole (Err e) = ⊥

whole_closed : (f : Forest) (base n : ℕ) → FramedWhole (framing f base n) → Closed f
unfolding framing rule5
whole_closed end base n w = tt
whole_closed (bad k p) base n w = go (leb box_limit n) w
  where
    go : (t : Bool) → FramedWhole (when t (unframed 5 (base + p)) (unframed k (base + p))) → ⊥
    go true v = v
    go false v = v
whole_closed (node x i r) base n w =
    go (leb box_limit n) (framing i (base + x.at + x.inner) (n + 1)) w (λ m. whole_closed r base m)
  where
    go : (t : Bool) (y : Framing) → FramedWhole (when t (unframed 5 (base + x.at)) (onward y (λ m. framing r base m)))
        → ((m : ℕ) → FramedWhole (framing r base m) → Closed r) → Closed r
    go true y v f = absurd v
    go false (Ok m) v f = f m v
    go false (Err e) v f = absurd v

-- the number of boxes of a slice that the rules of framing accept
pub framed_boxes : (s : List ℕ) → rules_of_framing s ≡ Ok tt → (m : ℕ) × (framed s ≡ Ok m)
framed_boxes s e = go (framed s) refl e
  where
    go : (r : Framing) → framed s ≡ r → framing_rule r ≡ Ok tt → (m : ℕ) × (framed s ≡ Ok m)
    go (Ok m) q h = (m, q)
    go (Err e) q h = absurd (broken h)

pub framed_ends : (s : List ℕ) → rules_of_framing s ≡ Ok tt → EndsOnBox s
framed_ends s e = whole_closed (forest Top s 0) 0 0 (subst FramedWhole (sym (framed_boxes s e).1) tt)

-- the index of a forest joined and moved, and of an appended slice
pub rows_joined : (f g : Forest) (base depth : ℕ) → Closed f → rows (joined_forest f g) base depth ≡ rows f base depth ++ rows g base depth
unfolding rows joined_forest
rows_joined end g base depth c = refl
rows_joined (bad k p) g base depth c = absurd c
rows_joined (node x i r) g base depth c =
    ap (λ (l : List ℕ). (base + x.at) ∷ x.size ∷ x.kind ∷ depth ∷ l)
    (ap (λ (l : List ℕ). rows i (base + x.at + x.inner) (depth + 1) ++ l) (rows_joined r g base depth c)
    ∙ sym (append_assoc (rows i (base + x.at + x.inner) (depth + 1)) (rows r base depth) (rows g base depth)))

pub rows_on : (c : ℕ) (f : Forest) (base depth : ℕ) → rows (forest_on c f) base depth ≡ rows f (base + c) depth
unfolding rows forest_on
rows_on c end base depth = refl
rows_on c (bad k p) base depth = refl
rows_on c (node x i r) base depth =
    let on : base + (c + x.at) ≡ base + c + x.at = omega arith in
    ap₂ {C = List ℕ} (λ (q : ℕ) (l : List ℕ). q ∷ x.size ∷ x.kind ∷ depth ∷ (rows i (q + x.inner) (depth + 1) ++ l)) on
    (rows_on c r base depth)

pub index_append : (a b : List ℕ) → EndsOnBox a → index (a ++ b) ≡ index a ++ rows (forest Top b 0) (length a) 0
unfolding index
index_append a b c =
    let at : 0 + length a ≡ length a = omega arith in
    ap (λ (f : Forest). rows f 0 0) (forest_append a b Top 0 (omega arith) c)
    ∙ rows_joined (forest Top a 0) (forest_on (length a) (forest Top b 0)) 0 0 c
    ∙ ap (λ (l : List ℕ). rows (forest Top a 0) 0 0 ++ l)
    (rows_on (length a) (forest Top b 0) 0 0 ∙ ap (λ (q : ℕ). rows (forest Top b 0) q 0) at)
