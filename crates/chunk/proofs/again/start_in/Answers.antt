-- `chunk::again::start_in` meets its contract. Assumes nothing.
use mathlib.Core.Path.{◌≡◌, sym, ap, ◌∙◌}
use Prim.Native.Nat.{ℕ}
use Rattle.rules.specs.Kinds.{tfdt}
use Rattle.rules.specs.Counts.{child}
use Rattle.rules.specs.Fields.{field}
use Rattle.rules.specs.Chunk.{tfdt_in}
use Rattle.fields.proofs.Forms.{version_is}
use Rattle.chunk.proofs.Formed.{start_other, start_one}
use Rattle.chunk.proofs.again.start_in.Goals as goal

pub returns-then-read-eq1 : goal.returns-then-read-eq1
unfolding tfdt_in
returns-then-read-eq1 c =
    let st = c.first_child-tfdt.ensures.stands in
    let place : c.first_child-tfdt.result.at ≡ tfdt_in c.args.m.now =
    c.first_child-tfdt.ensures.place ∙ ap (λ (t : ℕ). child c.args.m.now t tfdt) c.requires.0.place in
    start_one _ c.first_child-tfdt.result place _ (version_is _ _ st ∙ sym c.read.ensures ∙ c.if-read-eq1.true) (rw st.head c.read-then-read-eq1.ensures)

pub returns-else-read-eq1 : goal.returns-else-read-eq1
unfolding field tfdt_in
returns-else-read-eq1 c =
    let st = c.first_child-tfdt.ensures.stands in
    let place : c.first_child-tfdt.result.at ≡ tfdt_in c.args.m.now =
    c.first_child-tfdt.ensures.place ∙ ap (λ (t : ℕ). child c.args.m.now t tfdt) c.requires.0.place in
    start_other _ c.first_child-tfdt.result place _ (λ o. c.if-read-eq1.false (c.read.ensures ∙ sym (version_is _ _ st) ∙ o)) (rw st.head c.read-else-read-eq1.ensures)
