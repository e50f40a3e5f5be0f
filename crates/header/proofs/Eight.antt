-- Laws of rule 8 in its order: past bodies that hold, and at one that breaks.
use mathlib.Core.Path.{◌≡◌, ◌∙◌}
use mathlib.Core.List.{List}
use Prim.Native.Nat.{ℕ}
use Rattle.rules.specs.Rules.{◌then◌, Rule, breaks}
use Rattle.rules.specs.Fields.{Form, either, at_least, body}
use Rattle.std.specs.Prelude.{Option, None, Ok}
use Rattle.rules.proofs.Then.{then_holds, then_breaks}
use Rattle.header.specs.Bodies.{SaysBody, HeadsIn}
use Rattle.header.specs.declared.containers.Located.{Located}
use Rattle.header.specs.declared.bodies.Heads.{Heads}

-- past a rule that holds, and at one that breaks
pub past : {r q z : Rule} → r ≡ Ok tt → q ≡ z → (r then q) ≡ z
past {q = q} e k = then_holds q e ∙ k

pub stop : {r : Rule} {n t p : ℕ} (q : Rule) → r ≡ breaks n t p → (r then q) ≡ breaks n t p
stop q e = then_breaks q e

-- at a body that its reader calls wrong
pub wrong : (m : List ℕ) (at : ℕ) (w : Form) (n : ℕ) {r : Option ℕ} (q : Rule) → SaysBody r w n m at → r ≡ None → (body 8 w m at then q) ≡ breaks 8 0 at
wrong m at w n q h e = stop q (rw e at h)

-- past the bodies up to `stsd`
pub past_heads : {m : List ℕ} {s : Located} {q z : Rule} {h : Heads} → HeadsIn m s h → q ≡ z →
    (body 8 (either 108 120) m s.mvhd.at then body 8 (either 92 104) m s.trak.tkhd.at then body 8 (either 32 44) m s.trak.mdhd.at
    then body 8 (at_least 32) m s.trak.hdlr.at then body 8 (at_least 16) m s.minf.stsd.at then q) ≡ z
past_heads h e = past h.mvhd (past h.tkhd.0 (past h.mdhd.0 (past h.hdlr.0 (past h.stsd.0 e))))
