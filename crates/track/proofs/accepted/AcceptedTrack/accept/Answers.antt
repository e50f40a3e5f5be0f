-- `track::accepted::AcceptedTrack::accept` meets its contract. Assumes nothing.
use mathlib.Core.Path.{sym, ◌∙◌}
use Rattle.track.proofs.Table.{accepted_known, refused_is, known_rest, table_short, room}
use Rattle.track.proofs.accepted.AcceptedTrack.accept.Goals as goal

pub returns-then-t-self : goal.returns-then-t-self
returns-then-t-self c = let a = c.args in
    let k = accepted_known a.self.bytes.now (sym a.self.accepted) in
    refused_is a.t.now 23 0 0 (rw c.new.ensures at c.from.ensures) ∙ table_short a.self.bytes.now a.t.now a.self.facts k c.if-t-self.true

pub write_boundaries-requires : goal.write_boundaries-requires
write_boundaries-requires c = let a = c.args in
    let k = accepted_known a.self.bytes.now (sym a.self.accepted) in
    (known_rest a.self.bytes.now a.t.now a.self.facts k c.if-t-self.false).1

pub returns : goal.returns
returns c = let a = c.args in
    let k = accepted_known a.self.bytes.now (sym a.self.accepted) in
    room a.self.bytes.now a.t.now a.self.facts k c.if-t-self.false _ c.write_boundaries.ensures
