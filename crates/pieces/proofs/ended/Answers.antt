-- `pieces::ended` meets its contract. Assumes nothing.
use mathlib.Core.Path.{sym, ◌∙◌}
use Rattle.pieces.proofs.Ending.{ends_over, header_within, box_within}
use Rattle.pieces.proofs.Ending.{ended_between, ended_header, ended_box, ended_passing, ended_stopped, ended_unstarted}
use Rattle.pieces.proofs.ended.Goals as goal

pub returns-then-st-gt-BYTE_LIMIT : goal.returns-then-st-gt-BYTE_LIMIT
returns-then-st-gt-BYTE_LIMIT c =
    rw c.new.ensures (ends_over c.args.st c.args.head.now c.args.kept.now c.if-st-gt-BYTE_LIMIT.true)

pub returns-in-Head-eq0 : goal.returns-in-Head-eq0
returns-in-Head-eq0 c =
    c.course_end.ensures
    ∙ ended_between c.args.st c.args.head.now c.args.kept.now c.requires c.if-st-gt-BYTE_LIMIT.false _ c.in-Head-eq0.is (sym c.in-Head-eq0.field-0-is ∙ c.in-Head-eq0.field-0-test)

pub overflow_sub-st : goal.overflow_sub-st
overflow_sub-st c =
    header_within c.args.st c.args.head.now c.args.kept.now c.requires _ c.in-Head.is

pub overflow_sub-st-in-Keep : goal.overflow_sub-st-in-Keep
overflow_sub-st-in-Keep c =
    box_within c.args.st c.args.head.now c.args.kept.now c.requires _ c.in-Keep.is

pub returns-in-Unstarted : goal.returns-in-Unstarted
returns-in-Unstarted c =
    rw c.new-in-Unstarted.ensures (ended_unstarted c.args.st c.args.head.now c.args.kept.now c.requires c.if-st-gt-BYTE_LIMIT.false c.in-Unstarted.is)

pub returns-in-Head : goal.returns-in-Head
returns-in-Head c =
    rw c.broken_as.ensures
    (ended_header c.args.st c.args.head.now c.args.kept.now c.requires c.if-st-gt-BYTE_LIMIT.false _ c.in-Head.is
    (rw c.in-Head.is at c.in-Head.n-test.1))

pub returns-in-Keep : goal.returns-in-Keep
returns-in-Keep c =
    rw c.broken_as-in-Keep.ensures
    (ended_box c.args.st c.args.head.now c.args.kept.now c.requires c.if-st-gt-BYTE_LIMIT.false _ c.in-Keep.is)

pub returns-in-Skip : goal.returns-in-Skip
returns-in-Skip c =
    rw c.new-in-Skip.ensures (ended_passing c.args.st c.args.head.now c.args.kept.now c.requires c.if-st-gt-BYTE_LIMIT.false _ _ c.in-Skip.is)

pub returns-in-Stopped : goal.returns-in-Stopped
returns-in-Stopped c =
    rw c.into.ensures (ended_stopped c.args.st c.args.head.now c.args.kept.now c.requires c.if-st-gt-BYTE_LIMIT.false _ c.in-Stopped.is)
