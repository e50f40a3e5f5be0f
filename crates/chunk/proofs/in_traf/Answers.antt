-- `chunk::in_traf` meets its contract. Assumes nothing.
use mathlib.Core.Path.{sym, ◌∙◌}
use Rattle.std.proofs.lemmas.Result.{err_from_is_err_and}
use Rattle.rules.specs.Kinds.{tfhd, tfdt, trun}
use Rattle.rules.specs.Chunk.{tfhd_in, tfdt_in, first_run}
use Rattle.rules.specs.declared.Entry.TheVariants.{One, OneOrMore}
use Rattle.chunk.proofs.First.{sighted}
use Rattle.chunk.proofs.Judged.{counts_break, broken_traf, right_14}
use Rattle.chunk.proofs.in_traf.Goals as goal

pub read-requires : goal.read-requires
unfolding tfhd_in tfdt_in first_run
read-requires c =
    let n = c.count_boxes-seen in let a = c.args in
    let m = a.m.now in
    let t = c.requires.stands_at.1 in (
      c.requires.m_len_bound.0,
      record {
        mfhd = c.requires.stands_at.0;
        traf = t;
        tfhd = rw (← t.place) (sighted m a.traf.at (One tfhd) n.result.a n.ensures.a);
        tfdt = rw (← t.place) (sighted m a.traf.at (One tfdt) n.result.b n.ensures.b);
        run = rw (← t.place) (sighted m a.traf.at (OneOrMore trun) n.result.c n.ensures.c);
      },
      right_14 m c.requires.m_len_bound.1 (rw (← t.place) (sym n.ensures.rule ∙ c.in_ok-seen.was)),
    )

pub returns-in_err-seen : goal.returns-in_err-seen
returns-in_err-seen c = let n = c.count_boxes-seen in let a = c.args in
    let b = counts_break 14 a.m.now a.traf.at _ n.result.rule n.ensures.rule n.ensures.low c.in_err-seen.was in
    let r = err_from_is_err_and c.from_residual.result c.from_residual.ensures.1 in
    rw (r.1, r.2) (broken_traf a.m.now a.s c.requires.m_len_bound.1 (rw (← c.requires.stands_at.1.place) b))
