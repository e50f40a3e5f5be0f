-- `chunk::check_chunk` meets its contract. Assumes nothing.
use mathlib.Core.Path.{sym, ◌∙◌}
use Rattle.std.proofs.lemmas.Result.{err_from_is_err_and}
use Rattle.rules.specs.Kinds.{mfhd, traf}
use Rattle.rules.specs.Chunk.{mfhd_in, traf_in}
use Rattle.rules.specs.declared.Entry.TheVariants.{One}
use Rattle.counts.proofs.Firsts.{counts_2}
use Rattle.chunk.proofs.First.{sighted}
use Rattle.chunk.proofs.Judged.{counts_break, broken_moof}
use Rattle.chunk.proofs.check_chunk.Goals as goal

pub in_traf-requires : goal.in_traf-requires
unfolding mfhd_in traf_in
in_traf-requires c = let n = c.count_boxes-seen in let m = c.args.m.now in record { m_len_bound = (c.requires.1, sym (counts_2 14 m 0 (One mfhd) (One traf)) ∙ sym n.ensures.rule ∙ c.in_ok-seen.was); stands_at = (sighted m 0 (One mfhd) n.result.a n.ensures.a, sighted m 0 (One traf) n.result.b n.ensures.b) }

pub returns-in_err-seen : goal.returns-in_err-seen
returns-in_err-seen c = let n = c.count_boxes-seen in let a = c.args in
    let b = counts_break 14 a.m.now 0 _ n.result.rule n.ensures.rule n.ensures.low c.in_err-seen.was in
    let r = err_from_is_err_and c.from_residual.result c.from_residual.ensures.1 in
    rw (r.1, r.2) (broken_moof a.m.now a.s (sym (counts_2 14 a.m.now 0 (One mfhd) (One traf)) ∙ b.0, b.1))
