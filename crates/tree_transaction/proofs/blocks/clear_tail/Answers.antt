use Rattle.std.proofs.Common.{◌<◌, ◌/◌, ◌%◌, ◌∙◌, sym, arith}
use Rattle.tree_transaction.proofs.BlockLaws.{on_ok, on_both, changes_one}
use Rattle.tree_transaction.proofs.CutLaws.{clears_hole, clears_set}
use Rattle.tree_transaction.proofs.blocks.clear_tail.Goals as goal

pub returns-in-Some-clause-tail : goal.returns-in-Some-clause-tail
returns-in-Some-clause-tail g c word =
    let some : 0 < c.args.size % 4096 = (let off = c.if-from-eq0.false in omega arith) in
    on_both c.clear_from.result (c.clear_from.ensures.image word) (c.clear_from.ensures.whole word) (λ image whole.
    clears_set _ _ c.args.blocks.now c.args.size c.in-Some.sector c.requires.sectors.1 (sym c.at.ensures ∙ c.in-Some.is) whole image some)

pub returns-in-Some-clause-others : goal.returns-in-Some-clause-others
returns-in-Some-clause-others g c = on_ok c.clear_from.result c.clear_from.ensures.others (λ alone.
    changes_one c.args.updates.now c.clear_from.new.updates c.args.blocks.now (c.args.size / 4096) c.in-Some.sector (sym c.at.ensures ∙ c.in-Some.is) alone)

pub returns-in-None-clause-tail : goal.returns-in-None-clause-tail
returns-in-None-clause-tail g c word = clears_hole _ c.args.blocks.now c.args.size (sym c.at.ensures ∙ c.in-None.is)
