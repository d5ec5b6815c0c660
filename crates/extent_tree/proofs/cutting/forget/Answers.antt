use Rattle.std.proofs.Common.{get_or}
use Rattle.extent_tree.specs.Held.{entries_by}
use Rattle.extent_tree.proofs.Cuts.{forget_more}
use Rattle.extent_tree.proofs.Maps.{items_of, removed_other}
use Rattle.extent_tree.proofs.cutting.forget.Goals as goal

pub loop-sector-preserved : goal.loop-sector-preserved
loop-sector-preserved c =
    forget_more (entries_by items_of c.args.nodes.now) (entries_by items_of c.loop-sector.nodes) (entries_by items_of c.remove.new.self) c.args.freed.now c.loop-sector.sector-index 0 c.loop-sector.invariant c.loop-sector-test.true
    (removed_other c.loop-sector.nodes c.remove.new.self (get_or c.args.freed.now c.loop-sector.sector-index 0) c.remove.ensures.updates)
