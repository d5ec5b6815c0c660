use Rattle.std.proofs.Common.{arith}
use Rattle.extent_tree.specs.Held.{entries_by}
use Rattle.extent_tree.proofs.Shapes.{root_trees, file_is}
use Rattle.extent_tree.proofs.tree.ExtentTree.at.Goals as goal

pub sector_in-requires-clause-trees : goal.sector_in-requires-clause-trees
sector_in-requires-clause-trees c =
    root_trees (entries_by (λ rc. rc.value.items) c.self.inside.nodes) c.self.inside.blocks c.depth.result c.self.inside.root.value.items c.deref-2.result.now (cc) c.self.invariant.0 c.depth.ensures.value

pub returns : goal.returns
returns c =
    file_is (entries_by (λ rc. rc.value.items) c.self.inside.nodes) c.self.inside.blocks c.args.block c.depth.result c.self.inside.root.value.items c.deref-2.result.now c.sector_in.result c.args.self.now (cc) c.depth.ensures.value (omega arith) c.sector_in.ensures c.self.view_is
