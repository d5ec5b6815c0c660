use Rattle.std.proofs.Common.{sym, ap}
use Rattle.extent_tree.specs.Held.{Blocks}
use Rattle.extent_tree.proofs.Counts.{distinct_as}
use Rattle.extent_tree.proofs.Shapes.{count_is}
use Rattle.extent_tree.proofs.tree.ExtentTree.len.Goals as goal

pub returns-clause-count : goal.returns-clause-count
returns-clause-count c = count_is _ c.self.inside.blocks c.self.inside.root.value.items c.args.self.now c.self.invariant.0 c.self.invariant.1 c.self.view_is

pub returns-clause-once : goal.returns-clause-once
returns-clause-once c = distinct_as _ _ (sym (ap (λ (x : Blocks). x.indexes) c.self.view_is)) c.self.invariant.2
