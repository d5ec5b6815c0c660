use Rattle.extent_tree.specs.Held.{entries_by}
use Rattle.extent_tree.proofs.Contents.{are_held}
use Rattle.extent_tree.proofs.Maps.{items_of}
use Rattle.extent_tree.proofs.tree.ExtentTree.root.Goals as goal

pub returns-clause-held : goal.returns-clause-held
returns-clause-held c = are_held (entries_by items_of c.self.inside.nodes) c.self.inside.blocks c.self.inside.root.value.items c.args.self.now c.self.invariant.0 c.self.invariant.1 c.self.view_is
