use Rattle.std.proofs.Common.{◌∙◌, sym}
use Rattle.extent_tree.specs.Held.{entries_by}
use Rattle.extent_tree.proofs.Contents.{held_is}
use Rattle.extent_tree.proofs.Maps.{items_of}
use Rattle.extent_tree.proofs.tree.ExtentTree.index.Goals as goal

pub returns : goal.returns
returns c =
    c.entries_of.ensures ∙ sym (held_is (entries_by items_of c.self.inside.nodes) c.self.inside.blocks c.self.inside.root.value.items c.args.self.now c.self.invariant.0 c.self.invariant.1 c.self.view_is c.args.sector c.requires)
