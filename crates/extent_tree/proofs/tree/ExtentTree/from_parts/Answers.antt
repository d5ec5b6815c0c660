use Rattle.std.proofs.Common.{Vec, Global, refl, ap}
use Rattle.extent_tree.specs.declared.entry.Entry.{Entry}
use Rattle.extent_tree.specs.Held.{entries_by}
use Rattle.extent_tree.proofs.Maps.{items_of, root_of-clone, distinct_of-clone}
use Rattle.extent_tree.proofs.tree.ExtentTree.from_parts.Goals as goal

pub invariant_of-result : goal.invariant_of-result
invariant_of-result c = (
  root_of-clone (entries_by items_of c.args.nodes) (entries_by items_of c.args.nodes) c.args.blocks c.args.root.items c.in_ok-root.root.value.items refl (ap (λ (v : Vec Entry Global). v.items) c.in_ok-root.ensures.ok) c.requires.root,
  c.requires.blocks,
  distinct_of-clone (entries_by items_of c.args.nodes) (entries_by items_of c.args.nodes) c.args.blocks c.args.root.items c.in_ok-root.root.value.items refl (ap (λ (v : Vec Entry Global). v.items) c.in_ok-root.ensures.ok) c.requires.once,
)
