use Rattle.std.proofs.Common.{Vec, Global, ap}
use Rattle.extent_tree.specs.declared.entry.Entry.{Entry}
use Rattle.extent_tree.proofs.Maps.{root_of-clone, distinct_of-clone, blocks_of-clone, nodes-clone}
use Rattle.extent_tree.proofs.tree.ExtentTree.try_clone.Goals as goal

pub invariant_of-result : goal.invariant_of-result
invariant_of-result c = (
  root_of-clone _ _ c.self.inside.blocks c.self.inside.root.value.items c.in_ok-clone.field-0.value.items (nodes-clone c.self.inside.nodes c.in_ok-clone-2.field-0 c.in_ok-clone-2.ensures.cases) (ap (λ (x : Vec Entry Global). x.items) c.in_ok-clone.ensures.cases) c.self.invariant.0,
  c.self.invariant.1,
  distinct_of-clone _ _ c.self.inside.blocks c.self.inside.root.value.items c.in_ok-clone.field-0.value.items (nodes-clone c.self.inside.nodes c.in_ok-clone-2.field-0 c.in_ok-clone-2.ensures.cases) (ap (λ (x : Vec Entry Global). x.items) c.in_ok-clone.ensures.cases) c.self.invariant.2,
)

pub returns : goal.returns
returns c =
    blocks_of-clone _ _ c.self.inside.blocks c.self.inside.root.value.items c.in_ok-clone.field-0.value.items c.args.self.now (nodes-clone c.self.inside.nodes c.in_ok-clone-2.field-0 c.in_ok-clone-2.ensures.cases) (ap (λ (x : Vec Entry Global). x.items) c.in_ok-clone.ensures.cases) c.self.view_is
