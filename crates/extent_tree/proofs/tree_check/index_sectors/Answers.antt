use Rattle.std.proofs.Common.{◌≡◌, ◌∙◌, ◌++◌, List, ℕ, ap, refl}
use Rattle.extent_tree.specs.Held.{entries_by}
use Rattle.extent_tree.specs.Tree.{indexes_in}
use Rattle.extent_tree.proofs.Maps.{items_of}
use Rattle.extent_tree.proofs.Shapes.{root_trees}
use Rattle.extent_tree.proofs.tree_check.index_sectors.Goals as goal

pub give_back-requires-clause-trees : goal.give_back-requires-clause-trees
give_back-requires-clause-trees c = root_trees (entries_by items_of c.args.nodes.now) c.args.blocks c.depth.result c.args.root.now c.args.root.now refl c.requires.root c.depth.ensures.value

pub returns : goal.returns
returns c =
    let index = entries_by items_of c.args.nodes.now in
    let here : c.give_back.new.freed.items ≡ c.new-found.result.items ++ indexes_in index c.depth.result c.args.root.now = c.in_ok-give_back.ensures in
    here ∙ ap (λ (xs : List ℕ). xs ++ indexes_in index c.depth.result c.args.root.now) c.new-found.ensures.items ∙ ap (λ (d : ℕ). indexes_in index d c.args.root.now) c.depth.ensures.value
