use Rattle.extent_tree.proofs.Growing.{root_made}
use Rattle.extent_tree.proofs.tree.root_above.Goals as goal

pub returns : goal.returns
returns c = root_made c.in_ok-made.made.items c.args.sector (c.in_ok-made.ensures.items_if_clones_equal (λ y h. h))
