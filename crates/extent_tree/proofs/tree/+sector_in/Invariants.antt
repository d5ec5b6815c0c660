use Rattle.extent_tree.proofs.tree.+sector_in.Given as goal

abbrev pub decreases-sector_in : goal.decreases-sector_in
decreases-sector_in l = l.depth
