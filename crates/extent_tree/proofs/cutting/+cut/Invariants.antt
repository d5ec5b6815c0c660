use Rattle.extent_tree.proofs.cutting.+cut.Given as goal

abbrev pub decreases-cut : goal.decreases-cut
decreases-cut l = l.depth
