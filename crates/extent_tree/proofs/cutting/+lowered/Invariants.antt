use Rattle.extent_tree.proofs.cutting.+lowered.Given as goal

abbrev pub decreases-lowered : goal.decreases-lowered
decreases-lowered l = l.depth
