use Rattle.extent_tree.proofs.setting.+set_below.Given as goal

abbrev pub decreases-set_below : goal.decreases-set_below
decreases-set_below l = l.depth
