use Rattle.extent_tree.proofs.setting.+with_block.Given as goal

abbrev pub decreases-with_block : goal.decreases-with_block
decreases-with_block l = l.depth
