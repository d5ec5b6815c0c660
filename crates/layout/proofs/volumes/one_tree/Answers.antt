use Rattle.layout.specs.LaidProps.{TreeStands-prop}
use Rattle.layout.proofs.FirstLaws.{one_tree}
use Rattle.layout.proofs.OneKept.{one_kept}
use Rattle.layout.proofs.volumes.one_tree.Goals as goal

pub returns-clause-tree : goal.returns-clause-tree
returns-clause-tree c = one_tree

pub returns-clause-kept : goal.returns-clause-kept
returns-clause-kept c = one_kept

pub returns-clause-proof : goal.returns-clause-proof
returns-clause-proof c = λ version size nodes image run tree a b. TreeStands-prop version size nodes image run tree a b
