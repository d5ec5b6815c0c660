use Rattle.layout.proofs.MarkProofs.{kept_alone, stands_alone}
use Rattle.layout.proofs.volumes.kept.Goals as goal

pub returns-clause-cached_nodes : goal.returns-clause-cached_nodes
returns-clause-cached_nodes c = kept_alone

pub returns-clause-tree : goal.returns-clause-tree
returns-clause-tree c = stands_alone
