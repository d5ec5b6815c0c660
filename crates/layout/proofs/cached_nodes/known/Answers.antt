use Rattle.layout.proofs.Knowing.{laid_are_cached_nodes, one_cached_change}
use Rattle.layout.proofs.cached_nodes.known.Goals as goal

pub returns-clause-laid : goal.returns-clause-laid
returns-clause-laid c = laid_are_cached_nodes

pub returns-clause-change : goal.returns-clause-change
returns-clause-change c = one_cached_change
