use Rattle.layout.proofs.CachedNodeLaws.{cached-back, cached_nodes-back, only_cached, only_cached_nodes}
use Rattle.layout.proofs.cached_nodes.read_back.Goals as goal

pub returns-clause-cached : goal.returns-clause-cached
returns-clause-cached c = cached-back

pub returns-clause-cached_nodes : goal.returns-clause-cached_nodes
returns-clause-cached_nodes c = cached_nodes-back

pub returns-clause-only_cached : goal.returns-clause-only_cached
returns-clause-only_cached c = only_cached

pub returns-clause-only_cached_nodes : goal.returns-clause-only_cached_nodes
returns-clause-only_cached_nodes c = only_cached_nodes
