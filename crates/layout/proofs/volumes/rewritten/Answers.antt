use Rattle.layout.proofs.Rewriting.{rewritten_stands, rewritten_cached_nodes, form_stays}
use Rattle.layout.proofs.volumes.rewritten.Goals as goal

pub returns-clause-stands : goal.returns-clause-stands
returns-clause-stands c = rewritten_stands

pub returns-clause-stays : goal.returns-clause-stays
returns-clause-stays c = form_stays

pub returns-clause-cached_nodes : goal.returns-clause-cached_nodes
returns-clause-cached_nodes c = rewritten_cached_nodes
