use Rattle.std.proofs.Common.{List, Option, Some, None, set, ap, ◌∙◌}
use Rattle.std.proofs.lemmas.List.{set-set}
use Rattle.layout.specs.CachedNodes.{CachedNode}
use Rattle.node_table.proofs.table.Table.put.Goals as goal

pub returns-else-eq : goal.returns-else-eq
returns-else-eq c = c.make.ensures ∙ ap (λ (cached_nodes : List (Option CachedNode)). set cached_nodes c.args.place (Some c.args.cached)) c.vacate.ensures ∙ set-set c.args.self.now c.args.place None (Some c.args.cached)
