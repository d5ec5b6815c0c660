use Rattle.node_table.proofs.TableLaws.{own-places}
use Rattle.node_table.proofs.table.Table.count.Goals as goal

pub returns-clause-apart : goal.returns-clause-apart
returns-clause-apart c = own-places c.self.inside.cached_nodes.items c.self.inside.index.items c.self.inside.free.items c.self.inside.charge c.args.self.now c.self.invariant.0 c.self.view_is
