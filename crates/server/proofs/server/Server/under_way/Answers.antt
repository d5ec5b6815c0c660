use Rattle.std.proofs.Common.{sym, ap, ◌∙◌}
use Rattle.server.specs.Views.{world_of}
use Rattle.server.specs.Way.{under_way}
use Rattle.server.proofs.SlabLaws.{stands, stands_none}
use Rattle.server.proofs.server.Server.under_way.Goals as goal

pub returns-in-Some : goal.returns-in-Some
unfolding world_of
returns-in-Some g c = c.under_way.ensures ∙ ap under_way (sym (stands c.args.self.now.connections c.args.conn c.in-Some.connection.now c.in-Some.ensures))

pub returns-in-None : goal.returns-in-None
unfolding world_of
returns-in-None g c = ap under_way (sym (stands_none c.args.self.now.connections c.args.conn c.in-None.ensures))
