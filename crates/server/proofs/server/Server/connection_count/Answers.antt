use Rattle.std.proofs.Common.{arith}
use Rattle.server.specs.Views.{world_of}
use Rattle.server.proofs.SlabLaws.{count_of}
use Rattle.server.proofs.server.Server.connection_count.Goals as goal

pub returns : goal.returns
unfolding world_of
returns g c = omega (arith, count_of c.args.self.now.connections)
