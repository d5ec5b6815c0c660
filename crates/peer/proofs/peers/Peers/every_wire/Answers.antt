use Rattle.slab.specs.Slab.{get}
use Rattle.peer.proofs.Wire.{every_wire}
use Rattle.peer.proofs.peers.Peers.every_wire.Goals as goal

pub returns : goal.returns
returns g c = every_wire g.D.Device.keeps_word c.args.self.now.server (get c.args.self.now.peers)
