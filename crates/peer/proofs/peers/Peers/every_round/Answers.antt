use Rattle.slab.specs.Slab.{get}
use Rattle.peer.proofs.Rounds.{every_round}
use Rattle.peer.proofs.peers.Peers.every_round.Goals as goal

pub returns : goal.returns
returns g c = every_round g.D.Device.keeps_word c.args.self.now.server (get c.args.self.now.peers)
