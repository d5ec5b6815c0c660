use Rattle.peer.proofs.Between.{leaves_uncalled}
use Rattle.peer.proofs.Serving.{roomier}
use Rattle.peer.proofs.peers.Peers.make_room.Goals as goal

pub returns-in_err-reserve-clause-serves : goal.returns-in_err-reserve-clause-serves
returns-in_err-reserve-clause-serves g c = λ first streams so_far.
    roomier c.args.self.now.server c.args.self.now.peers c.reserve.new.self first streams c.reserve.ensures.rest_kept so_far

pub returns-clause-serves : goal.returns-clause-serves
returns-clause-serves g c = λ first streams so_far.
    roomier c.args.self.now.server c.args.self.now.peers c.reserve.new.self first streams c.reserve.ensures.rest_kept so_far

pub returns-in_err-reserve-clause-leaves : goal.returns-in_err-reserve-clause-leaves
returns-in_err-reserve-clause-leaves g c = leaves_uncalled c.args.self.now.server c.args.self.now.peers c.reserve.new.self c.reserve.ensures.rest_kept

pub returns-clause-leaves : goal.returns-clause-leaves
returns-clause-leaves g c = leaves_uncalled c.args.self.now.server c.args.self.now.peers c.reserve.new.self c.reserve.ensures.rest_kept
