use Rattle.slab.specs.Slab.{get}
use Rattle.peer.proofs.Between.{leaves_all}
use Rattle.peer.proofs.Serving.{kept_further, none_further}
use Rattle.peer.proofs.peers.Peers.checkpoint.Goals as goal

pub returns-clause-serves : goal.returns-clause-serves
returns-clause-serves g c = λ first streams so_far.
    none_further streams (get c.args.self.now.peers)
    (kept_further {old = c.args.self.now.server} {new = c.checkpoint.new.self} c.checkpoint.result c.checkpoint.ensures.ok c.checkpoint.ensures.kept c.checkpoint.ensures.refused) so_far

pub returns-clause-leaves : goal.returns-clause-leaves
returns-clause-leaves g c =
    leaves_all {old = c.args.self.now.server} {new = c.checkpoint.new.self} (get c.args.self.now.peers)
    (kept_further {old = c.args.self.now.server} {new = c.checkpoint.new.self} c.checkpoint.result c.checkpoint.ensures.ok c.checkpoint.ensures.kept c.checkpoint.ensures.refused)
