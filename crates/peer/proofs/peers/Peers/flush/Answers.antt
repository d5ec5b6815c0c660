use Rattle.std.proofs.Common.{refl}
use Rattle.slab.specs.Slab.{get}
use Rattle.server.specs.Views.{waits_of}
use Rattle.peer.proofs.Between.{leaves_all}
use Rattle.peer.proofs.Made.{not_called}
use Rattle.peer.proofs.Serving.{flushed_any, none_further}
use Rattle.peer.proofs.peers.Peers.flush.Goals as goal

pub returns-in_ok-flush-clause-serves : goal.returns-in_ok-flush-clause-serves
returns-in_ok-flush-clause-serves g c = λ first streams so_far.
    none_further streams (get c.args.self.now.peers)
    (flushed_any {old = c.args.self.now.server} {new = c.flush.new.self} c.flush.result c.flush.ensures.ok c.flush.ensures.nothing
    c.flush.ensures.kept c.flush.ensures.refused (waits_of c.args.self.now.server) refl) so_far

pub returns-in_ok-flush-clause-leaves : goal.returns-in_ok-flush-clause-leaves
returns-in_ok-flush-clause-leaves g c =
    leaves_all {old = c.args.self.now.server} {new = c.flush.new.self} (get c.args.self.now.peers)
    (flushed_any {old = c.args.self.now.server} {new = c.flush.new.self} c.flush.result c.flush.ensures.ok c.flush.ensures.nothing
    c.flush.ensures.kept c.flush.ensures.refused (waits_of c.args.self.now.server) refl)

pub returns-else-waited-clause-leaves : goal.returns-else-waited-clause-leaves
returns-else-waited-clause-leaves g c =
    leaves_all {old = c.args.self.now.server} {new = c.args.self.now.server} (get c.args.self.now.peers) (not_called c.args.self.now.server)
