use Rattle.std.proofs.Common.{refl}
use Rattle.peer.proofs.Serving.{begins_serving, none_yet}
use Rattle.peer.proofs.peers.Peers.new.Goals as goal

pub returns : goal.returns
returns g c = (refl, begins_serving c.args.server _ (none_yet _ (rw c.in_ok-with_capacity.was at c.with_capacity.ensures.empty)))
