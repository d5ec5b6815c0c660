use Rattle.std.proofs.Common.{◌≡◌, drop, map, find}
use Rattle.session.specs.Rooms.{may_yield}
use Rattle.session.specs.Views.{client_of, clients_of}
use Rattle.session.proofs.clients.Clients.first_to_yield.Given as goal

abbrev pub invariant-loop-client : goal.invariant-loop-client
invariant-loop-client l =
    find (may_yield l.owner l.dropped) (clients_of l.self) ≡ find (may_yield l.owner l.dropped) (map client_of (drop l.client-index l.self.list.items))
