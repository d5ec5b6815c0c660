use Rattle.std.proofs.Common.{◌≡◌, ◌++◌, drop, map}
use Rattle.session.specs.Views.{client_of, clients_of}
use Rattle.session.specs.Rooms.{ended_by}
use Rattle.session.proofs.clients.Clients.ending.Given as goal

abbrev pub invariant-loop-other : goal.invariant-loop-other
invariant-loop-other l = l.ended.items ++ ended_by (client_of l.client) (map client_of (drop l.other-index l.self.list.items)) ≡ ended_by (client_of l.client) (clients_of l.self)
