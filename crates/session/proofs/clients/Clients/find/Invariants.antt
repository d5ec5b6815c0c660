use Rattle.std.proofs.Common.{◌≡◌, drop, map, find}
use Rattle.model.specs.Sessions.Session.{is_client}
use Rattle.session.specs.Views.{client_of, clients_of}
use Rattle.session.proofs.clients.Clients.find.Given as goal

abbrev pub invariant-loop-client : goal.invariant-loop-client
invariant-loop-client l = find (is_client l.number) (clients_of l.self) ≡ find (is_client l.number) (map client_of (drop l.client-index l.self.list.items))
