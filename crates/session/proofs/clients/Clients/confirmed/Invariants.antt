use Rattle.std.proofs.Common.{◌≡◌, drop, map, find}
use Rattle.model.specs.Sessions.Session.{is_confirmed_of}
use Rattle.session.specs.Views.{client_of, clients_of}
use Rattle.session.proofs.clients.Clients.confirmed.Given as goal

abbrev pub invariant-loop-client : goal.invariant-loop-client
invariant-loop-client l = find (is_confirmed_of l.owner) (clients_of l.self) ≡ find (is_confirmed_of l.owner) (map client_of (drop l.client-index l.self.list.items))
