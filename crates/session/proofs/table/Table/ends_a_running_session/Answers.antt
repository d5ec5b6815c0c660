use Rattle.std.proofs.Common.{rules, tests, sym, ◌∙◌, ◌&&◌}
use Rattle.std.proofs.lemmas.Iterator.{YieldsList-from_slice}
use Rattle.std.proofs.lemmas.Iterator.Search.{any_from_yields_List}
use Rattle.model.specs.Sessions.Session.{is_of_clients, is_running, Session as Known}
use Rattle.session.specs.declared.session.Session.{Session}
use Rattle.session.specs.Rooms.{ended_by}
use Rattle.session.specs.Views.{table_of, client_of, clients_of, session_of}
use Rattle.session.proofs.Lists.{list_any-map}
use Rattle.session.proofs.table.Table.ends_a_running_session.Goals as goal

pub returns : goal.returns
unfolding table_of
returns c =
    let ended = ended_by (client_of c.args.client.now) (clients_of c.args.self.now.clients) in
    any_from_yields_List (λ (session : Session). is_of_clients ended (session_of session) && is_running (session_of session)) _ _ c.any.result c.any.ensures.ran
    (YieldsList-from_slice c.args.self.now.sessions.list.items cc) (λ x b q k. search (rules, tests))
    ∙ sym (list_any-map (λ (session : Known). is_of_clients ended session && is_running session) session_of c.args.self.now.sessions.list.items)
