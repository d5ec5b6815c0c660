use Rattle.std.proofs.Common.{not, ◌&&◌, rules, tests, sym, ◌∙◌}
use Rattle.std.proofs.lemmas.Iterator.{YieldsList-from_slice}
use Rattle.std.proofs.lemmas.Iterator.Search.{any_from_yields_List}
use Rattle.model.specs.Sessions.Session.{is_session, is_of_clients, Session as Known}
use Rattle.session.specs.declared.session.Session.{Session}
use Rattle.session.specs.Rooms.{ended_by}
use Rattle.session.specs.Views.{table_of, client_of, clients_of, session_of, sessions_of}
use Rattle.session.proofs.Lists.{list_any-map, any_left}
use Rattle.session.proofs.table.Table.is_staying.Goals as goal

pub returns : goal.returns
unfolding table_of
returns c =
    let ended = ended_by (client_of c.args.client.now) (clients_of c.args.self.now.clients) in
    let id = c.args.id.now in
    any_from_yields_List (λ (session : Session). not (is_of_clients ended (session_of session)) && is_session id (session_of session)) _ _ c.any.result c.any.ensures.ran
    (YieldsList-from_slice c.args.self.now.sessions.list.items cc) (λ x b q k. search (rules, tests))
    ∙ sym (list_any-map (λ (session : Known). not (is_of_clients ended session) && is_session id session) session_of c.args.self.now.sessions.list.items)
    ∙ sym (any_left (is_session id) (λ (session : Known). not (is_of_clients ended session)) (sessions_of c.args.self.now.sessions))
