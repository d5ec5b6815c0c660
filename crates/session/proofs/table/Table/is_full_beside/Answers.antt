use Rattle.std.proofs.Common.{◌≡◌, ℕ, ◌-◌, ◌<◌, ◌≤◌, ◌^◌, ◌==◌, ◌||◌, nat_le, not, length, filter, ap, rules, tests, arith, sym, ◌∙◌}
use Rattle.std.proofs.lemmas.Bool.Decides.{nat_tests}
use Rattle.std.proofs.lemmas.List.{length-map}
use Rattle.std.proofs.lemmas.Iterator.{YieldsList-from_slice}
use Rattle.std.proofs.lemmas.Iterator.Consumers.{YieldsList-from_filter, count_from_yields_List}
use Rattle.model.specs.Sessions.Session.{is_of_clients, Session as Known}
use Rattle.model.proofs.Operations.NodeAttributeLaws.{filter-map}
use Rattle.session.specs.declared.session.Session.{Session}
use Rattle.session.specs.Rooms.{ended_by}
use Rattle.session.specs.Views.{table_of, client_of, clients_of, session_of, sessions_of}
use Rattle.session.proofs.table.Table.is_full_beside.Goals as goal

no_place : (most count stay serial : ℕ) → count ≡ stay → most ≤ count → nat_le most count ≡ (nat_le most stay || nat_le (2 ^ 64 - 1) serial)
no_place most count stay serial e full = grind (arith, nat_tests)

serial_tells : (most count stay serial : ℕ) → count ≡ stay → count < most → serial < 2 ^ 64 → (serial == 2 ^ 64 - 1) ≡ (nat_le most stay || nat_le (2 ^ 64 - 1) serial)
serial_tells most count stay serial e left small = grind (arith, nat_tests)

pub returns-then-limits-staying : goal.returns-then-limits-staying
unfolding table_of
returns-then-limits-staying c =
    let ended = ended_by (client_of c.args.client.now) (clients_of c.args.self.now.clients) in
    let stays = λ (session : Session). not (is_of_clients ended (session_of session)) in
    let count : c.count-staying.result ≡ length (filter (λ (session : Known). not (is_of_clients ended session)) (sessions_of c.args.self.now.sessions)) =
    count_from_yields_List _ c.count-staying.result c.count-staying.ensures.ran
    (YieldsList-from_filter _ stays (YieldsList-from_slice c.args.self.now.sessions.list.items cc) c.filter.ensures.closure (λ x b q k. search (rules, tests)))
    ∙ sym (length-map (filter stays c.args.self.now.sessions.list.items) session_of)
    ∙ sym (ap length (filter-map (λ (session : Known). not (is_of_clients ended session)) session_of c.args.self.now.sessions.list.items)) in
    no_place c.args.limits.sessions c.count-staying.result _ c.args.self.now.sessions.serial count (omega arith)

pub returns-else-limits-staying : goal.returns-else-limits-staying
unfolding table_of
returns-else-limits-staying c =
    let ended = ended_by (client_of c.args.client.now) (clients_of c.args.self.now.clients) in
    let stays = λ (session : Session). not (is_of_clients ended (session_of session)) in
    let count : c.count-staying.result ≡ length (filter (λ (session : Known). not (is_of_clients ended session)) (sessions_of c.args.self.now.sessions)) =
    count_from_yields_List _ c.count-staying.result c.count-staying.ensures.ran
    (YieldsList-from_filter _ stays (YieldsList-from_slice c.args.self.now.sessions.list.items cc) c.filter.ensures.closure (λ x b q k. search (rules, tests)))
    ∙ sym (length-map (filter stays c.args.self.now.sessions.list.items) session_of)
    ∙ sym (ap length (filter-map (λ (session : Known). not (is_of_clients ended session)) session_of c.args.self.now.sessions.list.items)) in
    serial_tells c.args.limits.sessions c.count-staying.result _ c.args.self.now.sessions.serial count (omega arith) c.args.self.now.sessions.small
