use Rattle.std.proofs.Common.{◌≡◌, Bool, true, false, not, ◌&&◌, Option, is_some, refl, sym, ap, ◌∙◌, rules, tests}
use Rattle.model.specs.Operations.Operation.{CreateSessionArguments}
use Rattle.model_tree.specs.Seats.Seats.{freed, has_free}
use Rattle.model.specs.Sessions.Session.{Client, Table, asks_seat, is_done_with}
use Rattle.wire.specs.ArgumentViews.{create_session_view}
use Rattle.session.specs.Seating.{gives_way_if}
use Rattle.session.specs.Views.{table_of, client_of}
use Rattle.session.proofs.Taking.{free_found}
use Rattle.session.proofs.table.Table.lacks_seat.Goals as goal

twice : (b : Bool) → not (not b) ≡ b
twice true = refl
twice false = refl

pub returns-then-asks_seat : goal.returns-then-asks_seat
unfolding table_of
returns-then-asks_seat c =
    let table : Table = table_of c.args.self.now in
    let client : Client = client_of c.args.client.now in
    let arguments : CreateSessionArguments = create_session_view c.args.arguments.now in
    let lacks : Bool = not (has_free (freed (is_done_with client table) table.seats)) in
    let yields : table.settings.yields_when_full ≡ true = search (rules, tests) in
    let asks : asks_seat arguments table ≡ true = search (rules, tests) in
    let free = free_found (gives_way_if false client table) table.seats c.first_left_free.result (sym c.first_left_free.ensures) in
    let none : lacks ≡ c.is_none.result = ap not (free ∙ c.is_none.ensures) ∙ twice c.is_none.result in
    sym (ap (λ (b : Bool). b && asks_seat arguments table && lacks) yields ∙ (ap (λ (b : Bool). true && b && lacks) asks ∙ none))
