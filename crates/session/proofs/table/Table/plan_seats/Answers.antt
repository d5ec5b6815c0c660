use Rattle.std.proofs.Common.{List, map, set, sym, ap, ◌∙◌, arith}
use Rattle.std.proofs.lemmas.List.{length-set, map-set}
use Rattle.model_tree.specs.Seats.Seats.{Seat}
use Rattle.model_tree.specs.declared.seats.SeatEdit.TheVariants as kinds
use Rattle.model_tree.specs.Seats.SeatEdits.{SeatEdit, Takes, edit_view}
use Rattle.model_tree.specs.Seats.SeatViews.{seat_view, seats_view}
use Rattle.session.specs.Seating.{gives_way_if, freeing, seat_with, edits_with}
use Rattle.session.specs.Views.{table_of, client_of}
use Rattle.session.proofs.Writes.{none_if_freed, one_if_set}
use Rattle.session.proofs.table.Table.plan_seats.Goals as goal

pub invariant_of-edits : goal.invariant_of-edits
unfolding table_of
invariant_of-edits c =
    let gone = gives_way_if c.args.lacks (client_of c.args.client.now) (table_of c.args.self.now) in
    let edits = c.in_ok-edits.edits.list.items in
    let edit = kinds.Takes c.in_ok-new_seat.field-0 in
    let one = one_if_set edits c.in-Some.place edit (none_if_freed gone (seats_view c.args.self.now.seats) edits c.in_ok-edits.ensures) in
    record { few = omega (arith, length-set edits c.in-Some.place edit, c.in_ok-edits.edits.few); one = one }

pub returns : goal.returns
unfolding table_of
returns c =
    let gone = gives_way_if c.args.lacks (client_of c.args.client.now) (table_of c.args.self.now) in
    let seats = seats_view c.args.self.now.seats in
    let seat = seat_with (client_of c.args.client.now) c.args.id c.args.slots in
    map-set edit_view c.in_ok-edits.edits.list.items c.in-Some.place (kinds.Takes c.in_ok-new_seat.field-0)
    ∙ ap (λ (edits : List SeatEdit). set edits c.in-Some.place (Takes (seat_view c.in_ok-new_seat.field-0))) c.in_ok-edits.ensures
    ∙ ap (λ (seat : Seat). set (map (freeing gone) seats) c.in-Some.place (Takes seat)) c.in_ok-new_seat.ensures
    ∙ ap (λ place. edits_with gone place seat seats) (sym c.in-Some.is)
