use Rattle.std.proofs.Common.{◌≡◌, ◌≤◌, List, length, map, replicate, set, sym, ap, ◌∙◌, subst, arith}
use Rattle.std.proofs.lemmas.List.{length-map, length-set, map-set}
use Rattle.model_tree.specs.Seats.SeatEdits.{SeatEdit, Stays, edit_view}
use Rattle.model_tree.specs.Seats.SeatViews.{place_view, seats_view}
use Rattle.session.specs.Seating.{EditsOne}
use Rattle.session.specs.Views.{table_of}
use Rattle.session.proofs.EditLaws.{edits_found, edits_none}
use Rattle.session.proofs.Writes.{none_if_stay, one_if_set}
use Rattle.session.proofs.table.Table.edit_seat.Goals as goal

pub invariant_of-edits : goal.invariant_of-edits
invariant_of-edits c =
    let edits = c.in_ok-edits.edits.list.items in
    let one = one_if_set edits c.in-Some.place c.args.edit (none_if_stay c.len.result edits c.in_ok-edits.ensures) in
    record { few = omega (arith, length-set edits c.in-Some.place c.args.edit, c.in_ok-edits.edits.few); one = one }

pub returns-in_default : goal.returns-in_default
unfolding table_of
returns-in_default c =
    let old = c.args.self.now in
    let places = old.seats.places.items in
    let all = c.len.ensures ∙ old.seats.places.ok.0 ∙ sym (length-map places place_view) in
    subst (EditsOne c.args.id.now (edit_view c.args.edit) (seats_view old.seats)) (sym c.in_ok-edits.ensures)
    (edits_none c.args.id.now (edit_view c.args.edit) c.len.result (seats_view old.seats) all (sym c.place_of.ensures ∙ c.in_default.is))

pub returns : goal.returns
unfolding table_of
returns c =
    let old = c.args.self.now in
    let places = old.seats.places.items in
    let all = c.len.ensures ∙ old.seats.places.ok.0 ∙ sym (length-map places place_view) in
    let edits = map-set edit_view c.in_ok-edits.edits.list.items c.in-Some.place c.args.edit ∙ ap (λ (edits : List SeatEdit). set edits c.in-Some.place (edit_view c.args.edit)) c.in_ok-edits.ensures in
    subst (EditsOne c.args.id.now (edit_view c.args.edit) (seats_view old.seats)) (sym edits)
    (edits_found c.args.id.now (edit_view c.args.edit) c.len.result (seats_view old.seats) c.in-Some.place all old.given.apart (sym c.place_of.ensures ∙ c.in-Some.is) c.requires)
