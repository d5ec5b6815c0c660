use Rattle.std.proofs.Common.{nat_lt, sym, ap, ◌∙◌}
use Rattle.std.specs.Option.{option_map, option_copied}
use Rattle.std.proofs.lemmas.List.{length-map}
use Rattle.model_tree.specs.Seats.SeatViews.{held_view, seat_view}
use Rattle.session.specs.Seating.{has_held_slot}
use Rattle.session.specs.Views.{table_of}
use Rattle.session.proofs.table.Table.has_held_slot.Goals as goal

pub returns-in-Some : goal.returns-in-Some
unfolding table_of
returns-in-Some c =
    let found = sym c.find_seat.ensures ∙ ap (λ r. option_map seat_view (option_copied r)) c.in-Some.is in
    ap (λ n. nat_lt c.args.slot n) (c.len.ensures ∙ c.in-Some.seat.now.slots.ok.0 ∙ sym (length-map c.in-Some.seat.now.slots.items (option_map held_view)))
    ∙ sym (ap (has_held_slot c.args.slot) found)

pub returns-in-None : goal.returns-in-None
unfolding table_of
returns-in-None c =
    let found = sym c.find_seat.ensures ∙ ap (λ r. option_map seat_view (option_copied r)) c.in-None.is in
    sym (ap (has_held_slot c.args.slot) found)
