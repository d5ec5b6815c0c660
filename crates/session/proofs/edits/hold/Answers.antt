use Rattle.std.proofs.Common.{List, Option, Some, ap}
use Rattle.std.specs.Option.{option_map}
use Rattle.std.proofs.lemmas.List.{map-set}
use Rattle.model_tree.specs.Seats.Seats.{HeldReply, Seat}
use Rattle.model_tree.specs.Seats.SeatViews.{held_view, seat_view}
use Rattle.session.proofs.edits.hold.Goals as goal

pub returns-then-slot-len : goal.returns-then-slot-len
returns-then-slot-len c =
    let seat = c.args.seat.now in
    ap (λ (slots : List (Option HeldReply)). let with_slots : Seat = record (seat_view seat) { slots = slots } in with_slots)
    (map-set (option_map held_view) seat.slots.items c.args.slot (Some c.args.held))
