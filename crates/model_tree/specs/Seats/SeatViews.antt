-- What the code's seats represent.
use Rattle.std.specs.Prelude.{map, Option}
use Rattle.std.specs.Option.{option_map}
use Rattle.model_tree.specs.Seats.Seats as model
use Rattle.model_tree.specs.declared.seats.HeldReply.{HeldReply}
use Rattle.model_tree.specs.declared.seats.Seat.{Seat}
use Rattle.model_tree.specs.declared.seats.Seats.{Seats}

abbrev pub held_view : HeldReply → model.HeldReply
held_view held = record { number = held.number; uid = held.uid; result = held.result.items }

abbrev pub seat_view : Seat → model.Seat
seat_view seat = record {
  session = seat.session;
  owner = seat.owner.items;
  principal = seat.principal;
  slots = map (option_map held_view) seat.slots.items;
}

abbrev pub place_view : Option Seat → Option model.Seat
place_view place = option_map seat_view place

abbrev pub seats_view : Seats → model.Seats
seats_view seats = map place_view seats.places.items
