-- Whatever the code holds can be encoded.
use Rattle.std.proofs.Common.{List, [], ◌∷◌, ◌≤◌, ℕ, Option, Some, None, map, arith}
use Rattle.std.specs.Prelude.{vec_len}
use Rattle.std.specs.Option.{option_map}
use Rattle.std.specs.List.{AllByRecursion}
use Rattle.std.proofs.lemmas.List.{length-map}
use Rattle.model_tree.specs.Seats.SeatViews.{held_view, seat_view, place_view}
use Rattle.model_tree.specs.declared.seats.HeldReply.{HeldReply}
use Rattle.model_tree.specs.declared.seats.Seat.{Seat}
use Rattle.seats.specs.Encoding.{IsHeld, IsSeatPlace, IsSeat, IsSlot}

pub every_held : (held : HeldReply) → IsHeld (held_view held)
every_held held = record { number = held.number_fits; uid = held.uid_fits; result = held.short }

every_slot : (slots : List (Option HeldReply)) → AllByRecursion IsSlot (map (option_map held_view) slots)
every_slot [] = tt
every_slot (None ∷ slots) = (tt, every_slot slots)
every_slot (Some held ∷ slots) = (every_held held, every_slot slots)

pub every_seat : (slots : ℕ) (seat : Seat) → vec_len seat.slots ≤ slots → IsSeat slots (seat_view seat)
every_seat slots seat fits =
    let count = length-map seat.slots.items (option_map held_view) in
    record {
      session = seat.sixteen;
      owner = seat.owned;
      principal = seat.principal_fits;
      some = omega (arith, seat.some, count);
      few = omega (arith, fits, count);
      each = every_slot seat.slots.items;
    }

-- the seat in a place, if there is one, has no more slots than that
abbrev pub HasRoom : (slots : ℕ) → Option Seat → Type 0
HasRoom slots None = Unit {0}
HasRoom slots (Some seat) = vec_len seat.slots ≤ slots

pub every_place : (slots : ℕ) (place : Option Seat) → HasRoom slots place → IsSeatPlace slots (place_view place)
every_place slots None fits = tt
every_place slots (Some seat) fits = every_seat slots seat fits
