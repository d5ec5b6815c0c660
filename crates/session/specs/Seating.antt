-- Which seats change.
use Rattle.std.specs.Prelude.{◌≡◌, ℕ, Bool, true, false, ◌&&◌, ◌||◌, if◌then◌else◌, List, map, position, replicate, slice_set, length, nat_lt, Option, None, Some}
use Rattle.std.specs.Option.{option_map}
use Rattle.model.specs.Operations.Operation.{CreateSessionArguments}
use Rattle.model_tree.specs.Seats.Seats.{Seat, Seats, is_seat_of, held_in}
use Rattle.model_tree.specs.Seats.SeatEdits.{SeatEdit, Stays, Frees, Takes, edited_seat, edited_all, CanEditAll}
use Rattle.model.specs.Sessions.Session.{Client, Table, asks_seat, is_done_with, is_oldest_dead}

-- The seat of one session

abbrev pub is_place_of : List ℕ → Option Seat → Bool
is_place_of id None = false
is_place_of id (Some seat) = is_seat_of id seat

abbrev pub edited_if : List ℕ → SeatEdit → Option Seat → Option Seat
edited_if id edit place = if is_place_of id place then edited_seat edit place else place

-- what it holds of a slot
abbrev pub reply_held : ℕ → Option Seat → Option (List ℕ)
reply_held place seat = option_map (λ held. held.result) (held_in place seat)

abbrev pub has_held_slot : ℕ → Option Seat → Bool
has_held_slot place None = false
has_held_slot place (Some seat) = nat_lt place (length seat.slots)

-- the edits change only that one, however many slots a place has room for
pub record EditsOne (id : List ℕ) (edit : SeatEdit) (seats : Seats)
    (edits : List SeatEdit) : Type 0 where
  pub edited : edited_all edits seats ≡ map (edited_if id edit) seats
  pub can : (slots : ℕ) → CanEditAll slots edits seats

-- Seats that give way

abbrev pub freeing : (Seat → Bool) → Option Seat → SeatEdit
freeing gone None = Stays
freeing gone (Some seat) = if gone seat then Frees else Stays

-- the place is free then
abbrev pub is_left_free : (Seat → Bool) → Option Seat → Bool
is_left_free gone None = true
is_left_free gone (Some seat) = gone seat

-- the seats that give way, by whether one is lacking
abbrev pub gives_way_if : (lacks : Bool) → Client → Table → Seat → Bool
gives_way_if lacks client table seat =
    lacks && is_oldest_dead table seat || is_done_with client table seat

-- the place of the new session's seat
abbrev pub place_for : (lacks : Bool) → CreateSessionArguments → Client → Table → Option ℕ
place_for lacks arguments client table =
    if asks_seat arguments table
    then position (is_left_free (gives_way_if lacks client table)) table.seats
    else None

-- a seat of the client's, which holds no reply
abbrev pub seat_with : Client → (id : List ℕ) → (slots : ℕ) → Seat
seat_with client id slots = record {
  session = id;
  owner = client.owner;
  principal = client.principal;
  slots = replicate slots None;
}

abbrev pub edits_with : (Seat → Bool) → Option ℕ → Seat → Seats → List SeatEdit
edits_with gone None seat seats = map (freeing gone) seats
edits_with gone (Some place) seat seats = slice_set (map (freeing gone) seats) place (Takes seat)
