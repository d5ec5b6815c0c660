-- What sectors say about seats, whatever their bytes: nothing is checked. For sectors in which
-- seats are encoded, it is these seats: so they encode at most one list of seats. Of a free place only
-- the first sector is looked at.
use Rattle.std.specs.Prelude.{◌≡◌, ◌+◌, ◌*◌, ◌==◌, ◌++◌, ℕ, Bool, List, Option, Some, None, drop, map, slice_index, take, if◌then◌else◌}
use Rattle.std.specs.List.{range_with_len}
use Rattle.std.specs.Int.{w32, from_be_bytes}
use Rattle.model_tree.specs.Seats.Seats.{HeldReply, Seat, Seats}
use Rattle.seats.specs.Encoding.{ArePlaces, HoldPlaces}
use Rattle.seats.specs.Sizes.{AreSizes, place_sectors}
use Rattle.seats.specs.declared.sizes.SeatSizes.{SeatSizes}

abbrev pub held_in : List ℕ → HeldReply
held_in text = record {
  number = from_be_bytes w32 (drop 4 text);
  uid = from_be_bytes w32 (drop 8 text);
  result = take (from_be_bytes w32 (drop 12 text)) (drop 24 text);
}

unfoldable pub slot_in : List ℕ → Option HeldReply
slot_in text = if from_be_bytes w32 text == 1 then Some (held_in text) else None

-- from the sector of this number on
abbrev pub text_from : (ℕ → List ℕ) → (first : ℕ) → List ℕ
text_from sectors first =
    sectors first ++ sectors (first + 1) ++ sectors (first + 2) ++ sectors (first + 3)

-- the first `count` slots, from sector 1 on
abbrev pub slots_in : (count : ℕ) → (ℕ → List ℕ) → List (Option HeldReply)
slots_in count sectors =
    map (λ slot. slot_in (text_from sectors (1 + 4 * slot))) (range_with_len 0 count)

abbrev pub head_in : List ℕ → List (Option HeldReply) → Seat
head_in head slots = record {
  session = take 16 (drop 4 head);
  owner = take (from_be_bytes w32 (drop 28 head)) (drop 32 head);
  principal = from_be_bytes w32 (drop 20 head);
  slots = slots;
}

abbrev pub taken_from : (ℕ → List ℕ) → Seat
taken_from sectors =
    head_in (sectors 0) (slots_in (from_be_bytes w32 (drop 24 (sectors 0))) sectors)

-- the first byte of a seat that is taken is an S
unfoldable pub seat_in : (ℕ → List ℕ) → Option Seat
seat_in sectors = if slice_index (sectors 0) 0 == 83 then Some (taken_from sectors) else None

abbrev pub seat_from : (ℕ → List ℕ) → (first : ℕ) → Option Seat
seat_from sectors first = seat_in (λ k. sectors (first + k))

-- the seats of all places
unfoldable pub seats_in : SeatSizes → (ℕ → List ℕ) → Seats
seats_in sizes sectors =
    map (λ place. seat_from sectors (place_sectors sizes * place))
    (range_with_len 0 sizes.places)

-- The law
abbrev pub SeatsReadBack : Type 0
SeatsReadBack =
    (sizes : SeatSizes) (whole : Bool) (seats : Seats) (sectors : ℕ → List ℕ)
    → AreSizes sizes → ArePlaces sizes seats → HoldPlaces sizes whole sectors seats
    → seats_in sizes sectors ≡ seats
