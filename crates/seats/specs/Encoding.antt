-- The sectors of a seat, byte by byte. A free place has only sectors of zeros. The first sector of
-- a taken place has `SESS` and says whose it is; four follow for each slot that a place has room for.
use Rattle.std.specs.Prelude.{◌≡◌, ◌≤◌, ◌<◌, ◌+◌, ◌-◌, ◌*◌, ◌/◌, ◌%◌, ◌^◌, ◌==◌, ◌||◌, ◌++◌, ℕ, Bool, true, List, [], Option, Some, None, IsTrue, codes, drop, length, replicate, slice_index_or, take, if◌then◌else◌}
use Rattle.std.specs.Int.{w32, to_be_bytes}
use Rattle.std.specs.List.{AllByRecursion}
use Rattle.model_tree.specs.Seats.Seats.{HeldReply, Seat, Seats}
use Rattle.seats.specs.Sizes.{all_sectors, place_sectors}
use Rattle.seats.specs.declared.sizes.SeatSizes.{SeatSizes}

-- What can be encoded

pub record IsHeld (held : HeldReply) : Type 0 where
  pub number : held.number < 2 ^ 32
  pub uid : held.uid < 2 ^ 32
  pub result : length held.result ≤ 16360

abbrev pub IsSlot : Option HeldReply → Type 0
IsSlot None = Unit {0}
IsSlot (Some held) = IsHeld held

-- in a place with room for `slots` slots
pub record IsSeat (slots : ℕ) (seat : Seat) : Type 0 where
  pub session : length seat.session ≡ 16
  pub owner : length seat.owner ≤ 1024
  pub principal : seat.principal < 2 ^ 32
  pub some : 1 ≤ length seat.slots
  pub few : length seat.slots ≤ slots
  pub each : AllByRecursion IsSlot seat.slots

abbrev pub IsSeatPlace : (slots : ℕ) → Option Seat → Type 0
IsSeatPlace slots None = Unit {0}
IsSeatPlace slots (Some seat) = IsSeat slots seat

-- the places of a volume
pub record ArePlaces (sizes : SeatSizes) (seats : Seats) : Type 0 where
  pub count : length seats ≡ sizes.places
  pub each : AllByRecursion (IsSeatPlace sizes.slots) seats

-- How

abbrev pub head_prefix : Seat → List ℕ
head_prefix seat =
    codes "SESS" ++ seat.session ++ to_be_bytes w32 seat.principal
    ++ to_be_bytes w32 (length seat.slots) ++ to_be_bytes w32 (length seat.owner)

unfoldable pub head_sector : Seat → List ℕ
head_sector seat =
    head_prefix seat ++ seat.owner ++ replicate (1024 - length seat.owner) 0 ++ replicate 3040 0

-- the four sectors of a slot
abbrev pub held_prefix : HeldReply → List ℕ
held_prefix held =
    to_be_bytes w32 1 ++ to_be_bytes w32 held.number ++ to_be_bytes w32 held.uid
    ++ to_be_bytes w32 (length held.result) ++ replicate 8 0

unfoldable pub slot_text : Option HeldReply → List ℕ
slot_text None = replicate 16384 0
slot_text (Some held) =
    held_prefix held ++ held.result ++ replicate (16360 - length held.result) 0

abbrev pub part_of : (k : ℕ) → List ℕ → List ℕ
part_of k text = take 4096 (drop (4096 * k) text)

abbrev pub slot_at : ℕ → Seat → Option HeldReply
slot_at slot seat = slice_index_or seat.slots slot None

-- sector k of a place
unfoldable pub seat_sector : (k : ℕ) → Option Seat → List ℕ
seat_sector k None = replicate 4096 0
seat_sector k (Some seat) =
    if k == 0 then head_sector seat
    else part_of ((k - 1) % 4) (slot_text (slot_at ((k - 1) / 4) seat))

-- Which sectors of a place are determined: each of a taken one, and the first of a free one. The
-- others of a free one are zero too if places are freed as a whole, and hold anything if not.
abbrev pub is_determined : (whole : Bool) → (k : ℕ) → Option Seat → Bool
is_determined whole k None = whole || (k == 0)
is_determined whole k (Some seat) = true

-- all those of a place with room for `slots` slots are the place's
abbrev pub AreSectorsOf : (slots : ℕ) → (ℕ → List ℕ) → Option Seat → Type 0
AreSectorsOf slots sectors place =
    (k : ℕ) → k < 1 + 4 * slots → sectors k ≡ seat_sector k place

-- those that are determined are
abbrev pub HoldPlace : (slots : ℕ) → (whole : Bool) → (ℕ → List ℕ) → Option Seat → Type 0
HoldPlace slots whole sectors place =
    (k : ℕ) → k < 1 + 4 * slots → IsTrue (is_determined whole k place)
    → sectors k ≡ seat_sector k place

-- the sectors of a list by their numbers
abbrev pub sector_of : List (List ℕ) → ℕ → List ℕ
sector_of sectors k = slice_index_or sectors k []

-- sector n of all places
abbrev pub seats_sector : SeatSizes → (n : ℕ) → Seats → List ℕ
seats_sector sizes n seats =
    seat_sector (n % place_sectors sizes)
    (slice_index_or seats (n / place_sectors sizes) None)

-- whether it is determined
abbrev pub is_determined_in : SeatSizes → (whole : Bool) → (n : ℕ) → Seats → Bool
is_determined_in sizes whole n seats =
    is_determined whole (n % place_sectors sizes)
    (slice_index_or seats (n / place_sectors sizes) None)

-- the determined ones hold these seats
abbrev pub HoldPlaces : SeatSizes → (whole : Bool) → (ℕ → List ℕ) → Seats → Type 0
HoldPlaces sizes whole sectors seats =
    (n : ℕ) → n < all_sectors sizes → IsTrue (is_determined_in sizes whole n seats)
    → sectors n ≡ seats_sector sizes n seats
