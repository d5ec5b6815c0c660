-- Edits of seats: what changes when a session is made or ends, and when a reply is held.
use Rattle.std.specs.Prelude.{◌≤◌, ◌<◌, ℕ, Bool, true, false, ◌&&◌, List, [], ◌∷◌, length, map, Option, None, Some}
use Rattle.std.specs.Option.{option_map}
use Rattle.model_tree.specs.Seats.Seats.{HeldReply, Seat, Seats, AreOfRuns, with_held}
use Rattle.model_tree.specs.Seats.SeatViews.{held_view, seat_view}
use Rattle.model_tree.specs.declared.seat_edits.SeatEdits as code
use Rattle.model_tree.specs.declared.seats.SeatEdit as code_edit
use Rattle.model_tree.specs.declared.seats.SeatEdit.TheVariants as kinds

-- what becomes of a place
pub data SeatEdit : Type 0 where
  Stays : SeatEdit
  Frees : SeatEdit
  Takes : Seat → SeatEdit
  Holds : (slot : ℕ) → HeldReply → SeatEdit

abbrev pub edited_seat : SeatEdit → Option Seat → Option Seat
edited_seat Stays place = place
edited_seat Frees place = None
edited_seat (Takes seat) place = Some seat
edited_seat (Holds slot held) place = option_map (with_held slot held) place

-- one edit for each place
abbrev pub edited_all : List SeatEdit → Seats → Seats
edited_all [] seats = seats
edited_all (edit ∷ edits) [] = []
edited_all (edit ∷ edits) (place ∷ seats) = edited_seat edit place ∷ edited_all edits seats

-- a reply is held only for a slot that the seat has
abbrev pub HasSlot : (slot : ℕ) → Option Seat → Type 0
HasSlot slot None = ⊥
HasSlot slot (Some seat) = slot < length seat.slots

-- and a seat has at most as many slots as a place has room for
abbrev pub CanEdit : (slots : ℕ) → SeatEdit → Option Seat → Type 0
CanEdit slots Stays place = Unit {0}
CanEdit slots Frees place = Unit {0}
CanEdit slots (Takes seat) place = length seat.slots ≤ slots
CanEdit slots (Holds slot held) place = HasSlot slot place

abbrev pub CanEditAll : (slots : ℕ) → List SeatEdit → Seats → Type 0
CanEditAll slots [] seats = Unit {0}
CanEditAll slots (edit ∷ edits) [] = ⊥
CanEditAll slots (edit ∷ edits) (place ∷ seats) =
    CanEdit slots edit place × CanEditAll slots edits seats

-- nothing changes
abbrev pub stays : SeatEdit → Bool
stays Stays = true
stays Frees = false
stays (Takes seat) = false
stays (Holds slot held) = false

abbrev pub all_stay : List SeatEdit → Bool
all_stay [] = true
all_stay (edit ∷ edits) = stays edit && all_stay edits

-- edits that can be done in a volume that was mounted `run` times, and whose places have room for
-- `slots` slots each
pub record AreEdits (run slots : ℕ) (edits : List SeatEdit) (seats : Seats) : Type 0 where
  pub can : CanEditAll slots edits seats
  pub of_runs : AreOfRuns run (edited_all edits seats)

-- What the code's edits represent

abbrev pub edit_view : code_edit.SeatEdit → SeatEdit
edit_view kinds.Stays = Stays
edit_view kinds.Frees = Frees
edit_view (kinds.Takes seat) = Takes (seat_view seat)
edit_view (kinds.Holds slot held) = Holds slot (held_view held)

abbrev pub edits_view : code.SeatEdits → List SeatEdit
edits_view edits = map edit_view edits.list.items
