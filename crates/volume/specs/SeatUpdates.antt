-- What edits of seats write, sector by sector.
use Rattle.std.specs.Prelude.{◌+◌, ◌*◌, ◌++◌, ℕ, suc, List, [], ◌∷◌, Option, Some, None, map, nat_lt, take, if◌then◌else◌}
use Rattle.std.specs.List.{range_with_len}
use Rattle.disk.specs.declared.update.Update.{Update}
use Rattle.layout.specs.Versions.{frees_whole, seats_from, sizes_by}
use Rattle.layout.specs.declared.versions.VersionNumber.{VersionNumber}
use Rattle.model_tree.specs.Seats.SeatEdits.{SeatEdit, Stays, Frees, Takes, Holds}
use Rattle.model_tree.specs.Seats.Seats.{HeldReply, Seat}
use Rattle.seats.specs.Encoding.{part_of, seat_sector, slot_text}
use Rattle.seats.specs.Sizes.{place_sectors}

-- `count` sectors, from the first one on
unfoldable pub row : (first count : ℕ) → (ℕ → List ℕ) → List Update
row first count content =
    map (λ k. record { target = first + k; content = content k }) (range_with_len 0 count)

-- the slots that a place has room for, and its sectors
abbrev pub slots_by : VersionNumber → ℕ
slots_by version = let sizes = sizes_by version in sizes.slots

abbrev pub sectors_by : VersionNumber → ℕ
sectors_by version = place_sectors (sizes_by version)

-- the first sector of a place
abbrev pub place_start : VersionNumber → (place : ℕ) → ℕ
place_start version place = seats_from version + sectors_by version * place

-- the first sectors of a place
abbrev pub place_updates : VersionNumber → (place count : ℕ) → Option Seat → List Update
place_updates version place count seat =
    row (place_start version place) count (λ k. seat_sector k seat)

-- the four sectors of a slot, if a place has room for it
abbrev pub slot_updates : VersionNumber → (place slot : ℕ) → HeldReply → List Update
slot_updates version place slot held =
    if nat_lt slot (slots_by version)
    then row (place_start version place + 1 + 4 * slot) 4
    (λ part. part_of part (slot_text (Some held)))
    else []

-- the sectors of a place that freeing it writes: each, or in version 3 the first
abbrev pub freed_sectors : VersionNumber → ℕ
freed_sectors version = if frees_whole version then sectors_by version else 1

abbrev pub edit_updates : VersionNumber → (place : ℕ) → SeatEdit → List Update
edit_updates version place Stays = []
edit_updates version place Frees = place_updates version place (freed_sectors version) None
edit_updates version place (Takes seat) =
    place_updates version place (sectors_by version) (Some seat)
edit_updates version place (Holds slot held) = slot_updates version place slot held

-- the edits of the places from this one on
abbrev pub updates_from : VersionNumber → (place : ℕ) → List SeatEdit → List Update
updates_from version place [] = []
updates_from version place (edit ∷ edits) =
    edit_updates version place edit ++ updates_from version (suc place) edits

-- and those of all places: an edit past the last place writes nothing
abbrev pub updates_by : VersionNumber → List SeatEdit → List Update
updates_by version edits = let sizes = sizes_by version in updates_from version 0 (take sizes.places edits)
