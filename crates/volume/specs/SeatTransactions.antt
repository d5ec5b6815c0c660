-- What edits of seats write: one transaction.
use Rattle.std.specs.Prelude.{◌≡◌, ◌≤◌, ◌<◌, ◌+◌, ◌⊎◌, ℕ, List, length, if◌then◌else◌}
use Rattle.disk.specs.Moments.{Image, applied}
use Rattle.disk.specs.declared.update.Update.{Update}
use Rattle.journal.specs.Layout.{AreTargets, targets}
use Rattle.layout.specs.Versions.{HoldSeats, frees_whole, seats_from, sizes_by}
use Rattle.layout.specs.declared.versions.VersionNumber.{VersionNumber}
use Rattle.model_tree.specs.Seats.SeatEdits.{SeatEdit, CanEditAll, edited_all}
use Rattle.model_tree.specs.Seats.Seats.{Seats}
use Rattle.seats.specs.Encoding.{ArePlaces}
use Rattle.seats.specs.Sizes.{all_sectors, place_sectors}
use Rattle.volume.specs.SeatUpdates.{slots_by}

-- an image that held the seats holds the edited ones after the updates, and those can be encoded
pub record LaysEditedSeats (version : VersionNumber) (edits : List SeatEdit)
    (updates : List Update) (seats : Seats) (image : Image) : Type 0 where
  pub places : ArePlaces (sizes_by version) (edited_all edits seats)
  pub lays : HoldSeats version image seats
      → HoldSeats version (applied updates image) (edited_all edits seats)

-- How many sectors it has at most: those of all places if freeing one writes each of its sectors;
-- else those of the one place that is taken, and one for each
abbrev pub most_updates : VersionNumber → ℕ
most_updates version =
    let sizes = sizes_by version in
    if frees_whole version then all_sectors sizes else place_sectors sizes + sizes.places

-- A transaction of only the seats' sectors
pub record AreUpdates (version : VersionNumber) (edits : List SeatEdit) (updates : List Update)
    : Type 0 where
  pub few : length updates ≤ most_updates version
  pub targets_are : (end : ℕ) → seats_from version + all_sectors (sizes_by version) ≤ end
      → AreTargets end (targets updates)
  pub others : (image : Image) (n : ℕ)
      → (n < seats_from version) ⊎ (seats_from version + all_sectors (sizes_by version) ≤ n)
      → applied updates image n ≡ image n
  pub edited : (image : Image) (seats : Seats) → ArePlaces (sizes_by version) seats
      → CanEditAll (slots_by version) edits seats
      → LaysEditedSeats version edits updates seats image
