-- How many places a volume has for seats, and how many slots each has room for.
use Rattle.std.specs.Prelude.{◌≤◌, ◌+◌, ◌*◌, ℕ}
use Rattle.seats.specs.declared.sizes.SeatSizes.{SeatSizes}

pub record AreSizes (sizes : SeatSizes) : Type 0 where
  pub some_places : 1 ≤ sizes.places
  pub few_places : sizes.places ≤ 64
  pub some_slots : 1 ≤ sizes.slots
  pub few_slots : sizes.slots ≤ 8

-- the sectors of a place, and of all of them
abbrev pub place_sectors : SeatSizes → ℕ
place_sectors sizes = 1 + 4 * sizes.slots

abbrev pub all_sectors : SeatSizes → ℕ
all_sectors sizes = sizes.places * place_sectors sizes
