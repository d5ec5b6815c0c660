-- Version 3: what its superblock says beside the sizes and the restart count, and its seats. It has no
-- bitmap; the seats and the log are at the end of the volume, and a seat's place is free if its first
-- sector is zero, whatever the others hold.
use Rattle.std.specs.Prelude.{◌+◌, ◌-◌, ◌&&◌, ◌||◌, ◌++◌, ℕ, Bool, false, List, nat_le, nat_lt, replicate, if◌then◌else◌}
use Rattle.std.specs.Int.{w16, w32, w64, to_be_bytes}
use Rattle.disk.specs.Calls.{zero_sector}
use Rattle.geometry.specs.Places.{seats_start}
use Rattle.geometry.specs.declared.geometry.Geometry.{Geometry}
use Rattle.geometry.specs.declared.superblock.Superblock.{Superblock}
use Rattle.model_tree.specs.Seats.Seats.{Seats}
use Rattle.seats.specs.Encoding.{is_determined_in, seats_sector}
use Rattle.seats.specs.Sizes.{all_sectors}
use Rattle.seats.specs.declared.sizes.SeatSizes.{SeatSizes}

-- The superblock after the restart count: bytes 24 to 4,095
abbrev pub rest_of : Superblock → List ℕ
rest_of s =
    to_be_bytes w32 s.geometry.log
    ++ to_be_bytes w16 s.geometry.seats
    ++ to_be_bytes w16 s.geometry.slots
    ++ to_be_bytes w32 s.geometry.names
    ++ replicate 4 0
    ++ to_be_bytes w64 s.geometry.file_bytes
    ++ s.identity
    ++ replicate 4032 0

-- Seats: as many places, with room for as many slots, as the superblock says

abbrev pub large_sizes : Geometry → SeatSizes
large_sizes g = record { places = g.seats; slots = g.slots }

abbrev pub is_of_seats : Geometry → Seats → (n : ℕ) → Bool
is_of_seats g seats n =
    nat_le (seats_start g) n && nat_lt n (seats_start g + all_sectors (large_sizes g))
    && is_determined_in (large_sizes g) false (n - seats_start g) seats

-- Sectors 98 to 147 are zero
abbrev pub is_large_spare : Geometry → Seats → (n : ℕ) → Bool
is_large_spare g seats n = (nat_le 98 n && nat_lt n 148) || is_of_seats g seats n

abbrev pub large_spare : Geometry → Seats → (n : ℕ) → List ℕ
large_spare g seats n =
    if nat_lt n 148 then zero_sector else seats_sector (large_sizes g) (n - seats_start g) seats
