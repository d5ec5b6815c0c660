-- The versions of the layout.
use Rattle.std.specs.Prelude.{◌≡◌, ◌≤◌, ◌<◌, ◌+◌, ◌-◌, ◌/◌, ◌%◌, ◌++◌, ◌==◌, ◌&&◌, ℕ, Bool, true, false, ⊤, List, Option, Some, None, IsTrue, codes, nat_le, nat_lt, replicate, slice_index_or, if◌then◌else◌}
use Rattle.std.specs.Int.{w32, to_be_bytes}
use Rattle.disk.specs.Calls.{zero_sector}
use Rattle.disk.specs.Moments.{Image}
use Rattle.geometry.specs.Encoding.{IsSuperblock}
use Rattle.geometry.specs.Places as places
use Rattle.geometry.specs.Places.{log_area, seats_start}
use Rattle.inode.specs.declared.node.Form.{Form}
use Rattle.inode.specs.declared.node.Form.TheVariants as forms
use Rattle.journal.specs.Layout.{log_at_start}
use Rattle.journal.specs.declared.layout.LogArea.{LogArea}
use Rattle.layout.specs.Large.{is_large_spare, large_sizes, large_spare, rest_of}
use Rattle.layout.specs.Superblock.{is_size, no_rest}
use Rattle.layout.specs.declared.versions.Marking.{Marking}
use Rattle.layout.specs.declared.versions.Marking.TheVariants.{InSectors, AsNamed}
use Rattle.layout.specs.declared.versions.VersionNumber.{VersionNumber}
use Rattle.layout.specs.declared.versions.VersionNumber.TheVariants.{One, Two, Three}
use Rattle.model_tree.specs.Seats.Seats.{Seats, no_seats}
use Rattle.model_tree.specs.Trees.Limits.{limits_of}
use Rattle.model_tree.specs.declared.limits.Limits.{Limits}
use Rattle.seats.specs.Encoding.{is_determined_in, seats_sector}
use Rattle.seats.specs.Reading.{seats_in}
use Rattle.seats.specs.Sizes.{all_sectors}
use Rattle.seats.specs.declared.sizes.SeatSizes.{SeatSizes}

-- What versions of the layout differ in
pub record Version : Type 0 where
  -- the number in the superblock, and what follows the restart count there
  pub number : ℕ
  pub rest : List ℕ
  -- the numbers of sectors and nodes that a volume may have, and its limits by them
  pub is_size : (size nodes : ℕ) → Bool
  pub limits : (size nodes : ℕ) → Limits
  -- what marks used sectors, the sector at which the data region ends, and the journal's log
  pub marking : Marking
  pub data_end : (size : ℕ) → ℕ
  pub log : (size : ℕ) → LogArea
  -- how many places there are for seats, and the slots of each
  pub sizes : SeatSizes
  -- the form of a node's sector at each place of the table
  pub form : (place : ℕ) → Form
  -- which sectors are neither of a bitmap, of the node table nor of the data region, as far as what
  -- they hold is determined, and what they hold
  pub is_spare : (sector : ℕ) → Bool
  pub spare : (sector : ℕ) → List ℕ

-- the sector at which the sectors end that transactions write
abbrev pub end_of : Version → (size : ℕ) → ℕ
end_of version size = let log = version.log size in log.end

-- Each of these by the version's number, and in version 3 by its superblock

abbrev pub number_of_version : VersionNumber → ℕ
number_of_version One = 1
number_of_version Two = 2
number_of_version (Three s) = 3

abbrev pub rest_by : VersionNumber → List ℕ
rest_by One = no_rest
rest_by Two = no_rest
rest_by (Three s) = rest_of s

abbrev pub size_by : VersionNumber → (size nodes : ℕ) → Bool
size_by One size nodes = is_size size nodes
size_by Two size nodes = is_size size nodes
size_by (Three s) size nodes = (s.geometry.sectors == size) && (s.geometry.nodes == nodes)

abbrev pub data_end_by : VersionNumber → (size : ℕ) → ℕ
data_end_by One size = size
data_end_by Two size = size
data_end_by (Three s) size = places.data_end s.geometry

abbrev pub names_by : VersionNumber → ℕ
names_by One = 1024
names_by Two = 1024
names_by (Three s) = s.geometry.names

abbrev pub file_bytes_by : VersionNumber → ℕ
file_bytes_by One = 16777216
file_bytes_by Two = 16777216
file_bytes_by (Three s) = s.geometry.file_bytes

-- what a tree may have: as in versions 1 and 2, except for these
abbrev pub limits_by : VersionNumber → (size nodes : ℕ) → Limits
limits_by number size nodes = record (limits_of size nodes) {
  data_sectors = data_end_by number size - (148 + nodes);
  names = names_by number;
  file_bytes = file_bytes_by number;
}

abbrev pub marking_by : VersionNumber → Marking
marking_by One = InSectors
marking_by Two = InSectors
marking_by (Three s) = AsNamed

abbrev pub log_by : VersionNumber → (size : ℕ) → LogArea
log_by One size = log_at_start size
log_by Two size = log_at_start size
log_by (Three s) size = log_area s.geometry

-- the places for seats: five with room for two slots each, or as many as the superblock says

abbrev pub five_places : SeatSizes
five_places = record { places = 5; slots = 2 }

abbrev pub sizes_by : VersionNumber → SeatSizes
sizes_by One = five_places
sizes_by Two = five_places
sizes_by (Three s) = large_sizes s.geometry

-- all of them free
abbrev pub free_seats : VersionNumber → Seats
free_seats number = let sizes = sizes_by number in replicate sizes.places None

-- The mark of a migration from version 1 to version 2: `MIGR`, how many places of the table have
-- nodes of form two, and zeros

abbrev pub mark_fields : (moved : ℕ) → List ℕ
mark_fields moved = codes "MIGR" ++ to_be_bytes w32 moved

unfoldable pub mark_sector : (moved : ℕ) → List ℕ
mark_sector moved = mark_fields moved ++ replicate 4088 0

-- what sector 147 holds
abbrev pub mark_held : (mark : Option ℕ) → List ℕ
mark_held None = zero_sector
mark_held (Some moved) = mark_sector moved

-- how many places a mark counts
abbrev pub moved_by : (mark : Option ℕ) → ℕ
moved_by None = 0
moved_by (Some moved) = moved

-- in version 1 the places below the mark have form two, and the others form one
abbrev pub form_by : VersionNumber → (mark : Option ℕ) → (place : ℕ) → Form
form_by One mark place = if nat_le (moved_by mark) place then forms.One else forms.Two
form_by Two mark place = forms.Two
form_by (Three s) mark place = forms.Two

-- In versions 1 and 2 the spare sectors are those from 100 to 147: the seats begin at sector 100, and
-- the mark is after them. Version 1 keeps no seats.

abbrev pub is_before_nodes : (sector : ℕ) → Bool
is_before_nodes sector = nat_le 100 sector && nat_lt sector 148

abbrev pub spare_by : Seats → (mark : Option ℕ) → (sector : ℕ) → List ℕ
spare_by seats mark sector =
    if sector == 147 then mark_held mark else seats_sector five_places (sector - 100) seats

abbrev pub is_spare_in : VersionNumber → Seats → (sector : ℕ) → Bool
is_spare_in One seats sector = is_before_nodes sector
is_spare_in Two seats sector = is_before_nodes sector
is_spare_in (Three s) seats sector = is_large_spare s.geometry seats sector

abbrev pub spare_in : VersionNumber → (mark : Option ℕ) → Seats → (sector : ℕ) → List ℕ
spare_in One mark seats sector = spare_by no_seats mark sector
spare_in Two mark seats sector = spare_by seats mark sector
spare_in (Three s) mark seats sector = large_spare s.geometry seats sector

abbrev pub version_by : VersionNumber → (mark : Option ℕ) → Seats → Version
version_by number mark seats = record {
  number = number_of_version number;
  rest = rest_by number;
  is_size = size_by number;
  limits = limits_by number;
  marking = marking_by number;
  data_end = data_end_by number;
  log = log_by number;
  sizes = sizes_by number;
  form = form_by number mark;
  is_spare = is_spare_in number seats;
  spare = spare_in number mark seats;
}

abbrev pub version_1 : (mark : Option ℕ) → Version
version_1 mark = version_by One mark no_seats

abbrev pub version_2 : (mark : Option ℕ) → Seats → Version
version_2 mark seats = version_by Two mark seats

-- the version in which `nfs41` makes volumes
abbrev pub current_version : Seats → Version
current_version seats = version_2 None seats

-- the version in which a volume is served: version 1 becomes version 2
abbrev pub served : VersionNumber → VersionNumber
served One = Two
served Two = Two
served (Three s) = Three s

-- and its number
abbrev pub served_number : ℕ → ℕ
served_number number = if number == 1 then 2 else number

-- a version in which volumes are served
abbrev pub IsServed : VersionNumber → Type 0
IsServed One = ⊥
IsServed Two = ⊤
IsServed (Three s) = IsSuperblock s

-- a superblock of version 3 that can be encoded
abbrev pub IsNumber : VersionNumber → Type 0
IsNumber One = ⊤
IsNumber Two = ⊤
IsNumber (Three s) = IsSuperblock s

-- the marks of a volume with `nodes` nodes: during a migration the mark counts some or all of its
-- places, and after it all of them
abbrev pub IsMark : VersionNumber → (nodes : ℕ) → (mark : Option ℕ) → Type 0
IsMark number nodes None = ⊤
IsMark One nodes (Some moved) = (0 < moved) × (moved ≤ nodes)
IsMark Two nodes (Some moved) = moved ≡ nodes
IsMark (Three s) nodes (Some moved) = ⊥

-- version 2 has seats once its mark is gone, and version 3 has them
abbrev pub MayHaveSeats : VersionNumber → (mark : Option ℕ) → Seats → Type 0
MayHaveSeats One mark seats = seats ≡ no_seats
MayHaveSeats Two None seats = ⊤
MayHaveSeats Two (Some moved) seats = seats ≡ no_seats
MayHaveSeats (Three s) mark seats = ⊤

-- the versions that a volume with `nodes` nodes may have, each with the seats that it keeps
pub data IsVersion (nodes : ℕ) : Version → Seats → Type 0 where
  By : (number : VersionNumber) (mark : Option ℕ) (seats : Seats) → IsNumber number
      → IsMark number nodes mark → MayHaveSeats number mark seats
      → IsVersion nodes (version_by number mark seats) seats

-- Where the seats are

abbrev pub seats_from : VersionNumber → ℕ
seats_from One = 100
seats_from Two = 100
seats_from (Three s) = seats_start s.geometry

-- whether each sector of a free place is zero: in version 3 only the first is
abbrev pub frees_whole : VersionNumber → Bool
frees_whole One = true
frees_whole Two = true
frees_whole (Three s) = false

-- which of their sectors are determined
abbrev pub is_seat_sector : VersionNumber → (n : ℕ) → Seats → Bool
is_seat_sector number n seats =
    nat_lt n (all_sectors (sizes_by number))
    && is_determined_in (sizes_by number) (frees_whole number) n seats

-- the sectors hold these seats
abbrev pub HoldSeats : VersionNumber → Image → Seats → Type 0
HoldSeats number image seats =
    (n : ℕ) → IsTrue (is_seat_sector number n seats)
    → image (seats_from number + n) ≡ seats_sector (sizes_by number) n seats

-- the seats that the sectors encode, whatever they hold
abbrev pub seats_at : VersionNumber → Image → Seats
seats_at number image = seats_in (sizes_by number) (λ n. image (seats_from number + n))
