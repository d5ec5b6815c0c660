-- What the first sector of a device says of the volume on it.
use Rattle.std.specs.Prelude.{◌≡◌, ◌==◌, ◌&&◌, ◌||◌, ◌-◌, ◌^◌, ℕ, ⊤, Bool, true, IsTrue, not, List, drop, nat_eq, bytes_eq, if◌then◌else◌}
use Rattle.std.specs.List.{starts_with}
use Rattle.std.specs.Int.{w32, from_be_bytes}
use Rattle.geometry.specs.Encoding.{IsSuperblock}
use Rattle.geometry.specs.Reading as reading
use Rattle.geometry.specs.Reading.{superblock_in}
use Rattle.journal.specs.declared.layout.LogArea.{LogArea}
use Rattle.layout.specs.Versions.{IsNumber, log_by, number_of_version, rest_by, size_by}
use Rattle.layout.specs.Superblock as layout
use Rattle.layout.specs.Superblock.{magic, is_size}
use Rattle.layout.specs.declared.versions.VersionNumber.{VersionNumber}
use Rattle.layout.specs.declared.versions.VersionNumber.TheVariants.{One, Two, Three}
use Rattle.volume.specs.declared.superblock.Verdict.{Verdict}
use Rattle.volume.specs.declared.superblock.Verdict.TheVariants.{NotVolume, Worn, Damaged, Sound}

-- the first sector of a volume of this version
abbrev pub superblock : VersionNumber → (sectors nodes run : ℕ) → List ℕ
superblock version sectors nodes run =
    layout.superblock (number_of_version version) sectors nodes run (rest_by version)

-- a superblock of version 3 has these numbers of sectors and nodes; versions 1 and 2 have none
abbrev pub HasSizes : VersionNumber → (sectors nodes : ℕ) → Type 0
HasSizes One sectors nodes = ⊤
HasSizes Two sectors nodes = ⊤
HasSizes (Three s) sectors nodes =
    IsSuperblock s × (s.geometry.sectors ≡ sectors) × (s.geometry.nodes ≡ nodes)

-- the number in the four bytes from place i
unfoldable pub word : (i : ℕ) → List ℕ → ℕ
word i sector = from_be_bytes w32 (drop i sector)

-- the version that a first sector gives
abbrev pub version_in : List ℕ → VersionNumber
version_in sector =
    if word 8 sector == 1 then One
    else if word 8 sector == 3 then Three (superblock_in sector) else Two

-- the number of nodes in a first sector
abbrev pub nodes_in : List ℕ → ℕ
nodes_in sector = word 16 sector

-- the restart count at which no further mount is possible
abbrev pub last_run : ℕ
last_run = 2 ^ 32 - 1

-- the log of a device of this many sectors, by its first sector
abbrev pub log_in : (sectors : ℕ) → List ℕ → LogArea
log_in sectors sector = log_by (version_in sector) sectors

-- the first sector of a volume on a device of this many sectors

-- of version 1 or 2
unfoldable pub is_early : (sectors : ℕ) → List ℕ → Bool
is_early sectors sector =
    starts_with nat_eq sector magic && (word 8 sector == 1 || word 8 sector == 2)
    && (word 12 sector == sectors) && is_size sectors (word 16 sector)

-- or of version 3
unfoldable pub is_volume : (sectors : ℕ) → List ℕ → Bool
is_volume sectors sector = is_early sectors sector || reading.is_volume sectors sector

-- the version that such a sector gives
pub record FindsVersion (sectors : ℕ) (sector : List ℕ) (found : VersionNumber) : Type 0 where
  pub volume : is_volume sectors sector ≡ true
  pub version : version_in sector ≡ found
  pub number : IsNumber found
  pub sized : IsTrue (size_by found sectors (word 16 sector))

-- what a mount makes of sector 0
unfoldable pub mount_verdict : (sectors : ℕ) → List ℕ → Verdict
mount_verdict sectors sector =
    if not (is_volume sectors sector) then NotVolume
    else if word 20 sector == last_run then Worn
    else if bytes_eq sector
    (superblock (version_in sector) sectors (word 16 sector) (word 20 sector)) then Sound
    else Damaged
