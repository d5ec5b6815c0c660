-- What sector 0 says of the volume on a device.
use Rattle.std.specs.Prelude.{◌≡◌, ◌<◌, ◌^◌, ◌==◌, ◌&&◌, ℕ, Bool, List, Option, Some, None, bytes_eq, codes, drop, take, if◌then◌else◌}
use Rattle.std.specs.Int.{w16, w32, w64, from_be_bytes}
use Rattle.geometry.specs.Encoding.{IsSuperblock, superblock}
use Rattle.geometry.specs.Places.{fits}
use Rattle.geometry.specs.declared.geometry.Geometry.{Geometry}
use Rattle.geometry.specs.declared.superblock.Superblock.{Superblock}

-- The numbers in a sector, whatever its other bytes are

abbrev pub version_in : List ℕ → ℕ
version_in sector = from_be_bytes w32 (drop 8 sector)

abbrev pub restarts_in : List ℕ → ℕ
restarts_in sector = from_be_bytes w32 (drop 20 sector)

unfoldable pub geometry_in : List ℕ → Geometry
geometry_in sector = record {
  sectors = from_be_bytes w32 (drop 12 sector);
  nodes = from_be_bytes w32 (drop 16 sector);
  log = from_be_bytes w32 (drop 24 sector);
  seats = from_be_bytes w16 (drop 28 sector);
  slots = from_be_bytes w16 (drop 30 sector);
  names = from_be_bytes w32 (drop 32 sector);
  file_bytes = from_be_bytes w64 (drop 40 sector);
}

abbrev pub identity_in : List ℕ → List ℕ
identity_in sector = take 16 (drop 48 sector)

abbrev pub superblock_in : List ℕ → Superblock
superblock_in sector = record {
  geometry = geometry_in sector;
  identity = identity_in sector;
}

-- a volume of version 3 of the device's size, whatever its restart count and the bytes outside the
-- fields
unfoldable pub is_volume : (device : ℕ) → (sector : List ℕ) → Bool
is_volume device sector =
    bytes_eq (take 8 sector) (codes "NFS41VOL") && (version_in sector == 3)
    && ((geometry_in sector).sectors == device) && fits (geometry_in sector)

abbrev pub found_in : (device : ℕ) → (sector : List ℕ) → Option Superblock
found_in device sector =
    if is_volume device sector then Some (superblock_in sector) else None

-- Laws

pub record ReadsBack (s : Superblock) (run : ℕ) : Type 0 where
  pub found : found_in s.geometry.sectors (superblock s run) ≡ Some s
  pub restarts : restarts_in (superblock s run) ≡ run

abbrev pub SuperblocksReadBack : Type 0
SuperblocksReadBack =
    (s : Superblock) (run : ℕ) → IsSuperblock s → run < 2 ^ 32 → ReadsBack s run

abbrev pub OneEncoding : Type 0
OneEncoding =
    (a b : Superblock) (run other : ℕ) → IsSuperblock a → IsSuperblock b
    → superblock a run ≡ superblock b other → a ≡ b
