-- The superblock of layout version 3: sector 0 of a volume, byte by byte.
use Rattle.std.specs.Prelude.{◌≡◌, ◌++◌, ℕ, List, codes, length, replicate}
use Rattle.std.specs.Int.{w16, w32, w64, to_be_bytes}
use Rattle.geometry.specs.Places.{Fits}
use Rattle.geometry.specs.declared.geometry.Geometry.{Geometry}
use Rattle.geometry.specs.declared.superblock.Superblock.{Superblock}

-- what can be encoded, beside a restart count of four bytes
pub record IsSuperblock (s : Superblock) : Type 0 where
  pub fits : Fits s.geometry
  pub identity : length s.identity ≡ 16

-- bytes 0 to 35
abbrev pub header : (restarts : ℕ) → Geometry → List ℕ
header restarts g =
    codes "NFS41VOL"
    ++ to_be_bytes w32 3
    ++ to_be_bytes w32 g.sectors
    ++ to_be_bytes w32 g.nodes
    ++ to_be_bytes w32 restarts
    ++ to_be_bytes w32 g.log
    ++ to_be_bytes w16 g.seats
    ++ to_be_bytes w16 g.slots
    ++ to_be_bytes w32 g.names

-- bytes 0 to 63
abbrev pub fields : Superblock → (restarts : ℕ) → List ℕ
fields s restarts =
    header restarts s.geometry
    ++ replicate 4 0
    ++ to_be_bytes w64 s.geometry.file_bytes
    ++ s.identity

-- all of them
unfoldable pub superblock : Superblock → (restarts : ℕ) → List ℕ
superblock s restarts = fields s restarts ++ replicate 4032 0
