-- The first sector of a volume: bytes 0 to 7 `NFS41VOL`, then the version, the numbers of sectors
-- and nodes, and the restart count, four bytes each, and the rest, which depends on the version.
use Rattle.std.specs.Prelude.{◌+◌, ◌++◌, ◌&&◌, ℕ, Bool, List, codes, nat_le, replicate}
use Rattle.std.specs.Int.{w32, to_be_bytes}

abbrev pub magic : List ℕ
magic = codes "NFS41VOL"

-- the numbers of sectors and nodes that a volume of version 1 or 2 may have: 148 sectors lie before
-- the node table, and 16 at least after it
abbrev pub is_size : (sectors nodes : ℕ) → Bool
is_size sectors nodes =
    nat_le 256 sectors && nat_le sectors 65536 && nat_le 2 nodes && nat_le nodes 16384
    && nat_le (164 + nodes) sectors

abbrev pub fields : (version sectors nodes run : ℕ) → List ℕ
fields version sectors nodes run =
    magic ++ to_be_bytes w32 version ++ to_be_bytes w32 sectors ++ to_be_bytes w32 nodes
    ++ to_be_bytes w32 run

unfoldable pub superblock : (version sectors nodes run : ℕ) → (rest : List ℕ) → List ℕ
superblock version sectors nodes run rest = fields version sectors nodes run ++ rest

-- the rest in versions 1 and 2
abbrev pub no_rest : List ℕ
no_rest = replicate 4072 0
