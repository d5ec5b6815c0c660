-- The laws of volumes of version 3.
use Rattle.std.specs.Prelude.{◌≡◌, ◌≤◌, ◌<◌, ℕ, None}
use Rattle.disk.specs.Calls.{zero_sector}
use Rattle.disk.specs.Moments.{Image}
use Rattle.geometry.specs.Encoding as geometry
use Rattle.geometry.specs.Encoding.{IsSuperblock}
use Rattle.geometry.specs.Places.{data_start, log_start, seats_start}
use Rattle.geometry.specs.declared.superblock.Superblock.{Superblock}
use Rattle.inode.specs.declared.node.Form.TheVariants.{Two}
use Rattle.inode.specs.Encoding.{inode_sector}
use Rattle.layout.specs.CachedNodes.{node_sector}
use Rattle.layout.specs.FreshLaws.{root_fields}
use Rattle.layout.specs.Large.{rest_of}
use Rattle.layout.specs.Stands.{HasRegion, TreeStands}
use Rattle.layout.specs.Superblock as layout
use Rattle.layout.specs.Versions.{free_seats, version_by}
use Rattle.layout.specs.declared.versions.VersionNumber.TheVariants.{Three}
use Rattle.model_tree.specs.Seats.Seats.{Seats}
use Rattle.model_tree.specs.Trees.Fresh.{fresh_tree}

-- its first sector is the encoding of the superblock with the restart count
abbrev pub LargeFirst : Type 0
LargeFirst =
    (s : Superblock) (run : ℕ)
    → layout.superblock 3 s.geometry.sectors s.geometry.nodes run (rest_of s)
    ≡ geometry.superblock s run

-- its parts are apart
abbrev pub LargeRegion : Type 0
LargeRegion = (s : Superblock) (seats : Seats) → IsSuperblock s
    → HasRegion (version_by (Three s) None seats) s.geometry.sectors s.geometry.nodes

-- A new volume has a superblock that counts no restart, the root at place 0, and zeros in the rest of
-- the sectors from 98 to the end of the node table and in the seats. Nothing is said of the data
-- region.
pub record IsLargeFresh (s : Superblock) (image : Image) : Type 0 where
  pub first : image 0 ≡ geometry.superblock s 0
  pub root : image (node_sector 0) ≡ inode_sector Two root_fields
  pub before : (n : ℕ) → 98 ≤ n → n < 148 → image n ≡ zero_sector
  pub others : (n : ℕ) → 148 < n → n < data_start s.geometry → image n ≡ zero_sector
  pub seats : (n : ℕ) → seats_start s.geometry ≤ n → n < log_start s.geometry
      → image n ≡ zero_sector

-- it holds the tree of one empty directory, and no seat
abbrev pub LargeFresh : Type 0
LargeFresh =
    (s : Superblock) (image : Image) → IsSuperblock s → IsLargeFresh s image
    → TreeStands (version_by (Three s) None (free_seats (Three s))) s.geometry.sectors
    s.geometry.nodes image 0 fresh_tree
