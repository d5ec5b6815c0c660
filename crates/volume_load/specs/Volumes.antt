-- What is read of a volume.
use Rattle.std.specs.Prelude.{◌≡◌, ◌≤◌, ◌+◌, ℕ, Bool, List, Option, Some, None, length}
use Rattle.std.specs.Prelude.{slice_index_or}
use Rattle.disk.specs.Moments.{Image}
use Rattle.layout.specs.declared.versions.VersionNumber.{VersionNumber}
use Rattle.layout.specs.CachedNodes.{CachedNode, cached_nodes_in}
use Rattle.model_tree.specs.Seats.Seats.{Seats}
use Rattle.model_tree.specs.Trees.Tree.{Tree}
use Rattle.layout.specs.Known.{AreCached}
use Rattle.layout.specs.Marks.{mark_by}
use Rattle.layout.specs.Stands.{Version, AreKept, HaveForms, IsLaid, IsMark, MayHaveSeats, TreeStands}
use Rattle.layout.specs.Stands.{data_end_by, sizes_by, version_by}

-- no node has more blocks than a file may have
abbrev pub AreFew : List (Option CachedNode) → Type 0
AreFew cached_nodes = (place : ℕ) (cached : CachedNode) → slice_index_or cached_nodes place None
    ≡ Some cached
    → length cached.blocks ≤ 4096

-- A mark of a migration, seats that a volume with it may keep after `run` mounts, cached nodes in
-- the forms that it gives, and marks of the whole data region that are what they name, whatever the
-- sectors hold; and if the device keeps its word, the sectors hold this mark, these seats and these
-- cached nodes, which are those that are read from the image
pub record IsRead (word : Type 0) (size nodes : ℕ) (number : VersionNumber) (run : ℕ)
    (mark : Option ℕ) (seats : Seats) (image : Image) (cached_nodes : List (Option CachedNode))
    (places : List Bool) : Type 0 where
  pub marked : IsMark number nodes mark
  pub may : MayHaveSeats number mark seats
  pub keeps : AreKept (sizes_by number) run seats
  pub known : AreCached nodes (mark_by (148 + nodes) places) cached_nodes
  pub forms : HaveForms (version_by number mark seats) cached_nodes
  pub few : AreFew cached_nodes
  pub end_is : data_end_by number size ≡ 148 + nodes + length places
  pub laid : word → IsLaid (version_by number mark seats) size nodes image cached_nodes
  pub read : word → cached_nodes ≡ cached_nodes_in nodes image

-- If a volume holds a tree, and its version's files have at most 16 MiB, the cached nodes that are
-- read from it have few blocks
abbrev pub StandsIsFew : Type 0
StandsIsFew = (version : Version) (size nodes : ℕ) (image : Image) (run : ℕ) (tree : Tree)
    → (version.limits size nodes).file_bytes ≤ 16777216
    → TreeStands version size nodes image run tree → AreFew (cached_nodes_in nodes image)
