-- What reading the nodes of a volume finds.
use Rattle.std.specs.Prelude.{◌≡◌, ◌<◌, ◌+◌, ℕ, Bool, List, Option}
use Rattle.disk.specs.Moments.{Image, IsSector}
use Rattle.journal.specs.Log.{Log}
use Rattle.layout.specs.CachedNodes.{CachedNode, tree_of, cached_nodes_in}
use Rattle.layout.specs.Health.{Health, FailsOrStays}
use Rattle.layout.specs.Rewriting.{all_second}
use Rattle.layout.specs.Stands.{AreKept, IsMark, Kept, MayHaveSeats, data_end_by, limits_by, mark_held, sizes_by}
use Rattle.model_tree.specs.Seats.Seats.{Seats}
use Rattle.model_tree.specs.Trees.Stamp.{stamp}
use Rattle.tree_check.specs.WellFormed.{AreWellFormed}
use Rattle.volume.specs.Known.{AreKnownNodes}
use Rattle.volume.specs.Mounts.{StandsIn}
use Rattle.volume.specs.Superblock.{superblock}
use Rattle.volume.specs.declared.mount.Superblock.{Superblock}

-- sector 0 is the first sector that was found, and all sectors are of bytes
pub record HoldsVolume (found : Superblock) (size : ℕ) (image : Image) : Type 0 where
  pub first : image 0 ≡ superblock found.version found.sectors found.nodes found.run
  pub sectors : (n : ℕ) → n < size → IsSector (image n)

abbrev pub HoldsBase : Superblock → Log → Type 0
HoldsBase found log = HoldsVolume found log.size log.base

-- what was read from an image
abbrev pub read_as : Image → List (Option CachedNode) → Seats → Kept
read_as image cached_nodes seats = record { tree = tree_of image cached_nodes; seats = seats }

-- The cached nodes are those of the sectors, as they are once each has form two, and the sectors
-- hold their tree with the seats, in the version that was found and with this mark
pub record AreLoaded (keeps_word : Type 0) (found : Superblock) (image : Image)
    (mark : Option ℕ) (cached_nodes : List (Option CachedNode)) (seats : Seats) (places : List Bool)
    : Type 0 where
  pub known : AreKnownNodes (data_end_by found.version found.sectors) found.nodes cached_nodes
      places
  pub well_formed : ∥ AreWellFormed (limits_by found.version found.sectors found.nodes)
      (stamp (found.run + 1) 0) cached_nodes ∥₁
  pub marked : IsMark found.version found.nodes mark
  pub may : MayHaveSeats found.version mark seats
  pub keeps : AreKept (sizes_by found.version) found.run seats
  pub marks : keeps_word → image 147 ≡ mark_held mark
  pub read : keeps_word → cached_nodes ≡ all_second (cached_nodes_in found.nodes image)
  pub stood : keeps_word → ∥ StandsIn found mark image (read_as image cached_nodes seats) ∥₁

abbrev pub IsLoaded : (keeps_word : Type 0) → Superblock → Log → (mark : Option ℕ)
    → List (Option CachedNode) → Seats → List Bool → Type 0
IsLoaded keeps_word found log mark cached_nodes seats places =
    AreLoaded keeps_word found log.base mark cached_nodes seats places

-- the journal is as it was, except that it is down if the device failed, and that was counted
abbrev health : Log → (failures : ℕ) → Health
health log failures = record { failed = failures; is_down = log.is_down }

pub record Loads (old new : Log) (before after : ℕ) (faulted : Type 0) : Type 0 where
  pub only : new ≡ record old { is_down = new.is_down }
  pub reads : FailsOrStays (health old before) (health new after) faulted
