-- What a volume holds. Sectors 1 to 97 are the journal's; it has dealt with them before.
use Rattle.std.specs.Prelude.{◌≡◌, ◌≤◌, ◌<◌, ◌+◌, ◌^◌, ℕ, List, Option, Some, None, IsTrue, slice_index_or}
use Rattle.disk.specs.Moments.{Image}
use Rattle.layout.specs.declared.versions.Marking.{Marking}
use Rattle.layout.specs.declared.versions.Marking.TheVariants.{InSectors, AsNamed}
use Rattle.layout.specs.declared.versions.VersionNumber.{VersionNumber}
use Rattle.model_tree.specs.Seats.Seats.{Seats, AreOfRuns, no_seats}
use Rattle.model_tree.specs.Trees.Stamp.{stamp}
use Rattle.model_tree.specs.Trees.Tree.{Tree}
use Rattle.model_tree.specs.Trees.WellFormed.{IsWellFormed, IsBefore}
use Rattle.seats.specs.Encoding.{ArePlaces}
use Rattle.seats.specs.declared.sizes.SeatSizes.{SeatSizes}
use Rattle.layout.specs.CachedNodes.{CachedNode, cached_nodes_in, tree_in}
use Rattle.layout.specs.Laid.{AreLaid}
use Rattle.layout.specs.Marks.{mark_in, named}
use Rattle.layout.specs.Superblock.{superblock}
use Rattle.layout.specs.Versions.{Version, IsNumber, IsVersion, MayHaveSeats, current_version, end_of, free_seats, sizes_by, version_by}
unfoldable pub use Rattle.layout.specs.Versions.{mark_sector}
pub use Rattle.layout.specs.Versions.{Version, IsVersion, By, IsMark, IsNumber, MayHaveSeats, HoldSeats, current_version, data_end_by, end_of, five_places, form_by, free_seats, frees_whole, is_before_nodes, is_seat_sector, limits_by, log_by, mark_fields, mark_held, marking_by, moved_by, number_of_version, rest_by, seats_at, seats_from, served, served_number, size_by, sizes_by, spare_by, spare_in, is_spare_in, version_1, version_2, version_by}

-- how often each sector is marked: by the bitmap in two sectors, or by the nodes that name it
abbrev pub marked_by : Marking → (nodes : ℕ) → Image → List (Option CachedNode) → (n : ℕ) → ℕ
marked_by InSectors nodes image cached_nodes n = mark_in nodes image n
marked_by AsNamed nodes image cached_nodes n = named n cached_nodes

-- the seats of a volume that was mounted `run` times: they can be encoded, no two are of the same
-- session, and each session was made in one of these runs
pub record AreKept (sizes : SeatSizes) (run : ℕ) (seats : Seats) : Type 0 where
  pub places : ArePlaces sizes seats
  pub of_runs : AreOfRuns run seats

-- each node has the form of its place
abbrev pub HaveForms : Version → List (Option CachedNode) → Type 0
HaveForms version cached_nodes =
    (place : ℕ) (cached : CachedNode) → slice_index_or cached_nodes place None ≡ Some cached
    → cached.form ≡ version.form place

-- in the current version, whatever seats it keeps
abbrev pub HaveCurrentForms : List (Option CachedNode) → Type 0
HaveCurrentForms cached_nodes = HaveForms (current_version no_seats) cached_nodes

-- The sectors from 98 on hold these cached nodes: what they name is marked, and nothing from the end
-- of the data region on
pub record IsLaid (version : Version) (size nodes : ℕ) (image : Image)
    (cached_nodes : List (Option CachedNode)) : Type 0 where
  pub laid : AreLaid nodes image (marked_by version.marking nodes image cached_nodes) cached_nodes
  pub forms : HaveForms version cached_nodes
  pub within : (n : ℕ) → version.data_end size ≤ n
      → marked_by version.marking nodes image cached_nodes n ≡ 0
  pub spare : (n : ℕ) → IsTrue (version.is_spare n) → image n ≡ version.spare n

-- transactions may write a spare sector, and it is none of the other parts
pub record IsBeside (version : Version) (size n : ℕ) : Type 0 where
  pub from_first : 98 ≤ n
  pub below : n < end_of version size
  pub apart : 148 ≤ n → version.data_end size ≤ n
  pub unmarked : version.marking ≡ InSectors → 100 ≤ n

-- There are nodes; the data region ends behind their table, and before the sectors end that
-- transactions write, which are within the volume. Sectors have numbers of four bytes.
pub record HasRegion (version : Version) (size nodes : ℕ) : Type 0 where
  pub some : 0 < nodes
  pub behind : 148 + nodes ≤ version.data_end size
  pub inside : version.data_end size ≤ end_of version size
  pub within : end_of version size ≤ size
  pub numbers : size < 2 ^ 32
  pub spare : (n : ℕ) → IsTrue (version.is_spare n) → IsBeside version size n

-- The sectors of a volume of `size` sectors and `nodes` nodes, mounted `run` times, represent the
-- tree: they hold the cached nodes that are read from them, the tree is that of these cached nodes,
-- it is well formed, and no stamp in it is of a later run.
pub record TreeStands (version : Version) (size nodes : ℕ) (image : Image) (run : ℕ)
    (tree : Tree) : Type 0 where
  pub sized : IsTrue (version.is_size size nodes)
  pub region : HasRegion version size nodes
  pub counted : run < 2 ^ 32
  pub first : image 0 ≡ superblock version.number size nodes run version.rest
  pub laid : IsLaid version size nodes image (cached_nodes_in nodes image)
  pub tree_is : tree ≡ tree_in nodes image
  pub well_formed : ∥ IsWellFormed (version.limits size nodes) tree ∥₁
  pub before : IsBefore (stamp (run + 1) 0) tree

-- What a volume keeps: its tree, and the seats beside it
pub record Kept : Type 0 where
  pub tree : Tree
  pub seats : Seats

-- a tree with no seats beside it: in versions 1 and 2, and in each
abbrev pub bare : Tree → Kept
bare tree = record { tree = tree; seats = no_seats }

abbrev pub bare_in : VersionNumber → Tree → Kept
bare_in number tree = record { tree = tree; seats = free_seats number }

-- Its sectors represent both, in one of the versions
pub record StandsAs (size nodes : ℕ) (image : Image) (run : ℕ) (kept : Kept) : Type 0 where
  pub version : Version
  pub is_version : IsVersion nodes version kept.seats
  pub keeps : AreKept version.sizes run kept.seats
  pub stands : TreeStands version size nodes image run kept.tree

-- They represent both in the version of this number, with no mark
pub record StandsNow (number : VersionNumber) (size nodes : ℕ) (image : Image) (run : ℕ)
    (kept : Kept) : Type 0 where
  pub is_number : IsNumber number
  pub may : MayHaveSeats number None kept.seats
  pub keeps : AreKept (sizes_by number) run kept.seats
  pub stands : TreeStands (version_by number None kept.seats) size nodes image run kept.tree
