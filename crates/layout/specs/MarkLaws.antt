-- Marks: what they are after a change of the set, that the bitmap sectors show them, and that they
-- never exceed what the tree is charged.
use Rattle.std.specs.Prelude.{◌≡◌, ◌≤◌, ◌<◌, ◌+◌, ◌==◌, ℕ, Bool, true, false, List, Option, Some, IsTrue, length, slice_get, slice_set, slice_index_or}
use Rattle.disk.specs.Moments.{Image}
use Rattle.freemap.specs.Places.{Show, mark_of, bit_in}
use Rattle.model_tree.specs.Trees.Charge.{charge}
use Rattle.model_tree.specs.Trees.Keyed.{total}
use Rattle.model_tree.specs.Trees.Tree.{Tree}
use Rattle.layout.specs.CachedNodes.{CachedNode, cached_nodes_in, tree_of}
use Rattle.layout.specs.Laid.{AreLaid}
use Rattle.layout.specs.Marks.{once_if, mark_in, mark_by}
use Rattle.layout.specs.declared.versions.Marking.TheVariants.{InSectors}
use Rattle.layout.specs.Stands.{Version, HasRegion, HaveForms, IsLaid, TreeStands, end_of}

-- one more sector is marked, or one less
pub record MarksChange (first : ℕ) (places : List Bool) (place : ℕ) : Type 0 where
  pub taken : slice_get places place ≡ Some false
      → (n : ℕ) → mark_by first (slice_set places place true) n
      ≡ mark_by first places n + once_if (n == first + place)
  pub given : slice_index_or places place false ≡ true
      → (n : ℕ) → mark_by first (slice_set places place false) n + once_if (n == first + place)
      ≡ mark_by first places n
  pub once : (n : ℕ) → mark_by first places n ≤ 1
  pub behind : (n : ℕ) → 0 < mark_by first places n → first ≤ n
  pub within : (n : ℕ) → first + length places ≤ n → mark_by first places n ≡ 0

abbrev pub EachMark : Type 0
EachMark = (first : ℕ) (places : List Bool) (place : ℕ) → MarksChange first places place

-- the bitmap sectors show the set
abbrev pub MarksLaid : Type 0
MarksLaid =
    (nodes count : ℕ) (image : Image) (places : List Bool) → count ≤ 65536
    → Show (image 98) (image 99) count places
    → (n : ℕ) → mark_in nodes image n ≡ mark_by (148 + nodes) places n

-- if at most the bitmap sectors are written, and they show the set if they are to mark it, what was
-- laid with the set in memory is laid
pub record WritesMarks (version : Version) (size nodes : ℕ) (old new : Image) (places : List Bool)
    (cached_nodes : List (Option CachedNode)) : Type 0 where
  pub end_is : version.data_end size ≡ 148 + nodes + length places
  pub laid : AreLaid nodes old (mark_by (148 + nodes) places) cached_nodes
  pub forms : HaveForms version cached_nodes
  pub spare : (n : ℕ) → IsTrue (version.is_spare n) → new n ≡ version.spare n
  pub same : (n : ℕ) → 100 ≤ n → new n ≡ old n
  pub marked : version.marking ≡ InSectors → (i : ℕ)
      → bit_in (new 98) (new 99) i ≡ mark_of places i

abbrev pub LaysMarks : Type 0
LaysMarks =
    (version : Version) (size nodes : ℕ) (old new : Image) (places : List Bool)
    (cached_nodes : List (Option CachedNode))
    → WritesMarks version size nodes old new places cached_nodes
    → IsLaid version size nodes new cached_nodes

-- Only kept sectors are seen: the superblock, and those that transactions write
pub record SeesSame (version : Version) (size nodes : ℕ) (old new : Image)
    (cached_nodes : List (Option CachedNode)) : Type 0 where
  pub laid : IsLaid version size nodes new cached_nodes
  pub same_cached_nodes : cached_nodes_in nodes new ≡ cached_nodes_in nodes old
  pub same_tree : tree_of new cached_nodes ≡ tree_of old cached_nodes

abbrev pub KeptAlone : Type 0
KeptAlone =
    (version : Version) (size nodes : ℕ) (old new : Image) (cached_nodes : List (Option CachedNode))
    → HasRegion version size nodes → IsLaid version size nodes old cached_nodes
    → ((n : ℕ) → 98 ≤ n → n < end_of version size → new n ≡ old n)
    → SeesSame version size nodes old new cached_nodes

-- so for images that are known only in these sectors it does not matter which one is meant
abbrev pub StandsAlone : Type 0
StandsAlone = (version : Version) (size nodes : ℕ) (old new : Image) (run : ℕ) (tree : Tree)
    → TreeStands version size nodes old run tree → new 0 ≡ old 0
    → ((n : ℕ) → 98 ≤ n → n < end_of version size → new n ≡ old n)
    → TreeStands version size nodes new run tree

-- If all places are marked, the tree is charged for all of them: so if it is charged for less, a
-- place is free
abbrev pub FullIsCharged : Type 0
FullIsCharged =
    (nodes : ℕ) (image : Image) (mark : ℕ → ℕ) (cached_nodes : List (Option CachedNode)) (count : ℕ)
    → AreLaid nodes image mark cached_nodes → ((i : ℕ) → i < count → mark (148 + nodes + i) ≡ 1)
    → count ≤ total charge (tree_of image cached_nodes)
