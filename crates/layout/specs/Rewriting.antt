-- A volume that is rewritten in another version: each node in the form that its place has there,
-- with the version's spare sectors and number.
use Rattle.std.specs.Prelude.{◌≡◌, ◌≤◌, ◌<◌, ◌+◌, ◌^◌, ◌⊎◌, ◌==◌, ℕ, List, Option, Some, None, map, nat_le, slice_index, IsTrue, if◌then◌else◌}
use Rattle.disk.specs.Moments.{Image}
use Rattle.inode.specs.declared.node.Form.{Form}
use Rattle.inode.specs.declared.node.Form.TheVariants.{One, Two}
use Rattle.inode.specs.Reading.{fields_in}
use Rattle.inode.specs.Encoding.{inode_sector}
use Rattle.model_tree.specs.Seats.Seats.{no_seats}
use Rattle.model_tree.specs.Trees.Tree.{Tree}
use Rattle.disk.specs.Calls.{zero_sector}
use Rattle.layout.specs.CachedNodes.{CachedNode, node_sector, cached_nodes_in, tree_of}
use Rattle.layout.specs.Known.{AreCached}
use Rattle.layout.specs.declared.versions.Marking.TheVariants.{InSectors}
use Rattle.layout.specs.Stands.{Version, HasRegion, HaveCurrentForms, IsLaid, TreeStands, current_version}
use Rattle.layout.specs.Superblock.{superblock}

-- what the sector of a place becomes: the node that is there, in this form; a free place stays
unfoldable pub in_form : Form → (sector : List ℕ) → List ℕ
in_form form sector =
    if slice_index sector 0 == 0 then sector else inode_sector form (fields_in sector)

-- No form becomes one with less room. The bitmap and the data region are kept. Sectors 1 to 97, the
-- journal's, are left open.
pub record AreRewritten (was is : Version) (size nodes : ℕ) (old new : Image) : Type 0 where
  pub marking : is.marking ≡ was.marking
  pub data_end : is.data_end size ≡ was.data_end size
  pub roomy : (place : ℕ) → place < nodes → (was.form place ≡ One) ⊎ (is.form place ≡ Two)
  pub bitmap : (n : ℕ) → 98 ≤ n → n < 100 → new n ≡ old n
  pub spare : (n : ℕ) → IsTrue (is.is_spare n) → new n ≡ is.spare n
  pub nodes_are : (place : ℕ) → place < nodes
      → new (node_sector place) ≡ in_form (is.form place) (old (node_sector place))
  pub region : (n : ℕ) → 148 + nodes ≤ n → n < was.data_end size → new n ≡ old n

-- and its first sector has a count
pub record IsRewritten (was is : Version) (size nodes run : ℕ) (old new : Image) : Type 0 where
  pub sized : IsTrue (is.is_size size nodes)
  pub region : HasRegion is size nodes
  pub first : new 0 ≡ superblock is.number size nodes run is.rest
  pub limits : is.limits size nodes ≡ was.limits size nodes
  pub others : AreRewritten was is size nodes old new

-- The law: then it represents the same tree as before, under the restart count that it has now
abbrev pub RewrittenStands : Type 0
RewrittenStands =
    (was is : Version) (size nodes run later : ℕ) (old new : Image) (tree : Tree)
    → TreeStands was size nodes old run tree → run ≤ later → later < 2 ^ 32
    → IsRewritten was is size nodes later old new
    → TreeStands is size nodes new later tree

-- and a node that has the form is left as it is
abbrev pub FormStays : Type 0
FormStays =
    (version : Version) (size nodes run : ℕ) (image : Image) (tree : Tree) (place : ℕ)
    → TreeStands version size nodes image run tree → place < nodes
    → in_form (version.form place) (image (node_sector place)) ≡ image (node_sector place)

-- The cached nodes of a volume as they are once each of its nodes has form two
abbrev pub in_second : Option CachedNode → Option CachedNode
in_second None = None
in_second (Some cached) = Some (record cached { form = Two })

abbrev pub all_second : List (Option CachedNode) → List (Option CachedNode)
all_second cached_nodes = map in_second cached_nodes

-- and its sectors
abbrev pub second_image : (nodes : ℕ) → Image → Image
second_image nodes image n =
    if nat_le 148 n then (if nat_le (148 + nodes) n then image n else in_form Two (image n))
    else (if nat_le 100 n then zero_sector else image n)

-- A volume that is laid is laid in form two as well, with the same tree
pub record IsLaidSecond (size nodes : ℕ) (image : Image) (cached_nodes : List (Option CachedNode))
    : Type 0 where
  pub laid : IsLaid (current_version no_seats) size nodes (second_image nodes image)
      (all_second cached_nodes)
  pub tree : tree_of (second_image nodes image) (all_second cached_nodes)
      ≡ tree_of image cached_nodes
  pub shown : tree_of image (all_second cached_nodes) ≡ tree_of image cached_nodes

abbrev pub LaidSecond : Type 0
LaidSecond =
    (version : Version) (size nodes : ℕ) (image : Image) (cached_nodes : List (Option CachedNode))
    → version.marking ≡ InSectors → version.data_end size ≡ size
    → IsLaid version size nodes image cached_nodes → 148 + nodes ≤ size
    → IsLaidSecond size nodes image cached_nodes

-- so are cached nodes, whatever the sectors hold
abbrev pub KnownSecond : Type 0
KnownSecond =
    (nodes : ℕ) (mark : ℕ → ℕ) (cached_nodes : List (Option CachedNode))
    → AreCached nodes mark cached_nodes → AreCached nodes mark (all_second cached_nodes)

-- and a rewritten volume has the same cached nodes, except for their forms
abbrev pub RewrittenCachedNodes : Type 0
RewrittenCachedNodes =
    (was is : Version) (size nodes run later : ℕ) (old new : Image) (tree : Tree)
    → TreeStands was size nodes old run tree → IsRewritten was is size nodes later old new
    → all_second (cached_nodes_in nodes new) ≡ all_second (cached_nodes_in nodes old)

-- which are those of a volume in the current version
abbrev pub CurrentSecond : Type 0
CurrentSecond = (cached_nodes : List (Option CachedNode)) → HaveCurrentForms cached_nodes
    → all_second cached_nodes ≡ cached_nodes
