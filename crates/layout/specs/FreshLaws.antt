-- A volume that was just formatted.
use Rattle.std.specs.Prelude.{◌≡◌, ◌≤◌, ◌<◌, ℕ, [], IsTrue}
use Rattle.disk.specs.Moments.{Image}
use Rattle.disk.specs.Calls.{zero_sector}
use Rattle.inode.specs.Fields.{Fields}
use Rattle.inode.specs.Encoding.{inode_sector}
use Rattle.model_tree.specs.declared.node.NodeKind.TheVariants as kind
use Rattle.model_tree.specs.Trees.Fresh.{fresh_tree, fresh_root}
use Rattle.model_tree.specs.Trees.Tree.{root}
use Rattle.layout.specs.CachedNodes.{node_sector}
use Rattle.layout.specs.Stands.{Version, HasRegion, TreeStands}
use Rattle.layout.specs.Superblock.{superblock}

-- the root as a node's sector has it
abbrev pub root_fields : Fields
root_fields = record {
  kind = kind.Directory;
  number = root;
  owner = fresh_root.owner;
  group = fresh_root.group;
  change = fresh_root.change;
  time_modify = fresh_root.time_modify;
  size = 0;
  runs = 0;
  run_sectors = [];
  acl = fresh_root.acl;
}

-- the root is at place 0, the other places are free, and no sector of the data region is used
pub record IsFresh (version : Version) (size nodes : ℕ) (image : Image) : Type 0 where
  pub sized : IsTrue (version.is_size size nodes)
  pub region : HasRegion version size nodes
  pub a_node : 1 ≤ (version.limits size nodes).nodes
  pub an_entry : 1 ≤ (version.limits size nodes).aces
  pub first : image 0 ≡ superblock version.number size nodes 0 version.rest
  pub spare : (n : ℕ) → IsTrue (version.is_spare n) → image n ≡ version.spare n
  pub node : image (node_sector 0) ≡ inode_sector (version.form 0) root_fields
  pub bitmap : (n : ℕ) → 98 ≤ n → n < 100 → image n ≡ zero_sector
  pub others : (place : ℕ) → 0 < place → place < nodes → image (node_sector place) ≡ zero_sector

-- It holds the tree of a fresh volume
abbrev pub FreshStands : Type 0
FreshStands =
    (version : Version) (size nodes : ℕ) (image : Image) → IsFresh version size nodes image
    → TreeStands version size nodes image 0 fresh_tree
