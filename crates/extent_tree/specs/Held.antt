-- The tree of a file in memory: the entries in its inode, and a map with those of its index
-- sectors.
use Rattle.std.specs.Prelude.{◌≡◌, ◌==◌, ℕ, List, [], ◌∷◌, ◌++◌, Option, Some, None, length, map, replicate, if◌then◌else◌}
use Rattle.std.specs.Ordering.{nat_cmp}
use Rattle.std.specs.BTreeMap.{BTreeMap, get}
use Rattle.extent_tree.specs.declared.entry.Entry.{Entry}
use Rattle.extent_tree.specs.Tree.{IsRoot, file_blocks, file_indexes}

-- a node's entries, if there is one
abbrev pub entries_at : {R : Type 0} → (items : R → List Entry) → Option R → List Entry
entries_at items None = []
entries_at items (Some node) = items node

-- the entries of each index sector; none of one that the map lacks
abbrev pub entries_by : {R : Type 0} → (items : R → List Entry) → BTreeMap ℕ R → ℕ → List Entry
entries_by items nodes sector = entries_at items (get nat_cmp nodes sector)

abbrev pub hole : Entry
hole = record { sector = 0; length = 0 }

-- the sector of each block of a file, and what the volume holds of its tree: the index sectors, the
-- entries in the inode, and those of each index sector
pub record Blocks : Type 0 where
  pub sectors : List (Option ℕ)
  pub indexes : List ℕ
  pub root : List Entry
  pub nodes : List (List Entry)

abbrev pub blocks_by : (index : ℕ → List Entry) → (b : ℕ) → List Entry → Blocks
blocks_by index b root = record {
  sectors = file_blocks index b root;
  indexes = file_indexes index b root;
  root = root;
  nodes = map index (file_indexes index b root);
}

abbrev pub no_blocks : Blocks
no_blocks = record { sectors = []; indexes = []; root = replicate 256 hole; nodes = [] }

-- the entries that `nodes` has for a sector, if they are those of `sectors`
abbrev pub content_in : (sectors : List ℕ) → (nodes : List (List Entry)) → ℕ → List Entry
content_in [] nodes s = []
content_in (x ∷ xs) [] s = []
content_in (x ∷ xs) (node ∷ nodes) s = if s == x then node else content_in xs nodes s

-- the entries of an index sector
abbrev pub held_entries : Blocks → ℕ → List Entry
held_entries blocks s = content_in blocks.indexes blocks.nodes s

-- what the volume holds is the tree of these blocks
pub record AreHeld (blocks : Blocks) : Type 0 where
  pub root : IsRoot (held_entries blocks) (length blocks.sectors) blocks.root
  pub same : blocks_by (held_entries blocks) (length blocks.sectors) blocks.root ≡ blocks

-- the entries of an inode, as those of an index sector
abbrev pub with_room : List Entry → List Entry
with_room root = root ++ replicate 256 hole

-- the entries of an inode of which the first has this index sector
abbrev pub root_above : (sector : ℕ) → List Entry
root_above sector = record { sector = sector; length = 0 } ∷ replicate 255 hole
