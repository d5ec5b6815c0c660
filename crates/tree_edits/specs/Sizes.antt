-- How many bytes or names a node has, and the effects of edits on it.
use Rattle.std.specs.Prelude.{◌≡◌, ◌<◌, ◌+◌, ◌-◌, max, ℕ, List, Option, Some, None, length}
use Rattle.tree_edits.specs.declared.edit.Edit.{Edit}
use Rattle.tree_edits.specs.declared.edit.Edit.TheVariants as declared
use Rattle.tree_edits.specs.declared.room.Size.{Size}
use Rattle.tree_edits.specs.Outlines.{without_data}
use Rattle.model_tree.specs.declared.node.NodeKind.{NodeKind}
use Rattle.model_tree.specs.declared.node.NodeKind.TheVariants as kind
use Rattle.model_tree.specs.Trees.Charge.{blocks_of, charge_of_blocks, fits}
use Rattle.model_tree.specs.Trees.Edit.{edited}
use Rattle.model_tree.specs.Trees.Edit as model
use Rattle.model_tree.specs.Trees.Keyed.{at}
use Rattle.model_tree.specs.declared.limits.Limits.{Limits}
use Rattle.model_tree.specs.Trees.Tree.{Tree, Node, Content, File, Directory}

-- What a node has

abbrev pub size_of_content : Content → Size
size_of_content (File bytes) = record { kind = kind.File; count = length bytes }
size_of_content (Directory names) = record { kind = kind.Directory; count = length names }

-- none if there is no node
abbrev pub size_there : Option Node → Option Size
size_there None = None
size_there (Some node) = Some (size_of_content node.content)

abbrev pub size_at : Tree → (number : ℕ) → Option Size
size_at tree number = size_there (at number tree)

-- What it takes

-- what a node of this size is charged
abbrev pub charge_of_size : Option Size → ℕ
charge_of_size None = 0
charge_of_size (Some size) = charge_of_blocks (blocks_of size.kind size.count)

-- how many nodes, and how many names, these are

abbrev pub nodes_in : Option Size → ℕ
nodes_in None = 0
nodes_in (Some size) = 1

abbrev pub names_by : NodeKind → (count : ℕ) → ℕ
names_by kind.File count = 0
names_by kind.Directory count = count

abbrev pub names_in : Option Size → ℕ
names_in None = 0
names_in (Some size) = names_by size.kind size.count

-- fewer than `most` bytes or names
abbrev pub IsBelow : (most : ℕ) → Option Size → Type 0
IsBelow most None = Unit {0}
IsBelow most (Some size) = size.count < most

-- The effect of an edit on it

-- the number of the node that an edit changes
abbrev pub edited_number : Edit → ℕ
edited_number (declared.PutNode number kind metadata) = number
edited_number (declared.DropNode number) = number
edited_number (declared.Show number metadata) = number
edited_number (declared.PutName directory stamp name number) = directory
edited_number (declared.DropName directory stamp name) = directory
edited_number (declared.PutBytes file offset bytes) = file
edited_number (declared.SetSize file size) = file

-- what that node has after the edit
abbrev pub resized_by : Edit → Option Size → Option Size
resized_by (declared.PutNode number kind metadata) size = Some (record { kind = kind; count = 0 })
resized_by (declared.DropNode number) size = None
resized_by (declared.Show number metadata) size = size
resized_by (declared.PutName directory stamp name number) None = None
resized_by (declared.PutName directory stamp name number) (Some size) =
    Some (record { kind = kind.Directory; count = size.count + 1 })
resized_by (declared.DropName directory stamp name) None = None
resized_by (declared.DropName directory stamp name) (Some size) =
    Some (record { kind = kind.Directory; count = size.count - 1 })
resized_by (declared.PutBytes file offset bytes) None = None
resized_by (declared.PutBytes file offset bytes) (Some size) =
    Some (record { kind = kind.File; count = max size.count (offset + length bytes.now) })
resized_by (declared.SetSize file size) None = None
resized_by (declared.SetSize file size) (Some was) =
    Some (record { kind = kind.File; count = size })

-- what fits does not depend on the bytes of files
abbrev pub FitsAlike : Type 0
FitsAlike = (limits : Limits) (tree other : Tree) (edits : List model.Edit)
    → without_data other ≡ without_data tree
    → fits limits (edited edits other) ≡ fits limits (edited edits tree)
