-- The changes of a volume, each an edit of its tree.
use Rattle.std.specs.Prelude.{◌≡◌, ◌≤◌, ◌<◌, ◌+◌, ◌-◌, ◌*◌, ℕ, List, [], Option, Some, None, max, length, take, set, slice_index_or}
use Rattle.disk.specs.Moments.{Image, put}
use Rattle.disk.specs.Calls.{zero_sector}
use Rattle.sector.specs.Placed.{placed}
use Rattle.directory.specs.Listing.{by_stamp}
use Rattle.directory.specs.Records.{Record, IsDirectory, NamesStamped, with_record, without_place}
use Rattle.extents.specs.Runs.{with_holes}
use Rattle.model_tree.specs.declared.node.NodeKind.TheVariants as kind
use Rattle.model_tree.specs.Trees.Edit.{Metadata, PutNode, DropNode, Show, PutName, DropName, PutBytes, SetSize, done}
use Rattle.model_tree.specs.Trees.Keyed.{with, without}
use Rattle.layout.specs.CachedNodes.{CachedNode, byte_at, node_sector, node_of, tree_of}
use Rattle.layout.specs.ChangeLaws.{ChangesOwn, IsOwnNumber}
use Rattle.layout.specs.Directories.{RewritesBlocks, block_of, block_put}
use Rattle.layout.specs.Files.{over, CutsBlocks}
use Rattle.layout.specs.Laid.{AreLaid, HoldsNode, HoldsNames, HoldsContent}
use Rattle.layout.specs.Marks.{times_set}
use Rattle.layout.specs.Steps.{NodeSteps, LaysTree, ShowsSame}

-- Files

-- a file before and after: of what the tree shows, only its bytes have changed
pub record AreFiles (was is : CachedNode) : Type 0 where
  pub was_file : was.fields.kind ≡ kind.File
  pub is_file : is.fields.kind ≡ kind.File
  pub unnamed : is.names ≡ []
  pub shows : ShowsSame was.fields is.fields

-- a part is written within a block that is set, below the file's size
pub record WritesPart (nodes : ℕ) (old : Image) (marked : ℕ → ℕ)
    (cached_nodes : List (Option CachedNode))
    (place : ℕ) (cached : CachedNode)
    (block sector from : ℕ) (part : List ℕ) : Type 0 where
  pub laid : AreLaid nodes old marked cached_nodes
  pub within : place < nodes
  pub there : slice_index_or cached_nodes place None ≡ Some cached
  pub file : cached.fields.kind ≡ kind.File
  pub is_set : slice_index_or cached.blocks block None ≡ Some sector
  pub whole : length (old sector) ≡ 4096
  pub in_block : from + length part ≤ 4096
  pub in_file : 4096 * block + from + length part ≤ cached.fields.size

abbrev pub part_written : Image → (sector from : ℕ) → List ℕ → Image
part_written old sector from part =
    put old (record { target = sector; content = placed (old sector) from part })

abbrev pub WritePart : Type 0
WritePart =
    (nodes : ℕ) (old : Image) (marked : ℕ → ℕ) (cached_nodes : List (Option CachedNode)) (place : ℕ)
    (cached : CachedNode)
    (block sector from : ℕ) (part : List ℕ)
    → WritesPart nodes old marked cached_nodes place cached block sector from part
    → LaysTree nodes (part_written old sector from part) marked cached_nodes place cached
    (done (PutBytes cached.fields.number (4096 * block + from) part) (tree_of old cached_nodes))

-- bytes are written from a place on, over however many blocks: holes on the way are filled, and the
-- file may grow
pub record WritesFile (old new : Image) (was is : CachedNode) (offset : ℕ) (bytes : List ℕ)
    : Type 0 where
  pub files : AreFiles was is
  pub size : is.fields.size ≡ max was.fields.size (offset + length bytes)
  pub written : (k : ℕ) → byte_at new is.blocks k ≡ over (byte_at old was.blocks) offset bytes k

abbrev pub WriteFile : Type 0
WriteFile =
    (nodes : ℕ) (old new : Image) (marked mark : ℕ → ℕ) (cached_nodes : List (Option CachedNode))
    (place : ℕ)
    (was is : CachedNode)
    (offset : ℕ) (bytes : List ℕ) → NodeSteps nodes old new marked mark cached_nodes place was is
    → WritesFile old new was is offset bytes
    → LaysTree nodes new mark cached_nodes place is
    (done (PutBytes was.fields.number offset bytes) (tree_of old cached_nodes))

-- a hole gets a sector of zeros, besides what its runs need
pub record FillsBlock (old new : Image) (was is : CachedNode) (block sector : ℕ) : Type 0 where
  pub files : AreFiles was is
  pub blocks : is.blocks ≡ set was.blocks block (Some sector)
  pub within : block < length was.blocks
  pub hole : slice_index_or was.blocks block None ≡ None
  pub zeros : new sector ≡ zero_sector
  pub kept : (n : ℕ) → 0 < times_set n was.blocks → new n ≡ old n
  pub size : is.fields.size ≡ was.fields.size

abbrev pub FillBlock : Type 0
FillBlock =
    (nodes : ℕ) (old new : Image) (marked mark : ℕ → ℕ) (cached_nodes : List (Option CachedNode))
    (place : ℕ)
    (was is : CachedNode)
    (block sector : ℕ) → NodeSteps nodes old new marked mark cached_nodes place was is
    → FillsBlock old new was is block sector
    → LaysTree nodes new mark cached_nodes place is (tree_of old cached_nodes)

-- a file is truncated: its blocks from `count` on go, and the last one that stays has zeros past
-- its size
pub record CutsFile (old new : Image) (was is : CachedNode) (count : ℕ) : Type 0 where
  pub files : AreFiles was is
  pub blocks : is.blocks ≡ take count was.blocks
  pub cuts : CutsBlocks old new was.blocks count is.fields.size

abbrev pub CutFile : Type 0
CutFile =
    (nodes : ℕ) (old new : Image) (marked mark : ℕ → ℕ) (cached_nodes : List (Option CachedNode))
    (place : ℕ)
    (was is : CachedNode)
    (count : ℕ) → NodeSteps nodes old new marked mark cached_nodes place was is
    → CutsFile old new was is count
    → LaysTree nodes new mark cached_nodes place is
    (done (SetSize was.fields.number is.fields.size) (tree_of old cached_nodes))

-- a file grows by holes
pub record GrowsFile (old new : Image) (was is : CachedNode) (count : ℕ) : Type 0 where
  pub files : AreFiles was is
  pub blocks : is.blocks ≡ with_holes was.blocks count
  pub longer : was.fields.size ≤ is.fields.size
  pub kept : (n : ℕ) → 0 < times_set n was.blocks → new n ≡ old n

abbrev pub GrowFile : Type 0
GrowFile =
    (nodes : ℕ) (old new : Image) (marked mark : ℕ → ℕ) (cached_nodes : List (Option CachedNode))
    (place : ℕ)
    (was is : CachedNode)
    (count : ℕ) → NodeSteps nodes old new marked mark cached_nodes place was is
    → GrowsFile old new was is count
    → LaysTree nodes new mark cached_nodes place is
    (done (SetSize was.fields.number is.fields.size) (tree_of old cached_nodes))

-- Directories

-- a directory before and after: of what the tree shows, only its names have changed
pub record AreDirectories (old : Image) (was is : CachedNode) : Type 0 where
  pub was_directory : was.fields.kind ≡ kind.Directory
  pub is_directory : is.fields.kind ≡ kind.Directory
  pub held : HoldsNames old was
  pub names : IsDirectory is.names
  pub size : is.fields.size ≡ length is.names
  pub shows : ShowsSame was.fields is.fields

-- a name is put after the last one, or in the place of its record
pub record PutsName (old new : Image) (was is : CachedNode) (entry : Record) : Type 0 where
  pub directories : AreDirectories old was is
  pub stamped : NamesStamped is.names
  pub names : is.names ≡ with_record was.names entry
  pub blocks : RewritesBlocks old new was.blocks is.blocks is.names (block_put was.names entry)
      (block_put was.names entry)
  pub map_is : by_stamp is.names ≡ with (by_stamp was.names) entry.0 entry.1

abbrev pub PutOneName : Type 0
PutOneName =
    (nodes : ℕ) (old new : Image) (marked mark : ℕ → ℕ) (cached_nodes : List (Option CachedNode))
    (place : ℕ)
    (was is : CachedNode)
    (entry : Record) → NodeSteps nodes old new marked mark cached_nodes place was is
    → PutsName old new was is entry
    → LaysTree nodes new mark cached_nodes place is
    (done (PutName was.fields.number entry.0 entry.1) (tree_of old cached_nodes))

-- a name is removed, and the last record moves into its place
pub record DropsName (old new : Image) (was is : CachedNode) (at stamp : ℕ) : Type 0 where
  pub directories : AreDirectories old was is
  pub within : at < length was.names
  pub names : is.names ≡ without_place was.names at
  pub blocks : RewritesBlocks old new was.blocks is.blocks is.names (block_of at)
      (block_of (length was.names - 1))
  pub map_is : by_stamp is.names ≡ without (by_stamp was.names) stamp

abbrev pub DropOneName : Type 0
DropOneName =
    (nodes : ℕ) (old new : Image) (marked mark : ℕ → ℕ) (cached_nodes : List (Option CachedNode))
    (place : ℕ)
    (was is : CachedNode)
    (at stamp : ℕ) → NodeSteps nodes old new marked mark cached_nodes place was is
    → DropsName old new was is at stamp
    → LaysTree nodes new mark cached_nodes place is
    (done (DropName was.fields.number stamp) (tree_of old cached_nodes))

-- Nodes

-- the metadata of a node changes, and nothing else does
pub record ShowsOther (old new : Image) (was is : CachedNode) (shown : Metadata) : Type 0 where
  pub kind : is.fields.kind ≡ was.fields.kind
  pub size : is.fields.size ≡ was.fields.size
  pub blocks : is.blocks ≡ was.blocks
  pub names : is.names ≡ was.names
  pub kept : (n : ℕ) → 0 < times_set n was.blocks → new n ≡ old n
  pub owner : is.fields.owner ≡ shown.owner
  pub group : is.fields.group ≡ shown.group
  pub acl : is.fields.acl ≡ shown.acl
  pub change : is.fields.change ≡ shown.change
  pub time_modify : is.fields.time_modify ≡ shown.time_modify

abbrev pub ShowOther : Type 0
ShowOther =
    (nodes : ℕ) (old new : Image) (marked mark : ℕ → ℕ) (cached_nodes : List (Option CachedNode))
    (place : ℕ)
    (was is : CachedNode)
    (shown : Metadata) → NodeSteps nodes old new marked mark cached_nodes place was is
    → ShowsOther old new was is shown
    → LaysTree nodes new mark cached_nodes place is
    (done (Show was.fields.number shown) (tree_of old cached_nodes))

-- a node is made at a free place
pub record MakesNode (nodes : ℕ) (old new : Image) (marked mark : ℕ → ℕ)
    (cached_nodes : List (Option CachedNode)) (place : ℕ)
    (is : CachedNode) : Type 0 where
  pub within : place < nodes
  pub free : slice_index_or cached_nodes place None ≡ None
  pub laid : AreLaid nodes old marked cached_nodes
  pub fresh : IsOwnNumber cached_nodes place (Some is)
  pub node : HoldsNode new place is
  pub content : HoldsContent new is.fields.kind is
  pub own : ChangesOwn nodes old new marked mark place None (Some is)

abbrev pub MakeNode : Type 0
MakeNode =
    (nodes : ℕ) (old new : Image) (marked mark : ℕ → ℕ) (cached_nodes : List (Option CachedNode))
    (place : ℕ)
    (is : CachedNode)
    → MakesNode nodes old new marked mark cached_nodes place is
    → LaysTree nodes new mark cached_nodes place is
    (done (PutNode is.fields.number (node_of new is)) (tree_of old cached_nodes))

-- a node is removed: its place is zero, and what it named is free
pub record FreesNode (nodes : ℕ) (old new : Image) (marked mark : ℕ → ℕ)
    (cached_nodes : List (Option CachedNode)) (place : ℕ)
    (was : CachedNode) : Type 0 where
  pub within : place < nodes
  pub there : slice_index_or cached_nodes place None ≡ Some was
  pub laid : AreLaid nodes old marked cached_nodes
  pub vacated : new (node_sector place) ≡ zero_sector
  pub own : ChangesOwn nodes old new marked mark place (Some was) None

pub record IsFreed (nodes : ℕ) (old new : Image) (mark : ℕ → ℕ)
    (cached_nodes : List (Option CachedNode))
    (place : ℕ)
    (was : CachedNode) : Type 0 where
  pub laid : AreLaid nodes new mark (set cached_nodes place None)
  pub tree_is : tree_of new (set cached_nodes place None)
      ≡ done (DropNode was.fields.number) (tree_of old cached_nodes)

abbrev pub FreeNode : Type 0
FreeNode =
    (nodes : ℕ) (old new : Image) (marked mark : ℕ → ℕ) (cached_nodes : List (Option CachedNode))
    (place : ℕ)
    (was : CachedNode)
    → FreesNode nodes old new marked mark cached_nodes place was
    → IsFreed nodes old new mark cached_nodes place was
