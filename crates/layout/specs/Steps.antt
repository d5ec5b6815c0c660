-- Steps on one cached node, and the trees that they give.
use Rattle.std.specs.Prelude.{◌≡◌, ◌≢◌, ◌≤◌, ◌<◌, ◌+◌, ◌==◌, ℕ, List, [], Option, Some, None, length, take, drop, set, slice_index_or}
use Rattle.disk.specs.Moments.{Image}
use Rattle.directory.specs.Listing.{by_stamp}
use Rattle.extents.specs.Runs.{with_holes}
use Rattle.inode.specs.Fields.{Fields}
use Rattle.model_tree.specs.declared.node.NodeKind.TheVariants as kind
use Rattle.model_tree.specs.Trees.Keyed.{Keyed, with}
use Rattle.model_tree.specs.Trees.Tree.{Tree, File, Directory, DirEntry}
use Rattle.layout.specs.CachedNodes.{CachedNode, bytes_in, node_with, tree_of}
use Rattle.layout.specs.ChangeLaws.{ChangesOwn}
use Rattle.layout.specs.Files.{HoldBytes, HoldOthers}
use Rattle.layout.specs.Laid.{AreLaid, HoldsNode, HoldsNames}
use Rattle.layout.specs.Marks.{once_if, times_set}

-- The cached node `was` at a place becomes `is`, of the same number: the node's sectors are
-- written, and only its own have changed
pub record NodeSteps (nodes : ℕ) (old new : Image) (marked mark : ℕ → ℕ)
    (cached_nodes : List (Option CachedNode))
    (place : ℕ)
    (was is : CachedNode) : Type 0 where
  pub within : place < nodes
  pub there : slice_index_or cached_nodes place None ≡ Some was
  pub number : is.fields.number ≡ was.fields.number
  pub laid : AreLaid nodes old marked cached_nodes
  pub node : HoldsNode new place is
  pub own : ChangesOwn nodes old new marked mark place (Some was) (Some is)

-- Then the cached nodes are laid, and the tree is this one
pub record LaysTree (nodes : ℕ) (new : Image) (mark : ℕ → ℕ)
    (cached_nodes : List (Option CachedNode))
    (place : ℕ)
    (is : CachedNode)
    (tree : Tree) : Type 0 where
  pub laid : AreLaid nodes new mark (set cached_nodes place (Some is))
  pub tree_is : tree_of new (set cached_nodes place (Some is)) ≡ tree

-- a file gets these bytes
abbrev pub FileStep : Type 0
FileStep =
    (nodes : ℕ) (old new : Image) (marked mark : ℕ → ℕ) (cached_nodes : List (Option CachedNode))
    (place : ℕ)
    (was is : CachedNode)
    (bytes : List ℕ) → NodeSteps nodes old new marked mark cached_nodes place was is
    → is.fields.kind ≡ kind.File → is.names ≡ []
    → is.fields.size ≡ length bytes → HoldBytes new is.blocks bytes
    → LaysTree nodes new mark cached_nodes place is
    (with (tree_of old cached_nodes) is.fields.number (node_with is.fields (File bytes)))

-- a directory gets these names
abbrev pub NamesStep : Type 0
NamesStep =
    (nodes : ℕ) (old new : Image) (marked mark : ℕ → ℕ) (cached_nodes : List (Option CachedNode))
    (place : ℕ)
    (was is : CachedNode)
    (names : Keyed DirEntry) → NodeSteps nodes old new marked mark cached_nodes place was is
    → is.fields.kind ≡ kind.Directory
    → HoldsNames new is → by_stamp is.names ≡ names
    → LaysTree nodes new mark cached_nodes place is
    (with (tree_of old cached_nodes) is.fields.number (node_with is.fields (Directory names)))

-- a file gets other blocks, and neither bytes nor fields that the tree shows: the tree stays

pub record ShowsSame (was is : Fields) : Type 0 where
  pub owner : is.owner ≡ was.owner
  pub group : is.group ≡ was.group
  pub acl : is.acl ≡ was.acl
  pub change : is.change ≡ was.change
  pub time_modify : is.time_modify ≡ was.time_modify

abbrev pub SameStep : Type 0
SameStep =
    (nodes : ℕ) (old new : Image) (marked mark : ℕ → ℕ) (cached_nodes : List (Option CachedNode))
    (place : ℕ)
    (was is : CachedNode)
    (bytes : List ℕ) → NodeSteps nodes old new marked mark cached_nodes place was is
    → was.fields.kind ≡ kind.File
    → is.fields.kind ≡ kind.File → is.names ≡ [] → was.fields.size ≡ length bytes
    → is.fields.size ≡ length bytes
    → HoldBytes old was.blocks bytes → HoldBytes new is.blocks bytes
    → ShowsSame was.fields is.fields
    → LaysTree nodes new mark cached_nodes place is (tree_of old cached_nodes)

-- a file of a laid volume holds the bytes that are read, and zeros past them
abbrev pub FileThere : Type 0
FileThere =
    (nodes : ℕ) (image : Image) (mark : ℕ → ℕ) (cached_nodes : List (Option CachedNode)) (place : ℕ)
    (cached : CachedNode)
    → AreLaid nodes image mark cached_nodes → place < nodes → slice_index_or cached_nodes place None
    ≡ Some cached
    → cached.fields.kind ≡ kind.File
    → HoldBytes image cached.blocks (bytes_in image cached.blocks cached.fields.size)

-- Blocks

-- no block has the sector, or none except one
abbrev pub HaveNot : List (Option ℕ) → (sector : ℕ) → Type 0
HaveNot blocks sector = (i : ℕ) → slice_index_or blocks i None ≢ Some sector

abbrev pub HaveElsewhere : List (Option ℕ) → (block sector : ℕ) → Type 0
HaveElsewhere blocks block sector = (i : ℕ) → i ≢ block → slice_index_or blocks i None ≢ Some sector

-- a sector that is named at most once is no other block's, and one that is not named is no block's
pub record IsOwn (blocks : List (Option ℕ)) (sector : ℕ) : Type 0 where
  pub unnamed : times_set sector blocks ≡ 0 → HaveNot blocks sector
  pub once : times_set sector blocks ≤ 1 → (block : ℕ)
      → slice_index_or blocks block None ≡ Some sector
      → HaveElsewhere blocks block sector

abbrev pub EachOwn : Type 0
EachOwn = (blocks : List (Option ℕ)) (sector : ℕ) → IsOwn blocks sector

-- the blocks except one hold what they held, if no other of their sectors has changed
abbrev pub OthersHold : Type 0
OthersHold = (old new : Image) (blocks : List (Option ℕ)) (block sector : ℕ)
    → ((n : ℕ) → n ≢ sector → 0 < times_set n blocks → new n ≡ old n)
    → HaveElsewhere blocks block sector
    → HoldOthers old new blocks block

-- how often blocks have a sector, after a change
pub record TimesChange (n : ℕ) (blocks : List (Option ℕ)) : Type 0 where
  pub filled : (block sector : ℕ) → block < length blocks → slice_index_or blocks block None ≡ None
      → times_set n (set blocks block (Some sector)) ≡ times_set n blocks + once_if (n == sector)
  pub cut : (count : ℕ) → times_set n (take count blocks) + times_set n (drop count blocks)
      ≡ times_set n blocks
  pub grown : (count : ℕ) → times_set n (with_holes blocks count) ≡ times_set n blocks

abbrev pub EachChange : Type 0
EachChange = (n : ℕ) (blocks : List (Option ℕ)) → TimesChange n blocks
