-- What is known of laid cached nodes whatever the sectors hold: all of it follows from the cached
-- nodes themselves and the marks. On a device that does not keep its word nothing else is known.
use Rattle.std.specs.Prelude.{◌≡◌, ◌≤◌, ◌<◌, ◌+◌, ℕ, List, [], Option, Some, None, length, set, slice_index_or}
use Rattle.std.specs.List.{AllByRecursion}
use Rattle.disk.specs.Moments.{Image}
use Rattle.model_tree.specs.declared.node.NodeKind.{NodeKind}
use Rattle.model_tree.specs.declared.node.NodeKind.TheVariants as kind
use Rattle.inode.specs.Fields.{IsInode}
use Rattle.extents.specs.Runs.{AreRunsOf}
use Rattle.extents.specs.Sector.{IsRun}
use Rattle.directory.specs.Records.{IsDirectory, NamesStamped}
use Rattle.layout.specs.CachedNodes.{CachedNode, block_count}
use Rattle.layout.specs.ChangeLaws.{IsOwnNumber}
use Rattle.layout.specs.Laid.{AreLaid, AreNumbered}
use Rattle.layout.specs.Marks.{named, namings_of}

-- a directory's size is the number of its names
pub record HasNames (cached : CachedNode) : Type 0 where
  pub count : length cached.names ≡ cached.fields.size
  pub names : IsDirectory cached.names
  pub stamped : NamesStamped cached.names

abbrev pub HasContent : NodeKind → CachedNode → Type 0
HasContent kind.File cached = cached.names ≡ []
HasContent kind.Directory cached = HasNames cached

pub record IsCached (cached : CachedNode) : Type 0 where
  pub fits : IsInode cached.form cached.fields
  pub number : 0 < cached.fields.number
  pub each_run : AllByRecursion IsRun cached.runs
  pub run_count : length cached.runs ≡ cached.fields.runs
  pub runs : AreRunsOf cached.runs cached.blocks
  pub blocks : length cached.blocks ≡ block_count cached.fields
  pub content : HasContent cached.fields.kind cached

abbrev pub IsNodePlace : Option CachedNode → Type 0
IsNodePlace None = Unit {0}
IsNodePlace (Some cached) = IsCached cached

-- the cached nodes of a table, and marks that are what they name
pub record AreCached (nodes : ℕ) (mark : ℕ → ℕ)
    (cached_nodes : List (Option CachedNode)) : Type 0 where
  pub count : length cached_nodes ≡ nodes
  pub each : (place : ℕ) → place < nodes → IsNodePlace (slice_index_or cached_nodes place None)
  pub apart : AreNumbered cached_nodes
  pub marks : (n : ℕ) → named n cached_nodes ≡ mark n
  pub behind : (n : ℕ) → 0 < mark n → 148 + nodes ≤ n
  pub once : (n : ℕ) → mark n ≤ 1

-- cached nodes that are laid are so
abbrev pub LaidAreCachedNodes : Type 0
LaidAreCachedNodes =
    (nodes : ℕ) (image : Image) (mark : ℕ → ℕ) (cached_nodes : List (Option CachedNode))
    → AreLaid nodes image mark cached_nodes
    → AreCached nodes mark cached_nodes

-- the marks follow the cached node that is now at a place, instead of the one that was there
pub record MovesMarks (nodes : ℕ) (marked mark : ℕ → ℕ) (was is : Option CachedNode) : Type 0 where
  pub marks : (n : ℕ) → mark n + namings_of n was ≡ marked n + namings_of n is
  pub once : (n : ℕ) → mark n ≤ 1
  pub behind : (n : ℕ) → 0 < mark n → 148 + nodes ≤ n

-- and if one of them changes along with the marks, they stay so
abbrev pub OneCachedChange : Type 0
OneCachedChange =
    (nodes : ℕ) (marked mark : ℕ → ℕ) (cached_nodes : List (Option CachedNode)) (place : ℕ)
    (is : Option CachedNode)
    → place < nodes → AreCached nodes marked cached_nodes → IsOwnNumber cached_nodes place is
    → IsNodePlace is
    → MovesMarks nodes marked mark (slice_index_or cached_nodes place None) is
    → AreCached nodes mark (set cached_nodes place is)
