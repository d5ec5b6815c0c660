-- The cached nodes that are found.
use Rattle.std.specs.Prelude.{◌≡◌, ◌≤◌, ◌<◌, ◌+◌, ℕ, Bool, List, [], ◌∷◌, Option, Some, None}
use Rattle.std.specs.Prelude.{length, slice_index_or}
use Rattle.disk.specs.Moments.{Image}
use Rattle.disk.specs.Calls.{zero_sector}
use Rattle.extents.specs.declared.run.Run.{Run}
use Rattle.extents.specs.Runs.{AreRunsOf}
use Rattle.inode.specs.declared.node.Form.{Form}
use Rattle.inode.specs.Fields.{Fields}
use Rattle.layout.specs.CachedNodes.{CachedNode, node_sector, block_count}
use Rattle.layout.specs.Marks.{times, times_set, named, mark_by}
use Rattle.volume_load.specs.Marking.{max_marks}
use Rattle.volume_load.specs.Names.{FindsContent}
use Rattle.volume_load.specs.Places.{FindsNode}
use Rattle.volume_load.specs.Runs.{FindsRuns}

-- how often a node of these fields and blocks names a sector
abbrev pub uses : Fields → List (Option ℕ) → (n : ℕ) → ℕ
uses fields blocks n = times n fields.run_sectors + times_set n blocks

-- what the run sectors of a node that has at most 4,096 blocks hold
pub record FindsBlocks (word : Type 0) (image : Image) (fields : Fields) (runs : List Run)
    (blocks : List (Option ℕ)) : Type 0 where
  pub in_sectors : FindsRuns word image fields.run_sectors fields.runs runs
  pub laid : AreRunsOf runs blocks
  pub count : length blocks ≡ block_count fields
  pub few : length blocks ≤ 4096

-- and its blocks
pub record FindsRest (word : Type 0) (image : Image) (cached : CachedNode) : Type 0 where
  pub in_blocks : FindsBlocks word image cached.fields cached.runs cached.blocks
  pub content : FindsContent word image cached.fields.kind cached.fields.size cached.blocks
      cached.names

-- a place whose node has this form
pub record FindsOneCached (word : Type 0) (own : Form) (image : Image) (place : ℕ)
    (cached : CachedNode)
    : Type 0 where
  pub form : cached.form ≡ own
  pub node : FindsNode word own (image (node_sector place)) cached.fields
  pub rest : FindsRest word image cached

abbrev pub FindsPlace : (word : Type 0) → Form → Image → (place : ℕ) → Option CachedNode → Type 0
FindsPlace word form image place None = word → image (node_sector place) ≡ zero_sector
FindsPlace word form image place (Some cached) = FindsOneCached word form image place cached

-- the places of a table, each in its form
abbrev pub ArePlaces : (word : Type 0) (form : ℕ → Form) → Image → (nodes : ℕ)
    → List (Option CachedNode) → Type 0
ArePlaces word form image nodes cached_nodes = (place : ℕ) → place < nodes
    → FindsPlace word (form place) image place (slice_index_or cached_nodes place None)

-- a table, and marks of the data region that are what it names
pub record IsFound (word : Type 0) (form : ℕ → Form) (image : Image) (nodes count : ℕ)
    (cached_nodes : List (Option CachedNode)) (places : List Bool) : Type 0 where
  pub many : length cached_nodes ≡ nodes
  pub each : ArePlaces word form image nodes cached_nodes
  pub len : length places ≡ count
  pub marks : (n : ℕ) → mark_by (148 + nodes) places n ≡ named n cached_nodes

-- a table that names each sector of the data region at most once, and no other sector
pub record CanHold (word : Type 0) (form : ℕ → Form) (image : Image) (nodes count : ℕ)
    (cached_nodes : List (Option CachedNode)) : Type 0 where
  pub many : length cached_nodes ≡ nodes
  pub each : ArePlaces word form image nodes cached_nodes
  pub once : (n : ℕ) → named n cached_nodes ≤ max_marks (148 + nodes) count n

-- the numbers of the nodes
abbrev pub numbers_of : List (Option CachedNode) → List ℕ
numbers_of [] = []
numbers_of (None ∷ cached_nodes) = numbers_of cached_nodes
numbers_of (Some cached ∷ cached_nodes) = cached.fields.number ∷ numbers_of cached_nodes
