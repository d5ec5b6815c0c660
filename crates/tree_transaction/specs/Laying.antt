-- A node's sectors as they are laid.
use Rattle.std.specs.Prelude.{◌≡◌, ◌≢◌, ◌≤◌, ◌<◌, ◌+◌, ◌^◌, []}
use Rattle.std.specs.Prelude.{ℕ, List, Bool, length, slice_index_or}
use Rattle.std.specs.List.{AllByRecursion}
use Rattle.disk.specs.Moments.{Image, applied}
use Rattle.disk.specs.declared.update.Update.{Update}
use Rattle.inode.specs.Fields.{Fields, IsInode}
use Rattle.inode.specs.Encoding.{inode_sector}
use Rattle.extents.specs.declared.run.Run.{Run}
use Rattle.extents.specs.Sector.{run_sector, IsRun}
use Rattle.extents.specs.Runs.{AreRunsOf, RunsApart}
use Rattle.model_tree.specs.Trees.Charge.{divided_up}
use Rattle.layout.specs.CachedNodes.{CachedNode}
use Rattle.layout.specs.Marks.{times}
use Rattle.layout.specs.Laid.{runs_of_sector, AreRunSectors}
use Rattle.layout.specs.Marks.{mark_by}

-- no sector occurs twice
abbrev pub AreOnce : List ℕ → Type 0
AreOnce numbers = (i j : ℕ) → i < j → j < length numbers
    → slice_index_or numbers i 0 ≢ slice_index_or numbers j 0

-- the first run sectors hold their runs, and no other sector has changed
pub record LaysPrefix (old new : Image) (numbers : List ℕ) (runs : List Run)
    (count : ℕ) : Type 0 where
  pub encoded : (i : ℕ) → i < count
      → new (slice_index_or numbers i 0) ≡ run_sector (runs_of_sector i runs)
  pub others : (n : ℕ) → times n numbers ≡ 0 → new n ≡ old n

-- a node's sector and its run sectors hold it, and no other sector has changed
pub record LaysNode (old new : Image) (sector : ℕ) (cached : CachedNode) : Type 0 where
  pub node : new sector ≡ inode_sector cached.form cached.fields
  pub run_sectors : AreRunSectors new cached.fields.run_sectors cached.runs
  pub others : (n : ℕ) → n ≢ sector → times n cached.fields.run_sectors ≡ 0 → new n ≡ old n

-- the marks follow what is named
abbrev pub Follow : (first : ℕ) → (was is : List Bool) → (named_was named_is : List ℕ) → Type 0
Follow first was is named_was named_is = (n : ℕ)
    → mark_by first is n + times n named_was ≡ mark_by first was n + times n named_is

-- what is named is marked
abbrev pub AreMarked : (first : ℕ) → List Bool → List ℕ → Type 0
AreMarked first places numbers = (n : ℕ) → times n numbers ≤ mark_by first places n

-- the fields with other runs
abbrev pub fields_with : Fields → (runs : ℕ) → (run_sectors : List ℕ) → Fields
fields_with fields runs run_sectors = record fields { runs = runs; run_sectors = run_sectors }

-- the runs are those of the blocks, and nothing else of the cached node has changed
pub record IsRerun (was is : CachedNode) : Type 0 where
  pub form : is.form ≡ was.form
  pub blocks : is.blocks ≡ was.blocks
  pub names : is.names ≡ was.names
  pub fields : is.fields ≡ fields_with was.fields is.fields.runs is.fields.run_sectors
  pub runs : AreRunsOf is.runs is.blocks
  pub each_run : AllByRecursion IsRun is.runs
  pub run_count : length is.runs ≡ is.fields.runs
  pub fits : IsInode is.form is.fields

-- a cached node can be laid at a place: its fields, apart from its runs, can be encoded, and its
-- run sectors are marked
pub record CanBeLaid (nodes place : ℕ) (places : List Bool) (cached : CachedNode) : Type 0 where
  pub room : 148 + nodes + length places < 2 ^ 32
  pub within : place < nodes
  pub fits : IsInode cached.form (fields_with cached.fields 0 [])
  pub marked : AreMarked (148 + nodes) places cached.fields.run_sectors

-- runs of its blocks that can be encoded
pub record AreRunsFor (list : List Run) (cached : CachedNode) : Type 0 where
  pub runs : AreRunsOf list cached.blocks
  pub each : AllByRecursion IsRun list
  pub few : length list ≤ 4096

-- how many run sectors `runs` runs need, 500 each
abbrev pub sectors_for : (runs : ℕ) → ℕ
sectors_for runs = divided_up runs 500

-- the shortest list of its runs needs no more run sectors than it has
abbrev pub HasEnough : CachedNode → Type 0
HasEnough cached = (runs : List Run) → AreRunsOf runs cached.blocks → RunsApart runs
    → sectors_for (length runs) ≤ length cached.fields.run_sectors

-- a cached node gets runs and is laid at a place, whatever is under the updates
pub record LaysCached (nodes place : ℕ) (places is_places : List Bool) (old new : List Update)
    (was is : CachedNode) : Type 0 where
  pub rerun : IsRerun was is
  pub follow : Follow (148 + nodes) places is_places was.fields.run_sectors is.fields.run_sectors
  pub len : length is_places ≡ length places
  pub lays : (image : Image) → LaysNode (applied old image) (applied new image) (148 + place) is
