-- What a volume keeps in memory, and what it has of its sectors.
use Rattle.std.specs.Prelude.{◌≡◌, ◌+◌, ℕ, Bool, List, Option, length}
use Rattle.disk.specs.Moments.{Image}
use Rattle.journal.specs.Log.{Log, IsSettled, contents}
use Rattle.layout.specs.CachedNodes.{CachedNode, tree_of, cached_nodes_in}
use Rattle.layout.specs.Known.{AreCached}
use Rattle.layout.specs.Marks.{mark_by}
use Rattle.layout.specs.Stands.{HaveCurrentForms, Kept, StandsNow, seats_at}
use Rattle.layout.specs.declared.versions.VersionNumber.{VersionNumber}

-- on any device: cached nodes, and the set of places that they name, which are those of the whole
-- data region
pub record AreKnownNodes (data_end nodes : ℕ) (cached_nodes : List (Option CachedNode))
    (places : List Bool)
    : Type 0 where
  pub are_cached_nodes : AreCached nodes (mark_by (148 + nodes) places) cached_nodes
  pub forms : HaveCurrentForms cached_nodes
  pub whole : data_end ≡ 148 + nodes + length places

-- the tree of these cached nodes and the seats, as the sectors have them
abbrev pub kept_in_image : VersionNumber → Image → List (Option CachedNode) → Kept
kept_in_image version image cached_nodes = record
    { tree = tree_of image cached_nodes; seats = seats_at version image }

-- on a device that keeps its word, while it has not failed: the cached nodes are those of the
-- sectors, flushed or not, and what a crash leaves settles to the journal's base
pub record IsServing (version : VersionNumber) (log : Log) (nodes run : ℕ)
    (cached_nodes : List (Option CachedNode)) : Type 0 where
  pub read : cached_nodes ≡ cached_nodes_in nodes (contents log)
  pub stands : ∥ StandsNow version log.size nodes (contents log) run
      (kept_in_image version (contents log) cached_nodes) ∥₁
  pub settled : IsSettled log
