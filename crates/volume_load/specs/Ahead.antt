-- What is read ahead of a node table.
use Rattle.std.specs.Prelude.{◌≡◌, ◌≤◌, ◌<◌, ◌+◌, ◌^◌, ℕ, List, [], vec_len, slice_index_or}
use Rattle.disk.specs.Moments.{Image}
use Rattle.layout.specs.CachedNodes.{node_sector}
use Rattle.volume_load.specs.declared.ahead.Ahead.{Ahead}

-- sectors of a table with `nodes` places, as the image has them
pub record IsAhead (word : Type 0) (image : Image) (size nodes : ℕ) (ahead : Ahead) : Type 0 where
  pub nodes_are : ahead.nodes ≡ nodes
  pub within : 148 + nodes ≤ size
  pub small : 148 + nodes < 2 ^ 32
  pub held : word → (i : ℕ) → i < vec_len ahead.contents
      → slice_index_or ahead.contents.items i [] ≡ image (node_sector (ahead.first + i))
