-- What a tree leaves of its volume's limits.
use Rattle.std.specs.Prelude.{◌≡◌, ◌+◌, length}
use Rattle.model_tree.specs.Trees.Charge.{charge}
use Rattle.model_tree.specs.Trees.Keyed.{total}
use Rattle.volume.specs.VolumeState.{VolumeState}
use Rattle.volume.specs.declared.room.Room.{Room}

-- added to what its nodes are charged, and to their count, it gives what `fits` compares these to
pub record IsLeftOf (held : VolumeState) (room : Room) : Type 0 where
  pub sectors : room.sectors + total charge held.tree ≡ held.limits.data_sectors
  pub nodes : room.nodes + length held.tree ≡ held.limits.nodes
