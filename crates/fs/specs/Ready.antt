-- What a file system knows of its tree on any device, while that has not failed.
use Rattle.std.specs.Prelude.{◌≡◌, ℕ, false}
use Rattle.std.proofs.Props.{props}
use Rattle.model_tree.specs.Trees.Stamp.{next_stamp}
use Rattle.volume.specs.Formed.{IsFormed}
use Rattle.volume.specs.VolumeState.{VolumeState}
use Rattle.volume.specs.KnownProps.{IsFormed-prop}

-- a tree that a run may have after `changes` changes
abbrev pub MayStand : VolumeState → (changes : ℕ) → Type 0
MayStand held changes = IsFormed held.limits (next_stamp held.run changes) held.tree

abbrev pub IsFsReady : VolumeState → (changes : ℕ) → Type 0
IsFsReady held changes = held.is_down ≡ false → MayStand held changes

pub IsFsReady-prop : (held : VolumeState) (changes : ℕ) → IsProp (IsFsReady held changes)
IsFsReady-prop held changes = Prim.hlevel (
  props,
  IsFormed-prop held.limits (next_stamp held.run changes) held.tree,
)
