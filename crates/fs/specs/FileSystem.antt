-- What contracts see of a file system.
use Rattle.std.specs.Prelude.{ℕ, Bool}
use Rattle.volume.specs.VolumeState.{VolumeState}

-- what is seen of its volume, and how many changes this run had; whether what has to last may wait
-- for the next flush, and whether something does
pub record FileSystem : Type 0 where
  pub volume : VolumeState
  pub changes : ℕ
  pub defers : Bool
  pub waits : Bool
