-- The ranges of the numbers in a node's metadata.
use Rattle.std.specs.Prelude.{◌<◌, ◌^◌, ℕ}

pub record IsInRange (owner group change time_modify : ℕ) : Type 0 where
  pub owner_fits : owner < 2 ^ 32
  pub group_fits : group < 2 ^ 32
  pub change_fits : change < 2 ^ 64
  pub time_modify_fits : time_modify < 2 ^ 64
