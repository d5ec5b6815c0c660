-- The ranges of the numbers that a node's sector keeps.
use Rattle.std.specs.Prelude.{◌<◌, ◌^◌, ℕ}

pub record AreInRange (number owner group change time_modify size : ℕ) : Type 0 where
  pub number_fits : number < 2 ^ 64
  pub owner_fits : owner < 2 ^ 32
  pub group_fits : group < 2 ^ 32
  pub change_fits : change < 2 ^ 64
  pub time_modify_fits : time_modify < 2 ^ 64
  pub size_fits : size < 2 ^ 64
