-- The ranges of the numbers that an inode's sector keeps, and the length of its verifier.
use Rattle.std.specs.Prelude.{◌≡◌, ◌<◌, ◌^◌, ℕ, List, Option, length}
use Rattle.std.specs.Option.{ForSome}

pub record AreInRange
    (number owner group change time_modify size time_metadata time_create : ℕ)
    (verifier : Option (List ℕ)) : Type 0 where
  pub number_fits : number < 2 ^ 64
  pub owner_fits : owner < 2 ^ 32
  pub group_fits : group < 2 ^ 32
  pub change_fits : change < 2 ^ 64
  pub time_modify_fits : time_modify < 2 ^ 64
  pub size_fits : size < 2 ^ 64
  pub time_metadata_fits : time_metadata < 2 ^ 64
  pub time_create_fits : time_create < 2 ^ 64
  pub verifier_fits : ForSome verifier (λ bytes. length bytes ≡ 8)
