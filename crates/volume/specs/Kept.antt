-- What reading through a view leaves as it is: the log that it shows, and which device it reads.
use Rattle.std.specs.Borrow.{GName}
use Rattle.journal.specs.Log.{Log}

pub record KeptView : Type 0 where
  pub log : Log
  pub device : GName
