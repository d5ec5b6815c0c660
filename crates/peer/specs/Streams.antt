-- What a stream's reads and writes report.
use Rattle.std.specs.Prelude.{ℕ, Bool, true, ◌≡◌, Option, Some, None, Result, Ok, Err}
use Rattle.std.specs.IoError.{error_kind}
use Rattle.std.specs.declared.io.Error.{Error}
use Rattle.std.specs.declared.io.ErrorKind.{ErrorKind}
use Rattle.std.specs.declared.io.ErrorKind.TheVariants as kinds

-- the kind of its error, or that no byte moved
abbrev pub Tells : (Option ErrorKind → Bool) → Result ℕ Error → Type 0
Tells told (Ok count) = count ≡ 0 → told None ≡ true
Tells told (Err error) = told (Some (error_kind error)) ≡ true

-- neither that it would have waited nor that a signal came: the stream ended or failed
abbrev pub IsOver : Option ErrorKind → Type 0
IsOver told = (told ≡ Some kinds.WouldBlock → ⊥) × (told ≡ Some kinds.Interrupted → ⊥)
