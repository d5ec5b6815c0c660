-- The identity of a volume of version 3, as text.
use Rattle.std.specs.Prelude.{ℕ, List, Option, Some, None}
use Rattle.hex.specs.Hex.{encode_lower}
use Rattle.layout.specs.declared.versions.VersionNumber.{VersionNumber}
use Rattle.layout.specs.declared.versions.VersionNumber.TheVariants.{One, Two, Three}

abbrev pub digits_of : VersionNumber → Option (List ℕ)
digits_of One = None
digits_of Two = None
digits_of (Three s) = Some (encode_lower s.identity)
