-- The entries that lists share, or none if no memory is allocated for them.
use Rattle.std.specs.Prelude.{List, [], Option, Some, None}

abbrev pub entries_in : {R X : Type 0} → (entries : R → List X) → Option R → List X
entries_in entries None = []
entries_in entries (Some shared) = entries shared
