-- What memory that lists share holds: nothing, if there is none.
use Rattle.std.specs.Prelude.{List, [], Option, Some, None}

abbrev pub items_in : {R X : Type 0} → (items : R → List X) → Option R → List X
items_in items None = []
items_in items (Some shared) = items shared
