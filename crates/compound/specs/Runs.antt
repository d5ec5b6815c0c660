-- The request of an operation.
use Rattle.std.specs.Prelude.{ℕ, ◌==◌, Bool, not, ◌&&◌, ◌||◌, List}
use Rattle.model.specs.Operations.Operation.{Argument}
use Rattle.model.specs.Server.World.{InProgress, is_unstable}

-- the request with these bytes after the operation that runs
abbrev pub with_rest : InProgress → (rest : List ℕ) → InProgress
with_rest request rest = record request { rest = rest }

-- whether an operation made a change that has to last, by how many were counted before and after it
abbrev pub makes_change : (before after : ℕ) → Argument → Bool
makes_change before after operation = not (before == after) && not (is_unstable operation)

-- the request after an operation that made such a change, or made none
abbrev pub noted : (altered : Bool) → InProgress → InProgress
noted altered request = record request { altered = request.altered || altered }
