-- What comes next of a COMPOUND that has begun.
use Rattle.std.specs.Prelude.{ℕ, List, Option, Some, None, Result, Ok, Err, if◌then◌else◌}
use Rattle.xdr.specs.declared.refusal.Refusal.{Refusal}
use Rattle.model.specs.Operations.Operation.{operation_of}
use Rattle.model.specs.Server.World.{InProgress, Next, Refuses, Reads, next_operation, is_no_operation, op_illegal}
use Rattle.model_tree.specs.declared.status.Status.{Status}
use Rattle.compound.specs.declared.ahead.Ahead.{Ahead}
use Rattle.compound.specs.declared.ahead.Ahead.TheVariants as ahead

-- the number of its result
abbrev pub number_of_next : Next → ℕ
number_of_next (Refuses operation reason) = operation
number_of_next (Reads argument rest) = operation_of argument

abbrev pub ahead_by : (number : ℕ) → (ended : Option Status) → Ahead
ahead_by number None = ahead.Operation number
ahead_by number (Some last) = ahead.Reply last

abbrev pub ahead_of : InProgress → Ahead
ahead_of request = ahead_by (number_of_next (next_operation request)) request.ended

-- the same number, from the word with which its bytes begin
abbrev pub number_of_read : Result (ℕ × List ℕ) Refusal → ℕ
number_of_read (Err fault) = op_illegal
number_of_read (Ok read) = if is_no_operation read.0 then op_illegal else read.0
