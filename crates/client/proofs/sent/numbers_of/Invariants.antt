use Rattle.std.proofs.Common.{◌≡◌, ◌++◌, take}
use Rattle.std.specs.Prelude.{map}
use Rattle.client.specs.Rests.{sequence_number, number_asked}
use Rattle.client.proofs.sent.numbers_of.Given as goal

abbrev pub invariant-loop-operation : goal.invariant-loop-operation
invariant-loop-operation l = l.numbers.items ≡ sequence_number l.fn.session ++ map number_asked (take l.operation-index l.operations)
