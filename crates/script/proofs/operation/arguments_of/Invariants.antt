use Rattle.std.proofs.Common.{All}
use Rattle.wire_client.specs.ArgumentFits.{ArgumentFits}
use Rattle.script.proofs.operation.arguments_of.Given as goal

abbrev pub invariant-loop-operation : goal.invariant-loop-operation
invariant-loop-operation l = All ArgumentFits l.arguments.items
