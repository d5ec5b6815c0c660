use Rattle.std.proofs.Common.{Ok, take}
use Rattle.std.specs.List.{flat_map}
use Rattle.xdr.specs.Clauses.{Wrote}
use Rattle.client.proofs.Operations.{text_of}
use Rattle.client.proofs.call.write_operations.Given as goal

abbrev pub invariant-loop-operation : goal.invariant-loop-operation
invariant-loop-operation l = Wrote l.fn.w l.w (Ok tt) (flat_map text_of (take l.operation-index l.operations))
