use Rattle.std.proofs.Common.{Ok, take}
use Rattle.std.specs.List.{flat_map}
use Rattle.xdr.specs.Clauses.{Wrote}
use Rattle.wire_attributes.specs.Views.{value_encoding}
use Rattle.wire_attributes.proofs.values.write_each_value.Given as goal

abbrev pub invariant-loop-value : goal.invariant-loop-value
invariant-loop-value l = Wrote l.fn.w l.w (Ok tt) (flat_map value_encoding (take l.value-index l.values))
