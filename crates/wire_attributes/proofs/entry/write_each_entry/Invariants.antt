use Rattle.std.proofs.Common.{Ok, take}
use Rattle.std.specs.List.{flat_map}
use Rattle.xdr.specs.Clauses.{Wrote}
use Rattle.wire_attributes.specs.Views.{entry_encoding}
use Rattle.wire_attributes.proofs.entry.write_each_entry.Given as goal

abbrev pub invariant-loop-entry : goal.invariant-loop-entry
invariant-loop-entry l = Wrote l.fn.w l.w (Ok tt) (flat_map entry_encoding (take l.entry-index l.list))
