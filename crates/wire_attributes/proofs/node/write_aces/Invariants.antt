use Rattle.std.proofs.Common.{Ok, take}
use Rattle.std.specs.List.{flat_map}
use Rattle.xdr.specs.Clauses.{Wrote}
use Rattle.wire_attributes.proofs.NodeSizes.{ace_text}
use Rattle.wire_attributes.proofs.node.write_aces.Given as goal

abbrev pub invariant-loop-ace : goal.invariant-loop-ace
invariant-loop-ace l = Wrote l.fn.w l.w (Ok tt) (flat_map ace_text (take l.ace-index l.acl))
