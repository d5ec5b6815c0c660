use Rattle.std.proofs.Common.{Ok, take}
use Rattle.std.specs.List.{flat_map}
use Rattle.xdr.specs.Clauses.{Wrote}
use Rattle.wire_attributes.specs.NodeValues.{asked_text, every_attribute}
use Rattle.wire_attributes.proofs.answer.AttributesAnswer.write_values.Given as goal

abbrev pub invariant-loop-attribute : goal.invariant-loop-attribute
invariant-loop-attribute l =
    Wrote l.fn.w l.w (Ok tt) (flat_map (asked_text l.self.node l.self.asked.now) (take l.attribute-index every_attribute))
