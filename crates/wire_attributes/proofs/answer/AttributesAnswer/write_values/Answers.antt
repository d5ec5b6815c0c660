use Rattle.std.proofs.Common.{◌<◌, length, get_or, arith}
use Rattle.std.proofs.lemmas.List.{get_or_default}
use Rattle.xdr.proofs.Writing.{wrote_more, wrote_stop}
use Rattle.wire_attributes.specs.declared.attribute.Attribute.TheVariants as attribute
use Rattle.wire_attributes.specs.NodeValues.{asked_text, every_attribute}
use Rattle.wire_attributes.proofs.answer.AttributesAnswer.write_values.Goals as goal

pub returns-in_err-write_asked : goal.returns-in_err-write_asked
returns-in_err-write_asked c =
    let i = c.loop-attribute.attribute-index in
    let lt : i < length every_attribute = omega arith in
    wrote_stop (asked_text c.args.self.now.node c.args.self.now.asked.now) every_attribute i (get_or every_attribute i attribute.SupportedAttrs) lt (get_or_default every_attribute i attribute.SupportedAttrs (get_or every_attribute i attribute.SupportedAttrs) lt)
    c.loop-attribute.invariant c.from_residual.ensures.1 c.in_err-write_asked.ensures

pub loop-attribute-preserved : goal.loop-attribute-preserved
loop-attribute-preserved c =
    let i = c.loop-attribute.attribute-index in
    let lt : i < length every_attribute = omega arith in
    wrote_more (asked_text c.args.self.now.node c.args.self.now.asked.now) every_attribute i (get_or every_attribute i attribute.SupportedAttrs) lt
    (get_or_default every_attribute i attribute.SupportedAttrs (get_or every_attribute i attribute.SupportedAttrs) lt) c.loop-attribute.invariant c.in_ok-write_asked.ensures
