use Rattle.std.proofs.Common.{◌<◌, length, get_or, ap, ◌∙◌, arith}
use Rattle.std.specs.List.{flat_map}
use Rattle.std.proofs.lemmas.List.{take_all, get_or_default}
use Rattle.wire_attributes.specs.declared.attribute.Attribute.TheVariants as attribute
use Rattle.wire_attributes.specs.NodeValues.{asked_text, every_attribute}
use Rattle.wire_attributes.proofs.NodeSizes.{length_more}
use Rattle.wire_attributes.proofs.answer.AttributesAnswer.values_size.Goals as goal

pub loop-attribute-preserved : goal.loop-attribute-preserved
loop-attribute-preserved c =
    let text = asked_text c.args.self.now.node c.args.self.now.asked.now in
    let i = c.loop-attribute.attribute-index in
    let lt : i < length every_attribute = omega arith in
    let more = length_more text every_attribute i (get_or every_attribute i attribute.SupportedAttrs) lt (get_or_default every_attribute i attribute.SupportedAttrs (get_or every_attribute i attribute.SupportedAttrs) lt) in
    let so_far = c.loop-attribute.invariant.value in
    record {
      value = omega (arith, more, so_far, c.asked_size-size.ensures.value);
      bound = omega (arith, c.loop-attribute.invariant.bound, c.asked_size-size.ensures.bound);
      whole = omega (arith, c.loop-attribute.invariant.whole, c.asked_size-size.ensures.whole);
    }

pub returns-clause-value : goal.returns-clause-value
returns-clause-value c =
    c.loop-attribute.invariant.value
    ∙ ap (λ xs. length (flat_map (asked_text c.args.self.now.node c.args.self.now.asked.now) xs)) (take_all c.loop-attribute.attribute-index every_attribute (omega arith))
