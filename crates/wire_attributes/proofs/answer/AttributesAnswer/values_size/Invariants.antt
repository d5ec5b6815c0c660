use Rattle.std.proofs.Common.{◌≡◌, ◌≤◌, ◌*◌, ◌%◌, ℕ, length, take}
use Rattle.std.specs.List.{flat_map}
use Rattle.wire_attributes.specs.NodeValues.{asked_text, every_attribute}
use Rattle.wire_attributes.proofs.answer.AttributesAnswer.values_size.Given as goal

pub record SoFar (size index text : ℕ) : Type 0 where
  pub value : size ≡ text
  pub bound : size ≤ 4400 * index
  pub whole : size % 4 ≡ 0

abbrev pub invariant-loop-attribute : goal.invariant-loop-attribute
invariant-loop-attribute l = SoFar l.size l.attribute-index
    (length (flat_map (asked_text l.self.node l.self.asked.now) (take l.attribute-index every_attribute)))
