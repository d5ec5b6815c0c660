use Rattle.std.proofs.Common.{◌≡◌, ◌∙◌, ℕ, length, ap}
use Rattle.model.specs.Attributes.Attribute.{trimmed}
use Rattle.wire_attributes.proofs.AnswerLaws.{words, answer_length}
use Rattle.wire_attributes.proofs.answer.AttributesAnswer.size.Goals as goal

pub returns-clause-value : goal.returns-clause-value
returns-clause-value c =
    let node = c.args.self.now.node in
    let asked = c.args.self.now.asked.now in
    let is : c.trimmed.result.now ≡ words node asked = c.trimmed.ensures.value ∙ ap trimmed (c.as_slice.ensures.numbers ∙ c.common.ensures) in
    answer_length node asked (length c.trimmed.result.now) c.values_size.result (ap (length {A = ℕ}) is) c.values_size.ensures.value c.values_size.ensures.whole
