use Rattle.std.proofs.Common.{◌≡◌, ◌∙◌, ap}
use Rattle.xdr.specs.Forms.{counted}
use Rattle.xdr.proofs.Writing.{wrote_on, wrote_exit}
use Rattle.model.specs.Attributes.Attribute.{trimmed}
use Rattle.wire_attributes.proofs.AnswerLaws.{words, values_text, prefix_written, all_written}
use Rattle.wire_attributes.proofs.answer.AttributesAnswer.write.Goals as goal

pub returns-in_err-write_words : goal.returns-in_err-write_words
returns-in_err-write_words c =
    let node = c.args.self.now.node in
    let asked = c.args.self.now.asked.now in
    let is : c.trimmed.result.now ≡ words node asked = c.trimmed.ensures.value ∙ ap trimmed (c.as_slice.ensures.numbers ∙ c.common.ensures) in
    prefix_written node asked c.trimmed.result.now is (wrote_exit (counted (values_text node asked)) c.from_residual.ensures.1 c.in_err-write_words.ensures)

pub returns-in_err-write_u32 : goal.returns-in_err-write_u32
returns-in_err-write_u32 c =
    let node = c.args.self.now.node in
    let asked = c.args.self.now.asked.now in
    let is : c.trimmed.result.now ≡ words node asked = c.trimmed.ensures.value ∙ ap trimmed (c.as_slice.ensures.numbers ∙ c.common.ensures) in
    all_written node asked c.trimmed.result.now is c.values_size.result c.values_size.ensures.value c.values_size.ensures.whole
    (wrote_on c.in_ok-write_words.ensures (wrote_exit (values_text node asked) c.from_residual-in_err-write_u32.ensures.1 c.in_err-write_u32.ensures.wrote))

pub returns : goal.returns
returns c =
    let node = c.args.self.now.node in
    let asked = c.args.self.now.asked.now in
    let is : c.trimmed.result.now ≡ words node asked = c.trimmed.ensures.value ∙ ap trimmed (c.as_slice.ensures.numbers ∙ c.common.ensures) in
    all_written node asked c.trimmed.result.now is c.values_size.result c.values_size.ensures.value c.values_size.ensures.whole
    (wrote_on c.in_ok-write_words.ensures (wrote_on c.in_ok-write_u32.ensures.wrote c.write_values.ensures))
