use Rattle.std.proofs.Common.{◌∙◌, ℕ, sym, ap, length}
use Rattle.wire_attributes.proofs.AnswerLaws.{not_asked, is_asked}
use Rattle.wire_attributes.proofs.answer.AttributesAnswer.asked_size.Goals as goal

pub returns-then-not-asks-clause-value : goal.returns-then-not-asks-clause-value
returns-then-not-asks-clause-value c =
    ap (length {A = ℕ}) (sym (not_asked c.args.self.now.node c.args.self.now.asked.now c.args.attribute (sym c.asks.ensures ∙ c.if-not-asks.true)))

pub returns-clause-value : goal.returns-clause-value
returns-clause-value c =
    c.value_size.ensures.value
    ∙ ap (length {A = ℕ}) (sym (is_asked c.args.self.now.node c.args.self.now.asked.now c.args.attribute (sym c.asks.ensures ∙ c.if-not-asks.false)))
