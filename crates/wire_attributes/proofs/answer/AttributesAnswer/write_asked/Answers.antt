use Rattle.std.proofs.Common.{◌∙◌, refl, sym}
use Rattle.xdr.proofs.Writing.{wrote_nothing}
use Rattle.wire_attributes.proofs.AnswerLaws.{not_asked, is_asked}
use Rattle.wire_attributes.proofs.answer.AttributesAnswer.write_asked.Goals as goal

pub returns-then-not-asks : goal.returns-then-not-asks
returns-then-not-asks c =
    wrote_nothing _ _ _ refl (not_asked c.args.self.now.node c.args.self.now.asked.now c.args.attribute (sym c.asks.ensures ∙ c.if-not-asks.true))

pub returns : goal.returns
returns c =
    rw (is_asked c.args.self.now.node c.args.self.now.asked.now c.args.attribute (sym c.asks.ensures ∙ c.if-not-asks.false)) c.write_value.ensures
