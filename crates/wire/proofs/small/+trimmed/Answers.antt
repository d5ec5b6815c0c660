use Rattle.std.proofs.Common.{◌∙◌, ◌++◌, [], ◌∷◌, sym, ap}
use Rattle.model.specs.Attributes.Attribute.{trimmed}
use Rattle.wire.proofs.Bitmaps.{trimmed-zero, trimmed-word}
use Rattle.wire.proofs.small.+trimmed.Goals as goal

pub returns-then-last-eq0-clause-value : goal.returns-then-last-eq0-clause-value
returns-then-last-eq0-clause-value t c =
    let prefix = c.in-Some.prefix.now in
    c.trimmed.ensures.value ∙ sym (ap trimmed (c.in-Some.ensures.cases.0 ∙ ap (λ w. prefix ++ w ∷ []) c.if-last-eq0.true) ∙ trimmed-zero prefix)

pub returns-else-last-eq0-clause-value : goal.returns-else-last-eq0-clause-value
returns-else-last-eq0-clause-value t c =
    let prefix = c.in-Some.prefix.now in
    let whole = c.in-Some.ensures.cases.0 in
    whole ∙ sym (ap trimmed whole ∙ trimmed-word prefix c.in-Some.last.now c.if-last-eq0.false)
