use Rattle.std.proofs.Common.{ap, ◌∙◌, length, arith, List, ℕ}
use Rattle.xdr.specs.Forms.{counted}
use Rattle.xdr.proofs.Sizes.{counted_length}
use Rattle.wire_attributes.proofs.NodeSizes.{entry_length}
use Rattle.wire_attributes.proofs.node.ace_size.Goals as goal

pub returns-clause-value : goal.returns-clause-value
returns-clause-value c =
    entry_length c.args.ace.now c.opaque_size.result
    (c.opaque_size.ensures.value ∙ ap (λ (text : List ℕ). length (counted text)) c.who_bytes.ensures.text)

pub returns-clause-bound : goal.returns-clause-bound
returns-clause-bound c =
    omega (arith, c.opaque_size.ensures.value, counted_length c.who_bytes.result.now, c.who_bytes.ensures.short)

pub returns-clause-whole : goal.returns-clause-whole
returns-clause-whole c =
    omega (arith, c.opaque_size.ensures.value, counted_length c.who_bytes.result.now)
