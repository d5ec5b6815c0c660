use Rattle.std.proofs.Common.{arith}
use Rattle.xdr.proofs.Sizes.{counted_length}
use Rattle.wire_attributes.proofs.node.owner_size.Goals as goal

pub returns-clause-bound : goal.returns-clause-bound
returns-clause-bound c =
    omega (arith, c.opaque_size.ensures.value, counted_length c.who_bytes.result.now, c.who_bytes.ensures.short)

pub returns-clause-whole : goal.returns-clause-whole
returns-clause-whole c =
    omega (arith, c.opaque_size.ensures.value, counted_length c.who_bytes.result.now)
