use Rattle.std.proofs.Common.{arith}
use Rattle.xdr.proofs.Sizes.{counted_length}
use Rattle.wire_attributes.proofs.listed.ListedEntry.size.Goals as goal

pub returns-clause-bound : goal.returns-clause-bound
returns-clause-bound c =
    omega (arith, c.opaque_size.ensures.value, counted_length c.args.self.now.name.now, c.requires.name, c.size.ensures.bound)
