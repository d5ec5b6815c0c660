use Rattle.std.proofs.Common.{rules}
use Rattle.compound.proofs.listing.listing.Goals as goal

pub returns-clause-arguments : goal.returns-clause-arguments
returns-clause-arguments c = search rules
