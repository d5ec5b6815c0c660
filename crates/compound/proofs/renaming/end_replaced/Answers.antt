use Rattle.std.proofs.Common.{rules}
use Rattle.compound.proofs.renaming.end_replaced.Goals as goal

pub returns : goal.returns
returns c = search rules
