use Rattle.std.proofs.Common.{rules}
use Rattle.compound.proofs.access.answered.Goals as goal

pub returns : goal.returns
returns c = search rules
