use Rattle.layout.proofs.Changing.{one_change}
use Rattle.layout.proofs.changes.one_change.Goals as goal

pub returns : goal.returns
returns c = one_change
