use Rattle.layout.proofs.Formatted.{fresh_stands}
use Rattle.layout.proofs.volumes.fresh.Goals as goal

pub returns : goal.returns
returns c = fresh_stands
