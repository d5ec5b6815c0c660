use Rattle.layout.proofs.ChargeLaws.{full_is_charged}
use Rattle.layout.proofs.marks.full.Goals as goal

pub returns : goal.returns
returns c = full_is_charged
