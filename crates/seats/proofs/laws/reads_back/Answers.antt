use Rattle.seats.proofs.ReadBack.{seats-back}
use Rattle.seats.proofs.laws.reads_back.Goals as goal

pub returns : goal.returns
returns c = seats-back
