use Rattle.extents.proofs.ReadBack.{runs-back}
use Rattle.extents.proofs.laws.reads_back.Goals as goal

pub returns : goal.returns
returns c = runs-back
