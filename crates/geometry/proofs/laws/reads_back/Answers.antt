use Rattle.geometry.proofs.ReadBack.{reads_back}
use Rattle.geometry.proofs.laws.reads_back.Goals as goal

pub returns-clause-back : goal.returns-clause-back
returns-clause-back c = reads_back
