use Rattle.directory.proofs.ReadBack.{records-back}
use Rattle.directory.proofs.laws.reads_back.Goals as goal

pub returns : goal.returns
returns c = records-back
