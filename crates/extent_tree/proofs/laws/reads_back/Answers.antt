use Rattle.extent_tree.proofs.Bytes.{entries-back}
use Rattle.extent_tree.proofs.laws.reads_back.Goals as goal

pub returns : goal.returns
returns c = entries-back
