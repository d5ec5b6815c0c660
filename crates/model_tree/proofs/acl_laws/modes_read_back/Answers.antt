use Rattle.model_tree.proofs.Rights.ModeLaws.{modes_read_back}
use Rattle.model_tree.proofs.acl_laws.modes_read_back.Goals as goal

pub returns : goal.returns
returns c = modes_read_back
