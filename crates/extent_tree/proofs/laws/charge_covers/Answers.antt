use Rattle.extent_tree.proofs.Charges.{covers}
use Rattle.extent_tree.proofs.laws.charge_covers.Goals as goal

pub returns : goal.returns
returns c = covers
