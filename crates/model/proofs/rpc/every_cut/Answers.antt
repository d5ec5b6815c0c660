use Rattle.model.proofs.Wire.RecordLaws.{every_cut}
use Rattle.model.proofs.rpc.every_cut.Goals as goal

pub returns : goal.returns
returns c = every_cut
