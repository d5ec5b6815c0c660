use Rattle.model.proofs.Wire.RecordLaws.{every_fragmenting}
use Rattle.model.proofs.rpc.every_fragmenting.Goals as goal

pub returns : goal.returns
returns c = every_fragmenting
