use Rattle.model.proofs.Wire.RecordOnly.{only_sent}
use Rattle.model.proofs.rpc.only_sent.Goals as goal

pub returns : goal.returns
returns c = only_sent
