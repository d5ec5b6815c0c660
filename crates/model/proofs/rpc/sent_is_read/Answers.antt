use Rattle.model.proofs.Wire.RecordLaws.{sent_is_read}
use Rattle.model.proofs.rpc.sent_is_read.Goals as goal

pub returns : goal.returns
returns c = sent_is_read
