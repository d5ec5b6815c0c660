use Rattle.wire.proofs.Writes.{writes}
use Rattle.wire.proofs.small.Attributes.write.Goals as goal

pub returns-in_err-write : goal.returns-in_err-write
returns-in_err-write c = search writes

pub returns : goal.returns
returns c = search writes
