use Rattle.wire.proofs.Writes.{writes}
use Rattle.wire_client.proofs.file.write_set_attr.Goals as goal

pub returns-in_err-write : goal.returns-in_err-write
returns-in_err-write c = search writes

pub returns : goal.returns
returns c = search writes
