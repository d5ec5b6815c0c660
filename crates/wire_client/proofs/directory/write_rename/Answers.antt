use Rattle.wire.proofs.Writes.{writes}
use Rattle.wire_client.proofs.directory.write_rename.Goals as goal

pub returns-in_err-write_opaque : goal.returns-in_err-write_opaque
returns-in_err-write_opaque c = search writes

pub returns : goal.returns
returns c = search writes
