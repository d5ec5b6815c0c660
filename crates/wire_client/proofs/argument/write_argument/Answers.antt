use Rattle.xdr.proofs.Writing.{failed_write, unchanged}
use Rattle.wire_client.proofs.argument.write_argument.Goals as goal

pub returns-clause-wrote : goal.returns-clause-wrote
returns-clause-wrote c = search failed_write

pub returns-clause-err : goal.returns-clause-err
returns-clause-err c = search unchanged
