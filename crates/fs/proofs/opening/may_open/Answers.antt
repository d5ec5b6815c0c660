use Rattle.std.proofs.Common.{rules}
use Rattle.fs.proofs.opening.may_open.Goals as goal

pub returns-else-not-writes : goal.returns-else-not-writes
returns-else-not-writes c = search rules
