use Rattle.std.proofs.Common.{rules}
use Rattle.fs.proofs.access.granted_bits.Goals as goal

pub returns-in-Directory : goal.returns-in-Directory
returns-in-Directory c = search rules
