use Rattle.std.proofs.Common.{rules}
use Rattle.fs.proofs.changing.metadata_with_change.Goals as goal

pub returns : goal.returns
returns c = search rules
