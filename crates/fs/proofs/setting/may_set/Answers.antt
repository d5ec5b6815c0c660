use Rattle.std.proofs.Common.{rules}
use Rattle.fs.proofs.setting.may_set.Goals as goal

pub returns-else-not-owners : goal.returns-else-not-owners
returns-else-not-owners c = search rules
