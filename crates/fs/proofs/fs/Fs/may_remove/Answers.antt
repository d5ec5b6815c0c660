use Rattle.std.proofs.Common.{rules}
use Rattle.fs.specs.Views.{fs_of}
use Rattle.fs.proofs.fs.Fs.may_remove.Goals as goal

pub returns-else-own : goal.returns-else-own
unfolding fs_of
returns-else-own g c = search rules
