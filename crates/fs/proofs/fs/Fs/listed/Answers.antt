use Rattle.std.proofs.Common.{rules}
use Rattle.fs.specs.Views.{fs_of}
use Rattle.fs.proofs.fs.Fs.listed.Goals as goal

pub returns-clause-view : goal.returns-clause-view
unfolding fs_of
returns-clause-view g c = search rules
