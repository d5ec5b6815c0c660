use Rattle.std.proofs.Common.{rules}
use Rattle.fs.specs.Views.{fs_of}
use Rattle.fs.proofs.fs.Fs.check_cut.Goals as goal

pub returns-clause-cut : goal.returns-clause-cut
unfolding fs_of
returns-clause-cut g c = search rules
