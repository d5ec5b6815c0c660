use Rattle.std.proofs.Common.{rules}
use Rattle.fs.specs.Views.{fs_of}
use Rattle.fs.proofs.fs.Fs.may_read_acl.Goals as goal

pub returns-in-Some : goal.returns-in-Some
unfolding fs_of
returns-in-Some g c = search rules
