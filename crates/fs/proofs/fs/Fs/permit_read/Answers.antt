use Rattle.std.proofs.Common.{arith, rules}
use Rattle.std.proofs.lemmas.Grind.{common_steps}
use Rattle.fs.specs.Views.{fs_of}
use Rattle.fs.proofs.fs.Fs.permit_read.Goals as goal

pub returns-in_err-size-clause-tests : goal.returns-in_err-size-clause-tests
unfolding fs_of
returns-in_err-size-clause-tests g c = search rules

pub returns-clause-tests : goal.returns-clause-tests
unfolding fs_of
returns-clause-tests g c = search rules

pub returns-clause-is_end : goal.returns-clause-is_end
unfolding fs_of
returns-clause-is_end g c = grind (arith, common_steps)
