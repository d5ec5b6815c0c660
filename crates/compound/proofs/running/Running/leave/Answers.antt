use Rattle.std.proofs.Common.{rules}
use Rattle.compound.specs.Views.{in_progress_of}
use Rattle.compound.proofs.running.Running.leave.Goals as goal

pub returns-in-Restores-clause-request : goal.returns-in-Restores-clause-request
unfolding in_progress_of
returns-in-Restores-clause-request c = search rules
