use Rattle.std.proofs.Common.{refl}
use Rattle.compound.specs.Views.{in_progress_of}
use Rattle.compound.proofs.running.Running.advance.Goals as goal

pub returns-clause-request : goal.returns-clause-request
unfolding in_progress_of
returns-clause-request c = refl
