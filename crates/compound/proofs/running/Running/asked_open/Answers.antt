use Rattle.std.proofs.Common.{rules}
use Rattle.compound.specs.Views.{in_progress_of}
use Rattle.compound.proofs.running.Running.asked_open.Goals as goal

pub returns : goal.returns
unfolding in_progress_of
returns c = search rules
