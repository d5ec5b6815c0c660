use Rattle.std.proofs.Common.{arith}
use Rattle.std.proofs.lemmas.Grind.{common_steps}
use Rattle.compound.specs.Views.{in_progress_of}
use Rattle.compound.proofs.running.Running.has_room_for.Goals as goal

pub returns : goal.returns
unfolding in_progress_of
returns c = grind (arith, common_steps)
