use Rattle.model.proofs.Operations.StepProofs.{runs_begin}
use Rattle.model.proofs.step.every_run_begins.Goals as goal

pub returns : goal.returns
returns c = runs_begin
