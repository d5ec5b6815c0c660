use Rattle.model.proofs.Sessions.OpensGoOn.{open_answers, every_open_goes}
use Rattle.model.proofs.step.every_open_goes_on.Goals as goal

pub returns : goal.returns
returns c = record { answers = open_answers; goes_on = every_open_goes }
