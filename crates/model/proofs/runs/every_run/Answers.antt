use Rattle.model.proofs.Server.Headline.{every_run}
use Rattle.model.proofs.runs.every_run.Goals as goal

pub returns : goal.returns
returns c = every_run
