use Rattle.model.proofs.Server.StampLaws.{every_stamp}
use Rattle.model.proofs.runs.every_stamp.Goals as goal

pub returns : goal.returns
returns c = every_stamp
