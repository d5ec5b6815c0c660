use Rattle.model.proofs.Wire.FeedingLaws.{every_feeding}
use Rattle.model.proofs.rpc.every_feeding.Goals as goal

pub returns : goal.returns
returns c = every_feeding
