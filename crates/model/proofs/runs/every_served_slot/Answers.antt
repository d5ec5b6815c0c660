use Rattle.model.proofs.Server.ServedOnceLaws.{every_served_slot}
use Rattle.model.proofs.runs.every_served_slot.Goals as goal

pub returns : goal.returns
returns c = every_served_slot
