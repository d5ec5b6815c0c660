use Rattle.model.proofs.Sessions.SlotLaw.{every_slot}
use Rattle.model.proofs.session.every_slot.Goals as goal

pub returns : goal.returns
returns c = every_slot
