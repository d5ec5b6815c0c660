use Rattle.model.proofs.Sessions.SlotsHeld.{every_running_slot}
use Rattle.model.proofs.session.every_running_slot.Goals as goal

pub returns : goal.returns
returns c = every_running_slot
