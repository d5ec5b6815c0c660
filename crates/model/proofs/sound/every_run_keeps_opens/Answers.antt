use Rattle.model.proofs.Server.SoundLaws.{every_run_keeps_opens}
use Rattle.model.proofs.sound.every_run_keeps_opens.Goals as goal

pub returns : goal.returns
returns c = every_run_keeps_opens
