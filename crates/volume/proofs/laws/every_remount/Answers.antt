use Rattle.volume.proofs.RemountLaws.{every_remount, still_stands}
use Rattle.volume.proofs.laws.every_remount.Goals as goal

pub returns-clause-next : goal.returns-clause-next
returns-clause-next c = every_remount

pub returns-clause-stands : goal.returns-clause-stands
returns-clause-stands c = still_stands
