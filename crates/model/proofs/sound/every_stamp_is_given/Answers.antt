use Rattle.model.proofs.Operations.GivenLaws.{every_stamp_is_given}
use Rattle.model.proofs.sound.every_stamp_is_given.Goals as goal

pub returns : goal.returns
returns c = every_stamp_is_given
