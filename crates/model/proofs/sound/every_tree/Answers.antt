use Rattle.model.proofs.Server.SoundLaws.{every_tree}
use Rattle.model.proofs.sound.every_tree.Goals as goal

pub returns : goal.returns
returns c = every_tree
