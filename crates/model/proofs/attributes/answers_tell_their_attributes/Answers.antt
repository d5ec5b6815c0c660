use Rattle.model.proofs.Operations.NodeAttributeLaws.{answers_asked}
use Rattle.model.proofs.attributes.answers_tell_their_attributes.Goals as goal

pub returns : goal.returns
returns c = answers_asked
