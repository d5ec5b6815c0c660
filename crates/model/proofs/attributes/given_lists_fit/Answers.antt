use Rattle.model.proofs.Operations.AttributeLaws.{given_lists_fit}
use Rattle.model.proofs.attributes.given_lists_fit.Goals as goal

pub returns : goal.returns
returns c = given_lists_fit
