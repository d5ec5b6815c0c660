use Rattle.model.proofs.Operations.PageLaws.{every_page}
use Rattle.model.proofs.step.every_page.Goals as goal

pub returns : goal.returns
returns c = every_page
