use Rattle.model.proofs.Sessions.KeptLaws.{keeps_short_law}
use Rattle.model.proofs.session.kept_replies_are_short.Goals as goal

pub returns : goal.returns
returns c = keeps_short_law
