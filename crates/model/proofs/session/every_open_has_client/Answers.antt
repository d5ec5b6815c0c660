use Rattle.model.proofs.Sessions.OpenClients.{every_open_has_client}
use Rattle.model.proofs.session.every_open_has_client.Goals as goal

pub returns : goal.returns
returns c = every_open_has_client
