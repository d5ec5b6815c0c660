use Rattle.std.proofs.Common.{arith}
use Rattle.std.proofs.lemmas.Grind.{common_steps}
use Rattle.client.specs.Requests.{requested}
use Rattle.client.proofs.client.Client.request.Goals as goal

pub returns-clause-ok : goal.returns-clause-ok
unfolding requested
returns-clause-ok c = grind (arith, common_steps)
