use Rattle.std.proofs.Common.{◌≡◌, Some}
use Rattle.std.specs.Prelude.{map}
use Rattle.wire.specs.OutcomeView.{outcome_view}
use Rattle.client.specs.Replies.{ending}
use Rattle.client.proofs.Ending.{some_left}
use Rattle.client.proofs.reply.read_results.Goals as goal

pub returns-in-Some-clause-some : goal.returns-in-Some-clause-some
returns-in-Some-clause-some c =
    let is : ending c.args.operations.now (map outcome_view c.in-Ok.found.results.items) ≡ Some c.in-Some.last = cc (c.in-Some.ensures, c.deref.ensures.value) in
    some_left c.args.operations.now c.in-Ok.found.results.items c.in-Some.last is
