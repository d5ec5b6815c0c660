use Rattle.client.proofs.ProgressLaws
use Rattle.client.proofs.joined.every_request_is_answered.Goals as goal

pub returns-clause-comes : goal.returns-clause-comes
returns-clause-comes c = ProgressLaws.every_call_is_answered

pub returns-clause-goes_on : goal.returns-clause-goes_on
returns-clause-goes_on c = ProgressLaws.every_request_is_answered
