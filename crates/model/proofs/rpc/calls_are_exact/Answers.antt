use Rattle.model.proofs.Wire.RpcExact.{call_head_exact, one_call_head, reads_calls, reads_credentials}
use Rattle.model.proofs.rpc.calls_are_exact.Goals as goal

pub returns-clause-exact : goal.returns-clause-exact
returns-clause-exact c = call_head_exact

pub returns-clause-one : goal.returns-clause-one
returns-clause-one c = one_call_head

pub returns-clause-read : goal.returns-clause-read
returns-clause-read c = reads_calls

pub returns-clause-credentials : goal.returns-clause-credentials
returns-clause-credentials c = reads_credentials
