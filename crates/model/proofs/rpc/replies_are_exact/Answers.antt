use Rattle.model.proofs.Wire.RpcExact.{reply_head_exact, one_reply_head, reads_replies}
use Rattle.model.proofs.rpc.replies_are_exact.Goals as goal

pub returns-clause-exact : goal.returns-clause-exact
returns-clause-exact c = reply_head_exact

pub returns-clause-one : goal.returns-clause-one
returns-clause-one c = one_reply_head

pub returns-clause-read : goal.returns-clause-read
returns-clause-read c = reads_replies
