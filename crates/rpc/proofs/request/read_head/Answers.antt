use Rattle.rpc.proofs.Tags.{within_limit}
use Rattle.rpc.proofs.request.read_head.Goals as goal

pub invariant_of-result : goal.invariant_of-result
invariant_of-result c = record { short = within_limit 255 _ _ _ c.in_ok-bytes.ensures }
