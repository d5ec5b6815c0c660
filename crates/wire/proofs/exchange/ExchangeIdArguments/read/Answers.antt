use Rattle.wire.proofs.Owners.{within_limit}
use Rattle.wire.proofs.exchange.ExchangeIdArguments.read.Goals as goal

pub invariant_of-result : goal.invariant_of-result
invariant_of-result c = record { owned = within_limit 1024 _ _ _ c.in_ok-owner.ensures }
