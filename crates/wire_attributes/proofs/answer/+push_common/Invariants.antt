use Rattle.std.proofs.Common.{length}
use Rattle.wire_attributes.proofs.answer.+push_common.Given as goal

abbrev pub decreases-push_common : goal.decreases-push_common
decreases-push_common l = length l.asked.now
