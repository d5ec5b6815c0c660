use Rattle.std.proofs.Common.{length}
use Rattle.wire.proofs.small.+trimmed.Given as goal

abbrev pub decreases-trimmed : goal.decreases-trimmed
decreases-trimmed l = length l.bitmap.now
