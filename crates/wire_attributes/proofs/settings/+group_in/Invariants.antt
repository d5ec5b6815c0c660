use Rattle.std.proofs.Common.{length}
use Rattle.wire_attributes.proofs.settings.+group_in.Given as goal

abbrev pub decreases-group_in : goal.decreases-group_in
decreases-group_in l = length l.values.now
