use Rattle.std.proofs.Common.{length}
use Rattle.wire_attributes.proofs.settings.+owner_in.Given as goal

abbrev pub decreases-owner_in : goal.decreases-owner_in
decreases-owner_in l = length l.values.now
