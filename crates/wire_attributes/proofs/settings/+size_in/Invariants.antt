use Rattle.std.proofs.Common.{length}
use Rattle.wire_attributes.proofs.settings.+size_in.Given as goal

abbrev pub decreases-size_in : goal.decreases-size_in
decreases-size_in l = length l.values.now
