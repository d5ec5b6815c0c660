use Rattle.std.proofs.Common.{length}
use Rattle.wire_attributes.proofs.settings.+mode_in.Given as goal

abbrev pub decreases-mode_in : goal.decreases-mode_in
decreases-mode_in l = length l.values.now
