use Rattle.std.proofs.Common.{length}
use Rattle.wire_attributes.proofs.settings.+acl_in.Given as goal

abbrev pub decreases-acl_in : goal.decreases-acl_in
decreases-acl_in l = length l.values.now
