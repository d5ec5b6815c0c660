-- Whose bits of a mode are meant.
use Rattle.std.specs.Prelude.{Bool, ◌||◌}
use Rattle.model_tree.specs.Rights.Mode.{is_owner, is_group, is_everyone}
use Rattle.model_tree.specs.declared.acl.Who.{Who}
use Rattle.acl_set.specs.declared.modes.Class.{Class}
use Rattle.acl_set.specs.declared.modes.Class.TheVariants as class

-- whether a name is the class's own or EVERYONE@
abbrev pub named_by : Class → Who → Bool
named_by class.Owner name = is_owner name || is_everyone name
named_by class.Group name = is_group name || is_everyone name
named_by class.Everyone name = is_everyone name || is_everyone name
