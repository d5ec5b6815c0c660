-- Which entry of a given list is refused.
use Rattle.std.specs.Prelude.{ℕ, Option, Some, None, List}
use Rattle.model_tree.specs.Rights.Inherit.{first_refused}
use Rattle.model_tree.specs.declared.acl.Ace.{Ace}
use Rattle.model_tree.specs.declared.node.NodeKind.{NodeKind}

-- how many entries a client may set
abbrev pub most_set : ℕ
most_set = 64

abbrev pub refused_of : ℕ → NodeKind → Option (List Ace) → Option ℕ
refused_of most of None = None
refused_of most of (Some acl) = first_refused most of acl
