-- New directories: RFC 8881, section 18.4 (CREATE).
use Rattle.std.specs.Prelude.{ℕ, List, [], Option, Some, None}
use Rattle.model_tree.specs.declared.acl.Ace.{Ace}
use Rattle.model_tree.specs.declared.acl.Cred.{Cred}
use Rattle.model_tree.specs.declared.node.NodeKind.TheVariants as kind
use Rattle.model.specs.Attributes.Attribute.{is_empty, mode_given, acl_given}
use Rattle.model_tree.specs.Rights.Inherit.{created_list}
use Rattle.model.specs.Operations.Operation.{Attributes}
use Rattle.model_tree.specs.Trees.Tree.{Node, Directory}

-- the change value of a directory, or 0 if there is no such node
abbrev pub change_of : Option Node → ℕ
change_of None = 0
change_of (Some node) = node.change

-- A new directory is the caller's. Its list is the one given, or that of the mode and the inherited
-- entries, or the inherited entries, or empty if no attribute is given (section 6.4.3).
abbrev pub new_directory : Cred → (parent : List Ace) → Attributes → (stamp now : ℕ) → Node
new_directory cred parent given stamp now = record {
  owner = cred.uid;
  group = cred.gid;
  acl =
      created_list parent kind.Directory (is_empty given.bitmap) (mode_given given)
      (acl_given given);
  change = stamp;
  time_modify = now;
  content = Directory [];
}
