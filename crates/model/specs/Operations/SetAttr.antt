-- SETATTR and GETATTR: RFC 8881, sections 18.30 and 18.7. A list that is set together with a mode
-- is kept as it is; the order of the tests is this server's profile.
use Rattle.std.specs.Prelude.{ℕ, Bool, true, false, [], ◌∷◌, ◌++◌, List, not, ◌||◌, Option, Some, None, unwrap_or, if◌then◌else◌, is_some}
use Rattle.model_tree.specs.declared.acl.Ace.{Ace}
use Rattle.model_tree.specs.declared.node.NodeKind.{NodeKind}
use Rattle.model_tree.specs.declared.node.NodeKind.TheVariants as kind
use Rattle.model_tree.specs.declared.status.Status.TheVariants as status
use Rattle.model.specs.Operations.Answer.{Answer}
use Rattle.model.specs.Attributes.Attribute.{attributes_of, is_among, size_number, acl_number, mode_number, owner_number, owner_group_number, attribute_refusals, settable_at_setattr, is_empty, trimmed, size_given, acl_given, mode_given, owner_given, group_given}
use Rattle.model_tree.specs.Trees.Changes.{touched}
use Rattle.model_tree.specs.Trees.Edit.{Metadata, Edit, Show, SetSize}
use Rattle.model_tree.specs.Trees.Keyed.{at}
use Rattle.model_tree.specs.declared.limits.Limits.{Limits}
use Rattle.model_tree.specs.Rights.Acl.{read_acl, write_data, write_acl, write_owner}
use Rattle.model_tree.specs.Rights.Mode.{moded}
use Rattle.model.specs.Operations.Need.{Right, right_if}
use Rattle.model.specs.Attributes.NodeAttributes.{node_attributes}
use Rattle.model.specs.Operations.Context.{Context, current_number}
use Rattle.model.specs.Operations.Definition.{Definition, on_current}
use Rattle.model.specs.Operations.Operation.{Attributes, SetAttrArguments}
use Rattle.model_tree.specs.Refusals.Refusal.{Refusals}
use Rattle.model.specs.Operations.State.{State, Stepped, current, stamp_of, current_refusals, answered, changed}
use Rattle.model.specs.Sessions.StateIds.{state_refusals, write_access}
use Rattle.model_tree.specs.Trees.Tree.{Tree, Node, kind_of, is_directory_at}

abbrev pub kind_at : Tree → (number : ℕ) → NodeKind
kind_at tree number = if is_directory_at tree number then kind.Directory else kind.File

abbrev pub sets_size : Attributes → Bool
sets_size given = is_some (size_given given)

-- a size is a file's, and needs a stateid
abbrev pub size_refusals : State → SetAttrArguments → Refusals
size_refusals state arguments =
    if sets_size arguments.attributes
    then (is_directory_at state.tree (current state), status.IsDir)
    ∷ state_refusals state.opens state.context write_access arguments.state
    else []

abbrev pub set_refusals : Limits → State → SetAttrArguments → Refusals
set_refusals limits state arguments =
    attribute_refusals limits (kind_at state.tree (current state)) settable_at_setattr
    arguments.attributes
    ++ size_refusals state arguments

-- the rights that setting these needs: a size is written, a mode is a list, and so on
abbrev pub setting_rights : Context → (attributes : List ℕ) → List (List Right)
setting_rights context attributes =
    right_if (is_among attributes size_number) (current_number context) write_data
    ++ right_if (is_among attributes mode_number || is_among attributes acl_number)
    (current_number context) write_acl
    ++ right_if (is_among attributes owner_number || is_among attributes owner_group_number)
    (current_number context) write_owner

-- The node's metadata afterwards

abbrev pub list_set : NodeKind → List Ace → (mode : Option ℕ) → Option (List Ace) → List Ace
list_set of acl mode (Some set) = set
list_set of acl (Some mode) None = moded of acl mode
list_set of acl None None = acl

abbrev pub metadata_set : Option Node → Attributes → (stamp now : ℕ) → Metadata
metadata_set None given stamp now = touched None stamp now
metadata_set (Some node) given stamp now = record {
  owner = unwrap_or (owner_given given) node.owner;
  group = unwrap_or (group_given given) node.group;
  acl = list_set (kind_of node.content) node.acl (mode_given given) (acl_given given);
  change = stamp;
  time_modify = if is_some (size_given given) then now else node.time_modify;
}

abbrev pub size_edits : (number : ℕ) → Option ℕ → List Edit
size_edits number None = []
size_edits number (Some size) = SetSize number size ∷ []

abbrev pub set_edits : Tree → (number : ℕ) → Attributes → (stamp now : ℕ) → List Edit
set_edits tree number given stamp now =
    size_edits number (size_given given)
    ++ (Show number (metadata_set (at number tree) given stamp now) ∷ [])

-- an empty bitmap sets nothing, and is no change
abbrev pub sets : SetAttrArguments → Bool
sets arguments = not (is_empty arguments.attributes.bitmap)

abbrev pub was_set : SetAttrArguments → Answer
was_set arguments = Answer.SetAttr (trimmed arguments.attributes.bitmap)

abbrev pub set_attributes : (sets : Bool) → State → (now : ℕ) → SetAttrArguments → Stepped
set_attributes true state now arguments =
    answered
    (changed state (set_edits state.tree (current state) arguments.attributes (stamp_of state) now))
    (was_set arguments)
set_attributes false state now arguments = answered state (was_set arguments)

-- SETATTR (section 18.30)
abbrev pub SETATTR : SetAttrArguments → Definition
SETATTR arguments = record (on_current
    (λ tree context. setting_rights context (attributes_of arguments.attributes.bitmap))
    (λ limits state now. set_attributes (sets arguments) state now arguments)) {
      early = λ limits state. current_refusals state ++ set_refusals limits state arguments;
      alters = λ state. sets arguments;
    }

-- What is returned

abbrev pub attributes_at : Limits → (bitmap : List ℕ) → (number : ℕ) → Option Node → Attributes
attributes_at limits bitmap number None = record { bitmap = []; values = [] }
attributes_at limits bitmap number (Some node) = node_attributes limits bitmap number node

abbrev pub asks_acls : (bitmap : List ℕ) → Bool
asks_acls bitmap = is_among (attributes_of bitmap) acl_number

-- GETATTR (section 18.7)
abbrev pub GETATTR : (bitmap : List ℕ) → Definition
GETATTR bitmap = on_current
    (λ tree context. right_if (asks_acls bitmap) (current_number context) read_acl)
    (λ limits state now. answered state (Answer.GetAttr
    (attributes_at limits bitmap (current state) (at (current state) state.tree))))
