-- SETATTR, as calls on a file system.
use Rattle.std.specs.Prelude.{ℕ, Bool, true, false, List, [], ◌∷◌, ◌++◌, Option, Result, Ok, Err}
use Rattle.std.specs.Prelude.{MatchOption, ◌+◌, ◌&&◌, ◌||◌, ◌≡◌, not, is_some, unwrap_or, if◌then◌else◌}
use Rattle.std.specs.Global.{Vec}
use Rattle.tree_edits.specs.declared.edit.Edit.{Edit}
use Rattle.inode.specs.Fields.{Fields}
use Rattle.layout.specs.Stands.{Kept}
use Rattle.model_tree.specs.declared.acl.Cred.{Cred}
use Rattle.model_tree.specs.declared.limits.Limits.{Limits}
use Rattle.model_tree.specs.declared.status.Status.{Status}
use Rattle.model_tree.specs.declared.status.Status.TheVariants as status
use Rattle.model_tree.specs.Rights.Acl.{write_acl, write_data, write_owner}
use Rattle.model.specs.Attributes.Attribute.{acl_number, attribute_refusals, attributes_of, is_among, mode_number, owner_group_number, owner_number, settable_at_setattr, size_number}
use Rattle.model_tree.specs.Trees.Edit.{Metadata}
use Rattle.model_tree.specs.Trees.Keyed.{at, is_key}
use Rattle.model.specs.Operations.Need.{granted_on}
use Rattle.model.specs.Operations.Operation.{Argument, Attributes, SetAttrArguments}
use Rattle.model_tree.specs.Refusals.Refusal.{Refusals}
use Rattle.model.specs.Operations.SetAttr.{kind_at, list_set, sets_size, was_set}
use Rattle.model.specs.Sessions.StateIds.{write_access}
use Rattle.model.specs.Operations.Step.{State, Stepped, alters, answered}
use Rattle.model_tree.specs.Trees.Tree.{Tree, is_directory_at}
use Rattle.wire_attributes.specs.declared.settings.Settings.{Settings}
use Rattle.wire_attributes.specs.Given.{given_of}
use Rattle.fs.specs.declared.fault.FsFault.{FsFault}
use Rattle.fs.specs.declared.setting.Setting.{Setting}
use Rattle.fs.specs.FileSystem.{FileSystem}
use Rattle.fs.specs.Files.{IsVerdict, verdict_refusals}
use Rattle.fs.specs.Operations.{IsOn, IsNotDone, does_on}
use Rattle.volume.specs.Edits.{edited_by}
use Rattle.volume.specs.VolumeState.{with_tree}

-- the arguments that a call is made for, and the verdict on their stateid
pub record IsSetting (state : State) (asked : Setting) (arguments : SetAttrArguments) : Type 0 where
  pub verdict_is : IsVerdict state write_access arguments.state asked.verdict
  pub attributes_are : arguments.attributes ≡ given_of asked.attributes

-- What it leaves

-- the tree and the count of changes after it
abbrev pub after_setting : Tree → (changes : ℕ) → State → SetAttrArguments → Stepped
after_setting tree changes state arguments =
    answered (record state { tree = tree; changes = changes }) (was_set arguments)

-- if the device keeps its word, they are set as the definition sets them
abbrev pub SetsAttributes : (keeps_word : Type 0) → (old new : FileSystem) → State → (now : ℕ)
    → SetAttrArguments → Result (Unit {0}) FsFault → Type 0
SetsAttributes keeps_word old new state now arguments (Ok done) = keeps_word
    → does_on old state now (Argument.SetAttr arguments)
    ≡ after_setting new.volume.tree new.changes state arguments
SetsAttributes keeps_word old new state now arguments (Err reason) =
    IsNotDone old state now (Argument.SetAttr arguments) reason

-- what a SETATTR of this caller leaves by the definition. An empty bitmap is no change: nothing of
-- it has to last.
pub record SetsTree (fs : FileSystem) (cred : Cred) (now : ℕ) (asked : Setting) (after : Kept)
    (lasts : Bool) : Type 0 where
  pub state : State
  pub arguments : SetAttrArguments
  pub on : IsOn fs cred asked.number state
  pub setting : IsSetting state asked arguments
  pub kept : after
      ≡ with_tree fs.volume (does_on fs state now (Argument.SetAttr arguments)).state.tree
  pub quiet : alters state (Argument.SetAttr arguments) ≡ false → lasts ≡ false

-- Before it is kept

-- an empty bitmap leaves the tree and the count
abbrev pub StaysSet : FileSystem → State → (now : ℕ) → SetAttrArguments → Type 0
StaysSet fs state now arguments = does_on fs state now (Argument.SetAttr arguments)
    ≡ after_setting fs.volume.tree fs.changes state arguments

-- any other has the effect of these edits
abbrev pub IsSet : FileSystem → State → (now : ℕ) → SetAttrArguments → List Edit → Type 0
IsSet fs state now arguments edits = does_on fs state now (Argument.SetAttr arguments)
    ≡ after_setting (edited_by fs.volume edits) (fs.changes + 1) state arguments

-- a SETATTR that passed its tests has the effect of its edits, or none if it has no edits
abbrev pub SetsAsPlanned : FileSystem → State → (now : ℕ) → SetAttrArguments → Option (Vec Edit)
    → Type 0
SetsAsPlanned fs state now arguments planned = MatchOption planned
    (StaysSet fs state now arguments)
    (λ edits. IsSet fs state now arguments edits.items)

-- Its tests, after that of a current filehandle

-- of a size that is set
abbrev pub sized_refusals : (is_sized is_directory : Bool) → Result (Unit {0}) Status → Refusals
sized_refusals false is_directory verdict = []
sized_refusals true is_directory verdict =
    (is_directory, status.IsDir) ∷ verdict_refusals verdict

-- whether a caller who is allowed these masks may set the attributes of these numbers
abbrev pub may_set : (allows : ℕ → Bool) → (attributes : List ℕ) → Bool
may_set allows attributes =
    (not (is_among attributes size_number) || allows write_data)
    && ((not (is_among attributes mode_number || is_among attributes acl_number)
    || allows write_acl)
    && (not (is_among attributes owner_number || is_among attributes owner_group_number)
    || allows write_owner))

abbrev pub setting_tests : Limits → Tree → Cred → (number : ℕ) → Result (Unit {0}) Status
    → Attributes → Refusals
setting_tests limits tree cred number verdict given =
    (not (is_key number tree), status.Stale)
    ∷ (attribute_refusals limits (kind_at tree number) settable_at_setattr given
    ++ (sized_refusals (sets_size given) (is_directory_at tree number) verdict
    ++ ((
      not (may_set (granted_on (at number tree) cred) (attributes_of given.bitmap)),
      status.Access,
    ) ∷ [])))

-- the node's metadata then
abbrev pub metadata_with : Fields → Settings → (stamp now : ℕ) → Metadata
metadata_with fields settings stamp now = record {
  owner = unwrap_or settings.owner fields.owner;
  group = unwrap_or settings.group fields.group;
  acl = list_set fields.kind fields.acl settings.mode settings.acl;
  change = stamp;
  time_modify = if is_some settings.size then now else fields.time_modify;
}
