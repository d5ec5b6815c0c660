-- A change that passed its tests, before it is kept.
use Rattle.std.specs.Prelude.{◌+◌, ◌<◌, ◌^◌, ℕ, List, IsTrue}
use Rattle.tree_edits.specs.declared.edit.Edit.{Edit}
use Rattle.inode.specs.Fields.{Fields}
use Rattle.model_tree.specs.declared.acl.Ace.{Ace}
use Rattle.model_tree.specs.declared.acl.Cred.{Cred}
use Rattle.model_tree.specs.declared.limits.Limits.{Limits}
use Rattle.model_tree.specs.declared.node.NodeKind.{NodeKind}
use Rattle.model_tree.specs.Rights.Acl.{is_list_for}
use Rattle.model_tree.specs.Trees.Charge.{fits}
use Rattle.model_tree.specs.Trees.Edit.{Metadata}
use Rattle.model_tree.specs.Rights.Inherit.{created_list}
use Rattle.model_tree.specs.Trees.Stamp.{next_stamp}
use Rattle.wire_attributes.specs.declared.settings.Settings.{Settings}
use Rattle.fs.specs.FileSystem.{FileSystem}
use Rattle.volume.specs.Edits.{IsChange, edited_by}
use Rattle.volume.specs.Formed.{IsFormed}

-- the tree after it fits, a stamp is left, and after that the tree has no later one
pub record IsPlanned (fs : FileSystem) (edits : List Edit) : Type 0 where
  pub change : IsChange fs.volume edits
  pub fitting : IsTrue (fits fs.volume.limits (edited_by fs.volume edits))
  pub left : fs.changes + 1 < 2 ^ 32
  pub formed : IsFormed fs.volume.limits (next_stamp fs.volume.run (fs.changes + 1))
      (edited_by fs.volume edits)

-- a node's metadata after a change of its content
abbrev pub metadata_by : Fields → (stamp now : ℕ) → Metadata
metadata_by fields stamp now = record {
  owner = fields.owner;
  group = fields.group;
  acl = fields.acl;
  change = stamp;
  time_modify = now;
}

-- the list of a new node of this kind, in a directory with the list `parent`
abbrev pub list_by : NodeKind → (parent : List Ace) → Settings → List Ace
list_by of parent settings = created_list parent of settings.is_empty settings.mode settings.acl

-- the metadata of a new node of this caller with such a list
abbrev pub child_metadata : Cred → (acl : List Ace) → (stamp now : ℕ) → Metadata
child_metadata cred acl stamp now = record {
  owner = cred.uid;
  group = cred.gid;
  acl = acl;
  change = stamp;
  time_modify = now;
}

-- a list that a node of this kind may have
abbrev pub IsList : Limits → NodeKind → List Ace → Type 0
IsList limits of acl = IsTrue (is_list_for limits.aces_set limits.aces of acl)
