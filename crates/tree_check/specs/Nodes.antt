-- The limits allow each node at the places of a table, and the root is a directory.
use Rattle.std.specs.Prelude.{◌≡◌, ◌≤◌, ℕ, List, Option, Some, None, IsTrue, length, slice_index_or}
use Rattle.std.specs.List.{AllByRecursion}
use Rattle.model_tree.specs.declared.limits.Limits.{Limits}
use Rattle.model_tree.specs.declared.node.NodeKind.{NodeKind}
use Rattle.model_tree.specs.declared.node.NodeKind.TheVariants as kind
use Rattle.model_tree.specs.Rights.Acl.{is_list_for}
use Rattle.model_tree.specs.Refusals.Name.{name_refusals}
use Rattle.model_tree.specs.Refusals.Refusal.{first_refusal}
use Rattle.model_tree.specs.Trees.Tree.{root}
use Rattle.directory.specs.Records.{Record, name_of}
use Rattle.layout.specs.CachedNodes.{CachedNode}

-- a name is allowed, and all names are

abbrev pub IsNameAllowed : Limits → List ℕ → Type 0
IsNameAllowed limits name = first_refusal (name_refusals limits name) ≡ None

abbrev pub AreNamesAllowed : Limits → List Record → Type 0
AreNamesAllowed limits names = AllByRecursion (λ entry. IsNameAllowed limits (name_of entry)) names

-- a directory's names are within their limit, and allowed
pub record HasAllowedNames (limits : Limits) (cached_node : CachedNode) : Type 0 where
  pub few : length cached_node.names ≤ limits.names
  pub names : AreNamesAllowed limits cached_node.names

abbrev pub IsContentAllowed : Limits → NodeKind → CachedNode → Type 0
IsContentAllowed limits kind.File cached_node = cached_node.fields.size ≤ limits.file_bytes
IsContentAllowed limits kind.Directory cached_node = HasAllowedNames limits cached_node

pub record IsNodeAllowed (limits : Limits) (cached_node : CachedNode) : Type 0 where
  pub entries : IsTrue
      (is_list_for limits.aces_set limits.aces cached_node.fields.kind cached_node.fields.acl)
  pub content : IsContentAllowed limits cached_node.fields.kind cached_node

-- the root's number is that of a directory

pub record IsRootDirectory (cached_node : CachedNode) : Type 0 where
  pub number : cached_node.fields.number ≡ root
  pub directory : cached_node.fields.kind ≡ kind.Directory

pub record HasRootDirectory (cached_nodes : List (Option CachedNode)) : Type 0 where
  pub place : ℕ
  pub cached : CachedNode
  pub there : slice_index_or cached_nodes place None ≡ Some cached
  pub is : IsRootDirectory cached

pub record AreNodesAllowed (limits : Limits)
    (cached_nodes : List (Option CachedNode)) : Type 0 where
  pub each : (place : ℕ) (cached_node : CachedNode) → slice_index_or cached_nodes place None
      ≡ Some cached_node
      → IsNodeAllowed limits cached_node
  pub rooted : HasRootDirectory cached_nodes
