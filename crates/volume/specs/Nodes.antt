-- What the cached node of a node shows of it: all but a file's bytes, of which it has the number.
use Rattle.std.specs.Prelude.{◌≡◌, ℕ, List, Some, length}
use Rattle.directory.specs.Listing.{by_stamp}
use Rattle.layout.specs.CachedNodes.{CachedNode}
use Rattle.model_tree.specs.declared.node.NodeKind.{NodeKind}
use Rattle.model_tree.specs.declared.node.NodeKind.TheVariants as kind
use Rattle.model_tree.specs.Trees.Keyed.{at}
use Rattle.model_tree.specs.Trees.Tree.{Tree, Node, Content, File, Directory}

-- a file of `size` bytes
pub record IsFile (size : ℕ) (content : Content) : Type 0 where
  pub bytes : List ℕ
  pub file : content ≡ File bytes
  pub size_is : length bytes ≡ size

abbrev pub ShowsContent : NodeKind → CachedNode → Content → Type 0
ShowsContent kind.File cached content = IsFile cached.fields.size content
ShowsContent kind.Directory cached content = content ≡ Directory (by_stamp cached.names)

pub record IsNodeOf (tree : Tree) (number : ℕ) (cached : CachedNode) : Type 0 where
  pub number_is : cached.fields.number ≡ number
  pub node : Node
  pub there : at number tree ≡ Some node
  pub owner : node.owner ≡ cached.fields.owner
  pub group : node.group ≡ cached.fields.group
  pub acl : node.acl ≡ cached.fields.acl
  pub change : node.change ≡ cached.fields.change
  pub time_modify : node.time_modify ≡ cached.fields.time_modify
  pub content : ShowsContent cached.fields.kind cached node.content
