-- What the cached node of a node says of the rights on it.
use Rattle.std.proofs.Common.{◌≡◌, ℕ, refl, ap}
use Rattle.std.specs.Prelude.{Some}
use Rattle.layout.specs.CachedNodes.{CachedNode}
use Rattle.model_tree.specs.declared.acl.Cred.{Cred}
use Rattle.model_tree.specs.declared.node.NodeKind.{NodeKind}
use Rattle.model_tree.specs.declared.node.NodeKind.TheVariants as kind
use Rattle.model.specs.Operations.Access.{access_of}
use Rattle.model_tree.specs.Trees.Tree.{Tree, kind_of}
use Rattle.fs.specs.AccessRights.{access_on}
use Rattle.volume.specs.Nodes.{IsNodeOf, ShowsContent}

module _ (tree : Tree) (number : ℕ) (cached : CachedNode) (is : IsNodeOf tree number cached) where
  pub kind_is : kind_of is.node.content ≡ cached.fields.kind
  kind_is = by_kind cached.fields.kind is.content
    where
      by_kind : (of : NodeKind) → ShowsContent of cached is.node.content → kind_of is.node.content ≡ of
      by_kind kind.File file = ap kind_of file.file
      by_kind kind.Directory names = ap kind_of names

  pub access_is : (cred : Cred) (asked : ℕ) → access_of (Some is.node) cred asked ≡ access_on cached cred asked
  access_is cred asked = rw (kind_is, is.acl, is.owner, is.group) refl
