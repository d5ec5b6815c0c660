-- The node that a cached node shows, with zeros for the bytes of a file.
use Rattle.directory.specs.Listing.{by_stamp}
use Rattle.tree_edits.specs.Outlines.{zeros}
use Rattle.layout.specs.CachedNodes.{CachedNode, node_with}
use Rattle.model_tree.specs.declared.node.NodeKind.{NodeKind}
use Rattle.model_tree.specs.declared.node.NodeKind.TheVariants as kind
use Rattle.model_tree.specs.Trees.Tree.{Node, Content, File, Directory}

abbrev pub content_metadata : NodeKind → CachedNode → Content
content_metadata kind.File cached = File (zeros cached.fields.size)
content_metadata kind.Directory cached = Directory (by_stamp cached.names)

abbrev pub node_metadata : CachedNode → Node
node_metadata cached = node_with cached.fields (content_metadata cached.fields.kind cached)
