-- What a cached node shows of its node.
use Rattle.std.proofs.Common.{◌≡◌, ℕ, List, Option, Some, None, get_or, refl, sym, ap, ◌∙◌}
use Rattle.std.proofs.lemmas.List.{length-map}
use Rattle.std.proofs.lemmas.List.FromFn.{length-range_with_len}
use Rattle.std.specs.List.{range_with_len}
use Rattle.disk.specs.Moments.{Image}
use Rattle.layout.specs.CachedNodes.{CachedNode, byte_at, bytes_in, node_of, content_of, tree_of}
use Rattle.layout.specs.Laid.{AreNumbered}
use Rattle.layout.proofs.Answering.{tree-has}
use Rattle.layout.proofs.Changing.{tree-lacks}
use Rattle.node_table.specs.Tables.{node_number, node_number_at, HasNoNode}
use Rattle.model_tree.specs.declared.node.NodeKind.{NodeKind}
use Rattle.model_tree.specs.declared.node.NodeKind.TheVariants as kind
use Rattle.model_tree.specs.Trees.Keyed.{at}
use Rattle.volume.specs.Nodes.{ShowsContent, IsNodeOf}

shows : (image : Image) (kind : NodeKind) (cached : CachedNode) → ShowsContent kind cached (content_of image kind cached)
unfolding bytes_in
shows image kind.File cached = record {
  bytes = bytes_in image cached.blocks cached.fields.size;
  file = refl;
  size_is = length-map (range_with_len 0 cached.fields.size) (byte_at image cached.blocks) ∙ length-range_with_len 0 cached.fields.size;
}
shows image kind.Directory cached = refl

shown_number : (cached : CachedNode) (option : Option CachedNode) (number : ℕ) → option ≡ Some cached → node_number option ≡ Some number → cached.fields.number ≡ number
shown_number cached None number there is = absurd (cc)
shown_number cached (Some other) number there is = cc

pub node_there : (image : Image) (cached_nodes : List (Option CachedNode)) (place number : ℕ) (cached : CachedNode) → AreNumbered cached_nodes → get_or cached_nodes place None ≡ Some cached
    → node_number_at cached_nodes place ≡ Some number → IsNodeOf (tree_of image cached_nodes) number cached
unfolding node_of
node_there image cached_nodes place number cached apart there is =
    let same : cached.fields.number ≡ number = shown_number cached (get_or cached_nodes place None) number there is in
    record {
      number_is = same;
      node = node_of image cached;
      there = ap (λ (n : ℕ). at n (tree_of image cached_nodes)) (sym same) ∙ tree-has image cached_nodes place cached apart there;
      owner = refl;
      group = refl;
      acl = refl;
      change = refl;
      time_modify = refl;
      content = shows image cached.fields.kind cached;
    }

pub none_there : (image : Image) (cached_nodes : List (Option CachedNode)) (number : ℕ) → HasNoNode cached_nodes number → at number (tree_of image cached_nodes) ≡ None
none_there image cached_nodes number has_not = tree-lacks image cached_nodes number (λ i cached there same. has_not i (ap node_number there ∙ ap (λ (n : ℕ). Some n) same))
