-- Looking a number up in the tree is looking it up in the cached nodes.
use Rattle.std.proofs.Common.{◌≡◌, ℕ, zero, suc, List, [], ◌∷◌, Option, Some, None, get_or, refl, sym, ap, ◌∙◌, arith}
use Rattle.std.proofs.lemmas.Option.{same_Some, none-some}
use Rattle.disk.specs.Moments.{Image}
use Rattle.model_tree.specs.Trees.Keyed.{at, with}
use Rattle.model_tree.proofs.Trees.KeyedLaws.{at-with_same, at-with_other}
use Rattle.layout.specs.CachedNodeLaws.{FindsCached, EachAnswer}
use Rattle.layout.specs.CachedNodes.{CachedNode, tree_of, node_of}
use Rattle.layout.specs.Laid.{AreNumbered}
use Rattle.layout.proofs.Changing.{tree-lacks}

pub tree-has : (image : Image) (cached_nodes : List (Option CachedNode)) (place : ℕ) (cached : CachedNode) → AreNumbered cached_nodes → get_or cached_nodes place None ≡ Some cached → at cached.fields.number (tree_of image cached_nodes) ≡ Some (node_of image cached)
tree-has image [] place cached apart there = absurd (none-some cached there)
tree-has image (None ∷ cached_nodes) zero cached apart there = absurd (none-some cached there)
tree-has image (Some one ∷ cached_nodes) zero cached apart there =
    let same : one ≡ cached = same_Some one cached there in
    ap (λ (c : CachedNode). at cached.fields.number (with (tree_of image cached_nodes) c.fields.number (node_of image c))) same ∙ at-with_same (tree_of image cached_nodes) cached.fields.number (node_of image cached)
tree-has image (None ∷ cached_nodes) (suc place) cached apart there = tree-has image cached_nodes place cached (λ i j a b off. apart (suc i) (suc j) a b (omega arith)) there
tree-has image (Some one ∷ cached_nodes) (suc place) cached apart there =
    at-with_other (tree_of image cached_nodes) one.fields.number cached.fields.number (node_of image one) (apart (suc place) 0 cached one (omega arith) there refl)
    ∙ tree-has image cached_nodes place cached (λ i j a b off. apart (suc i) (suc j) a b (omega arith)) there

pub tree_answers : (image : Image) (cached_nodes : List (Option CachedNode)) → AreNumbered cached_nodes → (number : ℕ) → FindsCached image cached_nodes number
tree_answers image cached_nodes apart number = record {
  found = λ place cached there is. ap (λ (n : ℕ). at n (tree_of image cached_nodes)) (sym is) ∙ tree-has image cached_nodes place cached apart there;
  none = tree-lacks image cached_nodes number;
}

pub each_answer : EachAnswer
each_answer nodes image mark cached_nodes laid = tree_answers image cached_nodes laid.apart
