-- What is returned about a tree without the bytes of its files does not depend on them.
use Rattle.std.proofs.Common.{◌≡◌, ℕ, zero, suc, List, [], ◌∷◌, Option, Some, None, length, refl, sym, ap, ap₂, ◌∙◌}
use Rattle.std.specs.Prelude.{if◌then◌else◌, nat_lt, ◌==◌, option_map}
use Rattle.std.specs.List.{list_any}
use Rattle.std.proofs.lemmas.Option.{same_Some}
use Rattle.tree_edits.specs.Outlines.{blank, blank_node, without_data}
use Rattle.tree_edits.proofs.BlankLaws.{at-without_data, length-without_data, length-zeros}
use Rattle.tree_edits.proofs.FitLaws.{fits_alike}
use Rattle.layout.specs.CachedNodes.{CachedNode}
use Rattle.model_tree.specs.declared.node.NodeKind.{NodeKind}
use Rattle.model_tree.specs.declared.node.NodeKind.TheVariants as kind
use Rattle.model_tree.specs.Trees.Ancestors.{parent_of, ancestors_in, is_below}
use Rattle.model_tree.specs.Trees.Keyed.{at}
use Rattle.model_tree.specs.Trees.Tree.{Tree, Node, Content, File, Directory, root, bytes_of, names_of}
use Rattle.model_tree.specs.Trees.WellFormed.{links_from, links_in}
use Rattle.volume.specs.Nodes.{IsNodeOf, ShowsContent}
use Rattle.volume.specs.Alike.{ShowsAs, AnswersByShown}

-- Parents and ancestors

links-without_data : (number : ℕ) (node : Node) → links_from number (blank_node node) ≡ links_from number node
links-without_data number node = by_content node.content
  where
    by_content : (content : Content) → links_in number (names_of (blank content)) ≡ links_in number (names_of content)
    by_content (File bytes) = refl
    by_content (Directory names) = refl

pub parent-without_data : (tree : Tree) (number : ℕ) → parent_of (without_data tree) number ≡ parent_of tree number
parent-without_data [] number = refl
parent-without_data (entry ∷ rest) number =
    ap₂ (λ (n other : ℕ). if nat_lt 0 n then entry.0 else other) (links-without_data number entry.1) (parent-without_data rest number)

ancestors-without_data : (steps : ℕ) (tree : Tree) (number : ℕ) → ancestors_in steps (without_data tree) number ≡ ancestors_in steps tree number
ancestors-without_data zero tree number = refl
ancestors-without_data (suc steps) tree number = ap (λ (l : List ℕ). number ∷ (if number == root then [] else l))
    (ap (ancestors_in steps (without_data tree)) (parent-without_data tree number) ∙ ancestors-without_data steps tree (parent_of tree number))

pub below-without_data : (tree : Tree) (upper number : ℕ) → is_below (without_data tree) upper number ≡ is_below tree upper number
below-without_data tree upper number = ap (list_any (λ (of : ℕ). of == upper))
    (ap (λ (n : ℕ). ancestors_in n (without_data tree) number) (length-without_data tree) ∙ ancestors-without_data (length tree) tree number)

-- Nodes

-- a content of the same blank is shown by the same cached nodes
content_alike : (of : NodeKind) (cached : CachedNode) (content other : Content) → blank other ≡ blank content → ShowsContent of cached content → ShowsContent of cached other
content_alike kind.File cached content (File bytes) alike shown = record {
  bytes = bytes;
  file = refl;
  size_is = sym (length-zeros (length bytes)) ∙ ap (λ (c : Content). length (bytes_of c)) (alike ∙ ap blank shown.file) ∙ length-zeros (length shown.bytes) ∙ shown.size_is;
}
content_alike kind.File cached content (Directory names) alike shown = absurd (let file = shown.file in cc)
content_alike kind.Directory cached (Directory names) (Directory others) alike shown = alike ∙ shown
content_alike kind.Directory cached (Directory names) (File bytes) alike shown = absurd (cc)
content_alike kind.Directory cached (File bytes) other alike shown = absurd (cc)

module _ (tree shown : Tree) (alike : ShowsAs tree shown) where
  found_alike : (number : ℕ) → option_map blank_node (at number shown) ≡ option_map blank_node (at number tree)
  found_alike number = sym (at-without_data shown number) ∙ ap (at number) alike
      ∙ at-without_data tree number

  none_alike : (number : ℕ) (found : Option Node) → at number shown ≡ found → at number tree ≡ None → found ≡ None
  none_alike number None is none = refl
  none_alike number (Some node) is none = absurd (let same = found_alike number in cc)

  module _ (number : ℕ) (cached : CachedNode) (is : IsNodeOf tree number cached) where
    node_alike : (found : Option Node) → at number shown ≡ found → IsNodeOf shown number cached
    node_alike None there = absurd (let same = found_alike number in let stands = is.there in cc)
    node_alike (Some node) there =
        let same : blank_node node ≡ blank_node is.node = same_Some (blank_node node) (blank_node is.node)
        (sym (ap (option_map blank_node) there) ∙ found_alike number ∙ ap (option_map blank_node) is.there) in
        record {
          number_is = is.number_is;
          node = node;
          there = there;
          owner = ap (λ (n : Node). n.owner) same ∙ is.owner;
          group = ap (λ (n : Node). n.group) same ∙ is.group;
          acl = ap (λ (n : Node). n.acl) same ∙ is.acl;
          change = ap (λ (n : Node). n.change) same ∙ is.change;
          time_modify = ap (λ (n : Node). n.time_modify) same ∙ is.time_modify;
          content = content_alike cached.fields.kind cached is.node.content node.content (ap (λ (n : Node). n.content) same) is.content;
        }

pub answers_by_shown : AnswersByShown
answers_by_shown tree shown alike = record {
  node = λ number cached is. node_alike tree shown alike number cached is (at number shown) refl;
  none = λ number none. none_alike tree shown alike number (at number shown) refl none;
  parent = λ number. sym (parent-without_data shown number) ∙ ap (λ (t : Tree). parent_of t number) alike ∙ parent-without_data tree number;
  below = λ upper number. sym (below-without_data shown upper number) ∙ ap (λ (t : Tree). is_below t upper number) alike ∙ below-without_data tree upper number;
  fits = λ limits edits. fits_alike limits tree shown edits alike;
}
