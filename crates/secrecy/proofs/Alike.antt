-- What an operation looks at in a tree is the same over the tree with zeros for some bytes.
use Rattle.std.proofs.Common.{◌≡◌, ℕ, Bool, true, false, List, Option, Some, None, length, refl, ap, ◌∙◌}
use Rattle.std.specs.Prelude.{option_map, is_some}
use Rattle.std.specs.List.{flat_map}
use Rattle.std.proofs.lemmas.List.{length-replicate}
use Rattle.model_tree.specs.declared.acl.Cred.{Cred}
use Rattle.model_tree.specs.declared.limits.Limits.{Limits}
use Rattle.model_tree.specs.Trees.Changes.{touched, acl_of}
use Rattle.model_tree.specs.Trees.Edit.{with_content}
use Rattle.model_tree.specs.Trees.Keyed.{at, is_key}
use Rattle.model_tree.specs.Trees.Tree.{Tree, Node, Content, File, Directory, is_directory, names_of, is_directory_node, is_directory_at, names_of_node, names_at}
use Rattle.model.specs.Attributes.Attribute.{attributes_of, trimmed}
use Rattle.model.specs.Attributes.AttributeValue.{Value, value_text}
use Rattle.model.specs.Attributes.NodeAttributes.{node_values, node_attributes, asked_values, common, supported_bitmap}
use Rattle.model.specs.Operations.Access.{access_of}
use Rattle.model.specs.Operations.Directory.{change_of}
use Rattle.model.specs.Operations.Need.{granted_on}
use Rattle.model.specs.Operations.Operation.{Attributes}
use Rattle.model.specs.Operations.SetAttr.{metadata_set, attributes_at}
use Rattle.secrecy.specs.Blind.{blank, hidden_if, hidden}
use Rattle.secrecy.proofs.Hiding.{at-hidden}

-- What a node shows beside its bytes

values_alike : (limits : Limits) (number : ℕ) (b : Bool) (node : Node) → node_values limits number (hidden_if b node) ≡ node_values limits number node
values_alike limits number false node = refl
values_alike limits number true node = by_content node.content
  where
    by_content : (content : Content) → node_values limits number (with_content node (blank content)) ≡ node_values limits number (with_content node content)
    by_content (File bytes) = let none : ℕ = 0 in rw (length-replicate (length bytes) none) refl
    by_content (Directory names) = refl

-- a function of nodes that does not look at bytes
abbrev Overlooks : {A : Type 0} → (Option Node → A) → Type 0
Overlooks looks = (b : Bool) (node : Node) → looks (Some (hidden_if b node)) ≡ looks (Some node)

module _ (secret : ℕ → Bool) (tree : Tree) where
  pub same_at : {A : Type 0} (looks : Option Node → A) → Overlooks looks → (number : ℕ) → looks (at number (hidden secret tree)) ≡ looks (at number tree)
  same_at {A} looks overlooks number = ap looks (at-hidden secret tree number) ∙ by_node (at number tree)
    where
      by_node : (there : Option Node) → looks (option_map (λ (node : Node). hidden_if (secret number) node) there) ≡ looks there
      by_node None = refl
      by_node (Some node) = overlooks (secret number) node

  pub same_key : (number : ℕ) → is_key number (hidden secret tree) ≡ is_key number tree
  same_key = same_at is_some (λ b node. refl)

  pub same_directory : (number : ℕ) → is_directory_at (hidden secret tree) number ≡ is_directory_at tree number
  same_directory = same_at is_directory_node by_kind
    where
      by_kind : Overlooks is_directory_node
      by_kind false node = refl
      by_kind true node = by_content node.content
        where
          by_content : (content : Content) → is_directory (blank content) ≡ is_directory content
          by_content (File bytes) = refl
          by_content (Directory names) = refl

  pub same_names : (number : ℕ) → names_at (hidden secret tree) number ≡ names_at tree number
  same_names = same_at names_of_node by_names
    where
      by_names : Overlooks names_of_node
      by_names false node = refl
      by_names true node = by_content node.content
        where
          by_content : (content : Content) → names_of (blank content) ≡ names_of content
          by_content (File bytes) = refl
          by_content (Directory names) = refl

  pub same_grant : (cred : Cred) (mask number : ℕ) → granted_on (at number (hidden secret tree)) cred mask ≡ granted_on (at number tree) cred mask
  same_grant cred mask = same_at (λ (there : Option Node). granted_on there cred mask) by_if
    where
      by_if : Overlooks (λ (there : Option Node). granted_on there cred mask)
      by_if true node = refl
      by_if false node = refl

  pub same_touch : (stamp now number : ℕ) → touched (at number (hidden secret tree)) stamp now ≡ touched (at number tree) stamp now
  same_touch stamp now = same_at (λ (there : Option Node). touched there stamp now) by_if
    where
      by_if : Overlooks (λ (there : Option Node). touched there stamp now)
      by_if true node = refl
      by_if false node = refl

  pub same_acl : (number : ℕ) → acl_of (at number (hidden secret tree)) ≡ acl_of (at number tree)
  same_acl = same_at acl_of by_if
    where
      by_if : Overlooks acl_of
      by_if true node = refl
      by_if false node = refl

  pub same_change : (number : ℕ) → change_of (at number (hidden secret tree)) ≡ change_of (at number tree)
  same_change = same_at change_of by_if
    where
      by_if : Overlooks change_of
      by_if true node = refl
      by_if false node = refl

  pub same_shown : (given : Attributes) (stamp now number : ℕ) → metadata_set (at number (hidden secret tree)) given stamp now ≡ metadata_set (at number tree) given stamp now
  same_shown given stamp now = same_at (λ (there : Option Node). metadata_set there given stamp now) by_if
    where
      by_if : Overlooks (λ (there : Option Node). metadata_set there given stamp now)
      by_if false node = refl
      by_if true node = by_content node.content
        where
          by_content : (content : Content) → metadata_set (Some (with_content node (blank content))) given stamp now ≡ metadata_set (Some (with_content node content)) given stamp now
          by_content (File bytes) = refl
          by_content (Directory names) = refl

  pub same_access : (cred : Cred) (asked number : ℕ) → access_of (at number (hidden secret tree)) cred asked ≡ access_of (at number tree) cred asked
  same_access cred asked = same_at (λ (there : Option Node). access_of there cred asked) by_if
    where
      by_if : Overlooks (λ (there : Option Node). access_of there cred asked)
      by_if false node = refl
      by_if true node = by_content node.content
        where
          by_content : (content : Content) → access_of (Some (with_content node (blank content))) cred asked ≡ access_of (Some (with_content node content)) cred asked
          by_content (File bytes) = refl
          by_content (Directory names) = refl

  pub same_attributes : (limits : Limits) (bitmap : List ℕ) (shown number : ℕ)
      → attributes_at limits bitmap shown (at number (hidden secret tree)) ≡ attributes_at limits bitmap shown (at number tree)
  unfolding node_attributes
  same_attributes limits bitmap shown = same_at (λ (there : Option Node). attributes_at limits bitmap shown there) by_if
    where
      from_values : List Value → Attributes
      from_values values = record {
        bitmap = trimmed (common bitmap supported_bitmap);
        values = flat_map value_text (asked_values (attributes_of bitmap) values);
      }

      by_if : Overlooks (λ (there : Option Node). attributes_at limits bitmap shown there)
      by_if b node = ap from_values (values_alike limits shown b node)
