-- A tree whose files hold bytes is well formed if it is so with zeros for them; and which edits
-- keep bytes.
use Rattle.std.proofs.Common.{◌≡◌, ◌+◌, ◌<◌, ◌&&◌, not, ℕ, Bool, List, [], ◌∷◌, Option, Some, None, All, length, refl, sym, ap, ap₂, ◌∙◌, arith, inl, inr, subst}
use Rattle.std.specs.Prelude.{option_map, ◌==◌, IsTrue}
use Rattle.std.proofs.Math.Logic.{∥∥₁_map}
use Rattle.std.proofs.lemmas.Bool.{cases_eq}
use Rattle.std.proofs.lemmas.List.Elements.{All-nil}
use Rattle.std.proofs.lemmas.Option.{same_Some}
use Rattle.tree_edits.specs.declared.edit.Edit.{Edit}
use Rattle.tree_edits.specs.declared.edit.Edit.TheVariants as declared
use Rattle.tree_edits.specs.Edits.{edits_of, fresh_node}
use Rattle.tree_edits.specs.Outlines.{blank, blank_node, without_data}
use Rattle.tree_edits.specs.Parts.{PartsAreBytes}
use Rattle.tree_edits.proofs.BlankLaws.{length-zeros, at-without_data, key-without_data, directory-without_data, names-without_data}
use Rattle.tree_edits.proofs.FitLaws.{fits-without_data}
use Rattle.tree_transaction.specs.Nodes.{metadata_of}
use Rattle.model_tree.specs.declared.limits.Limits.{Limits}
use Rattle.model_tree.specs.declared.node.NodeKind.{NodeKind}
use Rattle.model_tree.specs.declared.node.NodeKind.TheVariants as kind
use Rattle.model_tree.specs.Rights.Acl.{is_list_for}
use Rattle.model_tree.specs.Trees.Edit.{PutNode, DropNode, Show, PutName, DropName, PutBytes, SetSize, done, edited, altered, altered_at, showing, with_content, name_put, name_dropped, resized, overwritten}
use Rattle.model_tree.specs.Trees.Edit as model
use Rattle.model_tree.specs.Trees.Keyed.{Keyed, at, with, without, is_key, IsAbove, total}
use Rattle.model_tree.specs.Trees.Tree.{Tree, Node, Content, File, Directory, DirEntry, root, kind_of, bytes_of, names_of}
use Rattle.model_tree.specs.Trees.WellFormed.{one_if, links_in, links_from, links_to, links_owed, is_stamped, stamped_in, IsContent, IsNode, IsWellFormed, IsBefore}
use Rattle.model_tree.proofs.Trees.EditLaws.{from_more}
use Rattle.model_tree.proofs.Trees.KeyedLaws.{at-with_same, at-with_other, at-without_same, at-without_other}
use Rattle.model_tree.proofs.Trees.NodeChangeLaws.{resized_bytes, overwritten_bytes}
use Rattle.volume.specs.Formed.{IsFormed}

abbrev HasBytes : Content → Type 0
HasBytes content = All (λ byte. byte < 256) (bytes_of content)

-- each file holds bytes
abbrev pub AreBytes : Tree → Type 0
AreBytes tree = (number : ℕ) (node : Node) → at number tree ≡ Some node → All (λ byte. byte < 256) (bytes_of node.content)

no_bytes : All (λ byte. byte < 256) []
no_bytes = All-nil (λ byte. byte < 256)

none_some : {A : Type 0} (found : Option A) (x : A) → found ≡ None → found ≡ Some x → ⊥
none_some found x none some = cc

-- as in each well-formed tree

content_bytes : (limits : Limits) (content : Content) → IsContent limits content → HasBytes content
content_bytes limits (File bytes) is = is.0
content_bytes limits (Directory names) is = no_bytes

pub well_formed_bytes : (limits : Limits) (tree : Tree) → IsWellFormed limits tree → AreBytes tree
well_formed_bytes limits tree well number node there = (let is = well.nodes number node there in content_bytes limits node.content is.content)

-- Edits

bytes_with : (tree : Tree) (number : ℕ) (node : Node) → AreBytes tree → HasBytes node.content → AreBytes (with tree number node)
bytes_with tree number node are has other is there = elim (cases_eq other number) [
  | inl e ↦ subst (λ (n : Node). HasBytes n.content)
      (same_Some node is (sym (at-with_same tree number node) ∙ ap (λ (n : ℕ). at n (with tree number node)) (sym e) ∙ there)) has
  | inr off ↦ are other is (sym (at-with_other tree number other node off) ∙ there)
]

bytes_without : (tree : Tree) (number : ℕ) → AreBytes tree → AreBytes (without tree number)
bytes_without tree number are other is there = elim (cases_eq other number) [
  | inl e ↦ absurd (none_some (at other (without tree number)) is (ap (λ (n : ℕ). at n (without tree number)) e ∙ at-without_same tree number) there)
  | inr off ↦ are other is (sym (at-without_other tree number other off) ∙ there)
]

bytes_altered : (change : Node → Node) → ((node : Node) → HasBytes node.content → HasBytes (change node).content)
    → (tree : Tree) (number : ℕ) → AreBytes tree → AreBytes (altered change tree number)
bytes_altered change keeps tree number are = by_node (at number tree) refl
  where
    by_node : (there : Option Node) → at number tree ≡ there → AreBytes (altered_at change tree number there)
    by_node None e = are
    by_node (Some node) e = bytes_with tree number (change node) are (keeps node (are number node e))

-- the bytes that an edit of the definition puts
abbrev GivesBytes : model.Edit → Type 0
GivesBytes (PutNode number node) = HasBytes node.content
GivesBytes (DropNode number) = Unit {0}
GivesBytes (Show number shown) = Unit {0}
GivesBytes (PutName directory stamp entry) = Unit {0}
GivesBytes (DropName directory stamp) = Unit {0}
GivesBytes (PutBytes file offset part) = All (λ byte. byte < 256) part
GivesBytes (SetSize file size) = Unit {0}

bytes_done : (edit : model.Edit) → GivesBytes edit → (tree : Tree) → AreBytes tree → AreBytes (done edit tree)
bytes_done (PutNode number node) puts tree are = bytes_with tree number node are puts
bytes_done (DropNode number) puts tree are = bytes_without tree number are
bytes_done (Show number shown) puts tree are = bytes_altered (showing shown) (λ node has. has) tree number are
bytes_done (PutName directory stamp entry) puts tree are = bytes_altered (name_put stamp entry) (λ node has. no_bytes) tree directory are
bytes_done (DropName directory stamp) puts tree are = bytes_altered (name_dropped stamp) (λ node has. no_bytes) tree directory are
bytes_done (PutBytes file offset part) puts tree are = bytes_altered (λ node. with_content node (File (overwritten (bytes_of node.content) offset part)))
    (λ node has. overwritten_bytes (bytes_of node.content) offset part has puts) tree file are
bytes_done (SetSize file size) puts tree are = bytes_altered (λ node. with_content node (File (resized (bytes_of node.content) size)))
    (λ node has. resized_bytes (bytes_of node.content) size has) tree file are

fresh_bytes : (of : NodeKind) (shown : model.Metadata) → HasBytes (fresh_node of shown).content
fresh_bytes kind.File shown = no_bytes
fresh_bytes kind.Directory shown = no_bytes

-- also after edits of the code, all of which put bytes
pub edited_bytes : (edits : List Edit) → PartsAreBytes edits → (tree : Tree) → AreBytes tree → AreBytes (edited (edits_of edits) tree)
edited_bytes [] parts tree are = are
edited_bytes (declared.PutNode number of shown ∷ edits) parts tree are =
    edited_bytes edits parts.1 _ (bytes_done (PutNode number (fresh_node of (metadata_of shown))) (fresh_bytes of (metadata_of shown)) tree are)
edited_bytes (declared.DropNode number ∷ edits) parts tree are = edited_bytes edits parts.1 _ (bytes_done (DropNode number) tt tree are)
edited_bytes (declared.Show number shown ∷ edits) parts tree are = edited_bytes edits parts.1 _ (bytes_done (Show number (metadata_of shown)) tt tree are)
edited_bytes (declared.PutName directory stamp name number ∷ edits) parts tree are =
    edited_bytes edits parts.1 _ (bytes_done (PutName directory stamp (record { name = name.now; number = number })) tt tree are)
edited_bytes (declared.DropName directory stamp name ∷ edits) parts tree are = edited_bytes edits parts.1 _ (bytes_done (DropName directory stamp) tt tree are)
edited_bytes (declared.PutBytes file offset bytes ∷ edits) parts tree are = edited_bytes edits parts.1 _ (bytes_done (PutBytes file offset bytes.now) parts.0 tree are)
edited_bytes (declared.SetSize file size ∷ edits) parts tree are = edited_bytes edits parts.1 _ (bytes_done (SetSize file size) tt tree are)

-- What a tree is, it is with zeros for the bytes of its files

pub above_blanked : (least : ℕ) (tree : Tree) → IsAbove least (without_data tree)
    → IsAbove least tree
above_blanked least [] above = tt
above_blanked least (entry ∷ rest) above = (above.0, above_blanked entry.0 rest above.1)

total_blanked : (worth : Node → ℕ) → ((node : Node) → worth (blank_node node) ≡ worth node) → (tree : Tree) → total worth (without_data tree) ≡ total worth tree
total_blanked worth same [] = refl
total_blanked worth same (entry ∷ rest) = ap₂ (λ (n m : ℕ). n + m) (same entry.1) (total_blanked worth same rest)

-- as the tree of only this node shows
node_names : (node : Node) → names_of (blank_node node).content ≡ names_of node.content
node_names node = names-without_data ((0, node) ∷ []) 0

links_blanked : (tree : Tree) (number : ℕ)
    → links_to (without_data tree) number ≡ links_to tree number
links_blanked tree number = total_blanked (links_from number) (λ node. ap (links_in number) (node_names node)) tree

stamped_blanked : (tree : Tree) (stamp : ℕ) → stamped_in (without_data tree) stamp ≡ stamped_in tree stamp
stamped_blanked tree stamp = total_blanked (is_stamped stamp) (λ node. ap (λ (names : Keyed DirEntry). one_if (is_key stamp names)) (node_names node)) tree

owed_blanked : (tree : Tree) (number : ℕ) → links_owed (without_data tree) number ≡ links_owed tree number
owed_blanked tree number = ap (λ (is : Bool). one_if (is && not (number == root))) (key-without_data tree number)

pub kind_blank : (content : Content) → kind_of (blank content) ≡ kind_of content
kind_blank (File bytes) = refl
kind_blank (Directory names) = refl

content_blank : (limits : Limits) (content : Content) → IsContent limits (blank content) → HasBytes content → IsContent limits content
content_blank limits (File bytes) is has = (has, (let small = is.1 in omega (arith, small, length-zeros (length bytes))))
content_blank limits (Directory names) is has = is

node_blank : (limits : Limits) (node : Node) → IsNode limits (blank_node node) → HasBytes node.content → IsNode limits node
node_blank limits node is has = record {
  entries = subst (λ (of : NodeKind). IsTrue (is_list_for limits.aces_set limits.aces of node.acl)) (kind_blank node.content) is.entries;
  content = content_blank limits node.content is.content has;
}

module _ (tree : Tree) where
  there_blanked : (number : ℕ) (node : Node) → at number tree ≡ Some node → at number (without_data tree) ≡ Some (blank_node node)
  there_blanked number node there = at-without_data tree number ∙ ap (λ (found : Option Node). option_map blank_node found) there

  module _ (limits : Limits) (are : AreBytes tree) where
    well_formed : IsWellFormed limits (without_data tree) → IsWellFormed limits tree
    well_formed well = record {
      numbered = above_blanked 0 tree well.numbered;
      rooted = subst IsTrue (directory-without_data tree root) well.rooted;
      linked = λ number. sym (links_blanked tree number) ∙ well.linked number ∙ owed_blanked tree number;
      reached = λ number key. from_more (without_data tree) tree
          (λ directory stamp entry has. ap (at stamp) (sym (names-without_data tree directory)) ∙ has) root number
          (well.reached number (subst IsTrue (sym (key-without_data tree number)) key));
      stamped = λ stamp. (let once = well.stamped stamp in omega (arith, once, stamped_blanked tree stamp));
      nodes = λ number node there. node_blank limits node (well.nodes number (blank_node node) (there_blanked number node there)) (are number node there);
      fitting = subst IsTrue (fits-without_data limits tree) well.fitting;
    }

  before : (stamp : ℕ) → IsBefore stamp (without_data tree) → IsBefore stamp tree
  before stamp is = record {
    number = λ number node there. is.number number (blank_node node) (there_blanked number node there);
    change = λ number node there. is.change number (blank_node node) (there_blanked number node there);
    entry = λ number node of entry there named.
        is.entry number (blank_node node) of entry (there_blanked number node there) (ap (at of) (node_names node) ∙ named);
  }

-- so what is known of it on any device, and its bytes, make it well formed
pub formed_sound : (limits : Limits) (stamp : ℕ) (tree : Tree) → IsFormed limits stamp tree → AreBytes tree → ∥ IsWellFormed limits tree ∥₁ × IsBefore stamp tree
formed_sound limits stamp tree formed are = (∥∥₁_map formed.well_formed (well_formed tree limits are), before tree stamp formed.before)
