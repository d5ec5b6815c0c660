-- The effects of edits on a transaction.
use Rattle.std.specs.Prelude.{◌≡◌, ◌≤◌, ◌+◌, ◌/◌, ◌%◌, ◌⊎◌, ℕ, ⊤, List, [], ◌∷◌, Option, Some}
use Rattle.std.specs.Prelude.{length, take}
use Rattle.std.specs.List.{IsAmong}
use Rattle.disk.specs.Moments.{Image}
use Rattle.node_table.specs.Tables.{node_number_at}
use Rattle.tree_transaction.specs.declared.transaction.Transaction.{Transaction}
use Rattle.tree_transaction.specs.Transactions.{cached_nodes_of, end_of, changed_tree, IsKnown, IsTransaction, StaysKnown}
use Rattle.tree_edits.specs.declared.edit.Edit.{Edit}
use Rattle.tree_edits.specs.declared.edit.Edit.TheVariants as declared
use Rattle.tree_edits.specs.Edits.{edits_of, AreDoable, StayFew}
use Rattle.tree_edits.specs.Outlines.{without_data, tree_without_data}
use Rattle.tree_edits.specs.Parts.{PartsAreBytes}
use Rattle.layout.specs.CachedNodes.{CachedNode}
use Rattle.layout.specs.Stands.{HaveCurrentForms}
use Rattle.model_tree.specs.Trees.Charge.{charge}
use Rattle.model_tree.specs.Trees.Edit.{edited}
use Rattle.model_tree.specs.Trees.Keyed.{total}
use Rattle.model_tree.specs.Trees.Tree.{Tree}

-- the numbers of nodes that edits make
abbrev pub made_by : List Edit → List ℕ
made_by [] = []
made_by (declared.PutNode number kind metadata ∷ edits) = number ∷ made_by edits
made_by (declared.DropNode number ∷ edits) = made_by edits
made_by (declared.Show number metadata ∷ edits) = made_by edits
made_by (declared.PutName directory stamp name number ∷ edits) = made_by edits
made_by (declared.DropName directory stamp name ∷ edits) = made_by edits
made_by (declared.PutBytes file offset bytes ∷ edits) = made_by edits
made_by (declared.SetSize file size ∷ edits) = made_by edits

-- each node is at a place that had its number before, or has one of these numbers
abbrev pub AreMade : (old new : List (Option CachedNode)) → (numbers : List ℕ) → Type 0
AreMade old new numbers = (place number : ℕ) → node_number_at new place ≡ Some number
    → (node_number_at old place ≡ Some number) ⊎ IsAmong numbers number

-- how many updates edits make at most
abbrev pub updates_of : Edit → ℕ
updates_of (declared.PutNode number kind metadata) = 1
updates_of (declared.DropNode number) = 1
updates_of (declared.Show number metadata) = 1
updates_of (declared.PutName directory stamp name number) = 4
updates_of (declared.DropName directory stamp name) = 4
updates_of (declared.PutBytes file offset bytes) =
    (offset % 4096 + length bytes.now + 4095) / 4096 + 10
updates_of (declared.SetSize file size) = 11

abbrev pub updates_of_all : List Edit → ℕ
updates_of_all [] = 0
updates_of_all (edit ∷ edits) = updates_of edit + updates_of_all edits

-- Edits are performed: what is known of the transaction stays known, on any device, and its outline
-- is that of the tree with the edits; if the sectors keep their word, the transaction's tree is
-- that tree.
pub record DoesEdits (word : Type 0) (base : Image) (size : ℕ) (old new : Transaction)
    (edits : List Edit)
    : Type 0 where
  pub known : StaysKnown old new
  pub outline : tree_without_data (cached_nodes_of new)
      ≡ without_data (edited (edits_of edits) (tree_without_data (cached_nodes_of old)))
  pub forms : HaveCurrentForms (cached_nodes_of old) → HaveCurrentForms (cached_nodes_of new)
  pub made : AreMade (cached_nodes_of old) (cached_nodes_of new) (made_by edits)
  pub tree : word → IsTransaction base size old → IsTransaction base size new
      × (changed_tree base new ≡ edited (edits_of edits) (changed_tree base old))
  pub count : length new.updates ≤ length old.updates + updates_of_all edits

-- Edits can be performed in order, over `size` sectors.
pub record CanDoAll (size : ℕ) (transaction : Transaction) (edits : List Edit) : Type 0 where
  pub known : IsKnown transaction
  pub within : end_of transaction ≤ size
  pub forms : HaveCurrentForms (cached_nodes_of transaction)
  pub can : AreDoable (tree_without_data (cached_nodes_of transaction)) edits
  pub few : StayFew (tree_without_data (cached_nodes_of transaction)) edits

-- such edits are performed
pub record DoesAll (word : Type 0) (base : Image) (size : ℕ) (old new : Transaction)
    (edits : List Edit)
    : Type 0 where
  pub does : DoesEdits word base size old new edits
  pub parts : PartsAreBytes edits

-- an edit that reads nothing is performed over any base
abbrev pub DoesAnywhere : (old new : Transaction) → Edit → Type 0
DoesAnywhere old new edit = (base : Image) (size : ℕ) → DoesEdits ⊤ base size old new (edit ∷ [])

-- the charges are at most `sectors`, and the nodes at most `places`
pub record FitsOn (sectors places : ℕ) (tree : Tree) : Type 0 where
  pub charge : total charge tree ≤ sectors
  pub nodes : length tree ≤ places

-- there is no room for the tree after the first `count` edits
pub record Overfills (transaction : Transaction) (edits : List Edit) : Type 0 where
  pub count : ℕ
  pub within : count ≤ length edits
  pub full : FitsOn (length transaction.places) transaction.nodes
      (edited (take count (edits_of edits)) (tree_without_data (cached_nodes_of transaction))) → ⊥
