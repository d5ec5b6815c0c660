-- The result of a transaction that was begun, edited and finished.
use Rattle.std.proofs.Common.{◌≡◌, ◌≤◌, ◌+◌, ℕ, Bool, List, [], Option, length, refl, sym, ap, ap₂, ◌∙◌, arith, subst}
use Rattle.disk.specs.Moments.{Image, applied}
use Rattle.disk.specs.declared.update.Update.{Update}
use Rattle.tree_transaction.specs.declared.transaction.Transaction.{Transaction}
use Rattle.tree_transaction.specs.declared.transaction.PreparedTransaction.{PreparedTransaction}
use Rattle.tree_transaction.specs.Transactions.{cached_nodes_of, end_of, image_of, IsTransaction}
use Rattle.tree_transaction.specs.Updates.{AreTreeUpdates}
use Rattle.tree_transaction.specs.Whole.{AreMarked, IsWhole, Finishes, bitmap_sectors}
use Rattle.tree_transaction.proofs.WholeLaws.{marked_by}
use Rattle.tree_edits.specs.declared.edit.Edit.{Edit}
use Rattle.tree_edits.specs.Doing.{AreMade, DoesEdits, made_by}
use Rattle.tree_edits.specs.Edits.{edits_of}
use Rattle.tree_edits.specs.Outcomes.{ComesTo, IsVersionOf, IsWholeVolume, LaysEditedTree, cached_nodes_after, end_by}
use Rattle.tree_edits.specs.Outlines.{without_data, tree_without_data}
use Rattle.tree_edits.specs.Parts.{PartsAreBytes}
use Rattle.layout.specs.CachedNodes.{CachedNode}
use Rattle.layout.specs.CachedNodes as layout
use Rattle.layout.specs.Known.{AreCached}
use Rattle.layout.specs.Laid.{AreLaid}
use Rattle.layout.specs.Marks.{mark_by}
use Rattle.layout.specs.declared.versions.Marking.{Marking}
use Rattle.layout.specs.declared.versions.Marking.TheVariants.{InSectors, AsNamed}
use Rattle.layout.specs.Stands as stands
use Rattle.layout.specs.Stands.{Version, HasRegion, HaveCurrentForms, IsLaid}
use Rattle.model_tree.specs.Trees.Edit.{edited}

-- a transaction that has not yet changed a table and its places
pub record IsBegun (transaction : Transaction) (table : List (Option CachedNode))
    (places : List Bool) : Type 0 where
  pub no_updates : transaction.updates ≡ []
  pub nodes_are : transaction.nodes ≡ length table
  pub places_are : transaction.places ≡ places
  pub cached_nodes_are : cached_nodes_of transaction ≡ table

-- cached nodes that are laid are laid under any other set of marks that is what they name
laid_by : (nodes : ℕ) (image : Image) (mark marked : ℕ → ℕ) (cached_nodes : List (Option CachedNode)) → AreLaid nodes image mark cached_nodes → AreCached nodes marked cached_nodes → AreLaid nodes image marked cached_nodes
laid_by nodes image mark marked cached_nodes laid known = record {
  count = laid.count;
  held = laid.held;
  apart = laid.apart;
  marks = known.marks;
  behind = known.behind;
  once = known.once;
}

-- what sectors mark is what places mark, if there is a bitmap
marked_on : (marking : Marking) (nodes : ℕ) (base : Image) (places : List Bool) (cached_nodes : List (Option CachedNode)) → (marking ≡ InSectors → length places ≤ 65536)
    → AreLaid nodes base (stands.marked_by marking nodes base cached_nodes) cached_nodes → AreCached nodes (mark_by (148 + nodes) places) cached_nodes → AreMarked marking base places
marked_on InSectors nodes base places cached_nodes few read known = marked_by nodes base places (few refl) (λ n. sym (read.marks n) ∙ known.marks n)
marked_on AsNamed nodes base places cached_nodes few read known = tt

module _ (marking : Marking) (size : ℕ) (table : List (Option CachedNode)) (places : List Bool) (whole : IsWholeVolume marking size table places) (transaction : Transaction) (begun : IsBegun transaction table places) where
  end_is : end_of transaction ≡ end_by table places
  end_is = omega (arith, begun.nodes_are, ap (λ (l : List Bool). length l) begun.places_are)

  -- what holds of the volume's cached nodes and places holds of the transaction's
  of_transaction : (P : ℕ → List Bool → List (Option CachedNode) → Type 0) → P (length table) places table → P transaction.nodes transaction.places (cached_nodes_of transaction)
  of_transaction P holds =
      subst (λ (n : ℕ). P n transaction.places (cached_nodes_of transaction)) (sym begun.nodes_are)
      (subst (λ (l : List Bool). P (length table) l (cached_nodes_of transaction)) (sym begun.places_are)
      (subst (λ (l : List (Option CachedNode)). P (length table) places l) (sym begun.cached_nodes_are)
      holds))

  module _ (word : Type 0) (base : Image) (edits : List Edit) (mid last : Transaction)
      (outcome : PreparedTransaction)
      (does : DoesEdits word base size transaction mid edits) (finishes : Finishes marking places mid last) (same : cached_nodes_of last ≡ cached_nodes_of mid)
      (cached_nodes_are : cached_nodes_after table outcome ≡ cached_nodes_of last) (updates_are : outcome.updates.items ≡ last.updates) (places_are : outcome.places ≡ mid.places) where
    after : cached_nodes_after table outcome ≡ cached_nodes_of mid
    after = cached_nodes_are ∙ same

    nodes_are : mid.nodes ≡ length table
    nodes_are = does.known.nodes ∙ begun.nodes_are

    as_many : length mid.places ≡ length places
    as_many = does.known.places ∙ ap (λ (l : List Bool). length l) begun.places_are

    forms : HaveCurrentForms (cached_nodes_of mid)
    forms = does.forms (subst HaveCurrentForms (sym begun.cached_nodes_are) whole.forms)

    cached_nodes : AreCached (length table) (mark_by (148 + length table) outcome.places) (cached_nodes_after table outcome)
    cached_nodes =
        subst (λ (l : List (Option CachedNode)). AreCached (length table) (mark_by (148 + length table) outcome.places) l) (sym after)
        (subst (λ (l : List Bool). AreCached (length table) (mark_by (148 + length table) l) (cached_nodes_of mid)) (sym places_are)
        (subst (λ (n : ℕ). AreCached n (mark_by (148 + n) mid.places) (cached_nodes_of mid)) nodes_are (let known = does.known.known in known.cached_nodes)))

    -- the transaction over sectors that hold the volume

    begun_image : image_of base transaction ≡ base
    begun_image = ap (λ (l : List Update). applied l base) begun.no_updates

    begun_transaction : (version : Version) → IsLaid version size (length table) base table → IsTransaction base size transaction
    begun_transaction version laid = record {
      laid = of_transaction (λ nodes marked cached_nodes. AreLaid nodes (image_of base transaction) (mark_by (148 + nodes) marked) cached_nodes)
          (subst (λ (image : Image). AreLaid (length table) image (mark_by (148 + length table) places) table) (sym begun_image)
          (laid_by (length table) base _ _ table laid.laid whole.cached_nodes));
      within = omega (arith, end_is, whole.within);
      small = whole.small;
    }

    is_whole : (version : Version) → IsVersionOf marking size table places version → IsLaid version size (length table) base table → IsWhole version base size mid
    is_whole version of laid = record {
      region = subst (HasRegion version size) (sym nodes_are) of.region;
      end_is = omega (arith, of.end_is, nodes_are, as_many);
      few = λ in_sectors. let few = whole.few (sym of.marks ∙ in_sectors) in omega (arith, few, as_many);
      forms = λ place cached there. forms place cached there ∙ sym (of.forms place);
      spare = laid.spare;
    }

    -- the sectors mark what the table's cached nodes name, and so do the places
    is_marked : (version : Version) → IsVersionOf marking size table places version → IsLaid version size (length table) base table → AreMarked marking base places
    is_marked version of laid = marked_on marking (length table) base places table whole.few
        (subst (λ (m : Marking). AreLaid (length table) base (stands.marked_by m (length table) base table) table) of.marks laid.laid) whole.cached_nodes

    image_is : applied outcome.updates.items base ≡ image_of base last
    image_is = ap (λ (l : List Update). applied l base) updates_are

    lays : word → (version : Version) → IsVersionOf marking size table places version → IsLaid version size (length table) base table → LaysEditedTree version base size table edits outcome
    lays keeps version of laid =
        let edited_tree = does.tree keeps (begun_transaction version laid) in
        let left = finishes version base size of.marks edited_tree.0 (is_whole version of laid) (is_marked version of laid) in
        record {
          laid =
              subst (λ (image : Image). IsLaid version size (length table) image (cached_nodes_after table outcome)) (sym image_is)
              (subst (λ (l : List (Option CachedNode)). IsLaid version size (length table) (image_of base last) l) (sym after)
              (subst (λ (n : ℕ). IsLaid version size n (image_of base last) (cached_nodes_of mid)) nodes_are left.laid));
          tree_is =
              ap₂ layout.tree_of image_is cached_nodes_are ∙ left.tree_is ∙ edited_tree.1
              ∙ ap (edited (edits_of edits)) (ap₂ layout.tree_of begun_image begun.cached_nodes_are);
        }

    pub comes_to : AreTreeUpdates (end_of mid) last.updates → length last.updates ≤ length mid.updates + bitmap_sectors marking → PartsAreBytes edits → ComesTo word marking base size table places edits outcome
    comes_to targets count parts = record {
      cached_nodes = cached_nodes;
      as_many = ap (λ (l : List Bool). length l) places_are ∙ as_many;
      outline = ap tree_without_data after ∙ does.outline ∙ ap (λ (l : List (Option CachedNode)). without_data (edited (edits_of edits) (tree_without_data l))) begun.cached_nodes_are;
      forms = subst HaveCurrentForms (sym after) forms;
      made = subst (λ (l : List (Option CachedNode)). AreMade table l (made_by edits)) (sym after)
          (subst (λ (l : List (Option CachedNode)). AreMade l (cached_nodes_of mid) (made_by edits)) begun.cached_nodes_are does.made);
      targets = subst (λ (l : List Update). AreTreeUpdates (end_by table places) l) (sym updates_are)
          (subst (λ (n : ℕ). AreTreeUpdates n last.updates) (omega (arith, nodes_are, as_many)) targets);
      count = omega (arith, count, does.count, ap (λ (l : List Update). length l) begun.no_updates, ap (λ (l : List Update). length l) updates_are);
      bytes = parts;
      lays = lays;
    }
