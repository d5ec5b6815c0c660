-- The trees after each prefix of a list of edits, from the outline of cached nodes on.
use Rattle.std.proofs.Common.{◌≡◌, ◌≢◌, ◌≤◌, ◌<◌, ◌+◌, ◌⊎◌, ℕ, zero, suc, List, [], ◌∷◌, Option, Some, None, length, take, get_or, refl, sym, ap, ◌∙◌, arith, inl, inr, subst}
use Rattle.std.proofs.lemmas.Bool.{cases_eq}
use Rattle.std.proofs.Math.Seq.{take-length}
use Rattle.directory.specs.Listing.{by_stamp}
use Rattle.node_table.specs.Tables.{HasNoNode}
use Rattle.tree_transaction.proofs.KnownLaws.{cached_at}
use Rattle.tree_edits.specs.declared.edit.Edit.{Edit}
use Rattle.tree_edits.specs.declared.room.Size.{Size}
use Rattle.tree_edits.specs.Edits.{edit_of, edits_of}
use Rattle.tree_edits.specs.Measures.{CanMeasure, AreMeasurable}
use Rattle.tree_edits.specs.Outlines.{tree_without_data}
use Rattle.tree_edits.specs.Sizes.{size_of_content, size_there, size_at, charge_of_size, nodes_in, IsBelow, edited_number, resized_by}
use Rattle.tree_edits.proofs.KeyLaws.{Rises, rises_above}
use Rattle.tree_edits.proofs.PlaceLaws.{IsThere, there_is, no_number}
use Rattle.tree_edits.proofs.SizeLaws.{IsRising, behind, still_rising, charge_behind, nodes_behind}
use Rattle.layout.specs.CachedNodes.{CachedNode, node_of, content_of}
use Rattle.layout.specs.Known.{AreCached, HasContent}
use Rattle.layout.proofs.Changing.{tree-above}
use Rattle.layout.proofs.ChargeLaws.{length-by_stamp, above_by_stamp}
use Rattle.layout.proofs.StepLaws.{length-bytes_in}
use Rattle.model_tree.specs.declared.node.NodeKind.{NodeKind}
use Rattle.model_tree.specs.declared.node.NodeKind.TheVariants as kind
use Rattle.model_tree.specs.Trees.Charge.{charge}
use Rattle.model_tree.specs.Trees.Edit.{done, edited}
use Rattle.model_tree.specs.Trees.Keyed.{at, with, total}
use Rattle.model_tree.specs.Trees.Tree.{Tree, Node, names_of, names_at, names_of_node}
use Rattle.model_tree.proofs.Trees.KeyedLaws.{at-with_same, at-with_other}
use Rattle.directory.specs.declared.names.TheConstants.Names.{MAX_NAMES}

-- the tree after the first edits
abbrev pub behind_prefix : Tree → List Edit → ℕ → Tree
behind_prefix tree edits count = edited (edits_of (take count edits)) tree

-- the edit after a prefix can be measured, and makes the next tree
pub record IsNext (tree : Tree) (edits : List Edit) (count : ℕ) (edit : Edit) : Type 0 where
  pub can : CanMeasure (behind_prefix tree edits count) edit
  pub next : behind_prefix tree edits (suc count) ≡ done (edit_of edit) (behind_prefix tree edits count)

take_none : (edits : List Edit) → take 0 edits ≡ []
take_none [] = refl
take_none (edit ∷ edits) = refl

pub is_next : (tree : Tree) (edits : List Edit) (count : ℕ) (edit : Edit) → AreMeasurable tree edits → count < length edits → edit ≡ get_or edits count edit → IsNext tree edits count edit
is_next tree [] count edit can within is = absurd (omega (arith, within))
is_next tree (first ∷ edits) zero edit can within is = record {
  can = subst (CanMeasure tree) (sym is) can.0;
  next = ap (λ (rest : List Edit). edited (edits_of rest) (done (edit_of first) tree)) (take_none edits) ∙ ap (λ (e : Edit). done (edit_of e) tree) (sym is);
}
is_next tree (first ∷ edits) (suc count) edit can within is =
    let it = is_next (done (edit_of first) tree) edits count edit can.1 (omega (arith, within)) is in
    record { can = it.can; next = it.next }

-- the first edits are measurable
pub measurable_prefix : (tree : Tree) (edits : List Edit) (count : ℕ) → AreMeasurable tree edits → AreMeasurable tree (take count edits)
measurable_prefix tree [] zero can = tt
measurable_prefix tree [] (suc count) can = tt
measurable_prefix tree (edit ∷ edits) zero can = tt
measurable_prefix tree (edit ∷ edits) (suc count) can = (can.0, measurable_prefix (done (edit_of edit) tree) edits count can.1)

pub rising_behind : (tree : Tree) (edits : List Edit) → AreMeasurable tree edits → IsRising tree → IsRising (edited (edits_of edits) tree)
rising_behind tree [] can rising = rising
rising_behind tree (edit ∷ edits) can rising = rising_behind (done (edit_of edit) tree) edits can.1 (still_rising tree edit can.0 rising)

pub below_more : (most more : ℕ) (size : Option Size) → most ≤ more → IsBelow most size → IsBelow more size
below_more most more None low below = tt
below_more most more (Some size) low below = omega (arith, low, below)

-- all of them are the last prefix
pub behind_all : (tree : Tree) (edits : List Edit) (count : ℕ) → count ≡ length edits → behind_prefix tree edits count ≡ edited (edits_of edits) tree
behind_all tree edits count all = ap (behind_prefix tree edits) all ∙ ap (λ (prefix : List Edit). edited (edits_of prefix) tree) (take-length edits)

-- One more edit

module _ (tree : Tree) (edits : List Edit) (can : AreMeasurable tree edits) (rising : IsRising tree) (count : ℕ) (edit : Edit) (within : count < length edits) (is : edit ≡ get_or edits count edit) where
  prefix : Tree
  prefix = behind_prefix tree edits count

  next : IsNext tree edits count edit
  next = is_next tree edits count edit can within is

  rising_prefix : IsRising (behind_prefix tree edits count)
  rising_prefix = rising_behind tree (take count edits) (measurable_prefix tree edits count can) rising

  next_tree : behind_prefix tree edits (count + 1) ≡ done (edit_of edit) (behind_prefix tree edits count)
  next_tree = ap (behind_prefix tree edits) (let e : count + 1 ≡ suc count = omega arith in e) ∙ next.next

  pub size_same : (number : ℕ) → edited_number edit ≡ number → size_at (behind_prefix tree edits (count + 1)) number ≡ resized_by edit (size_at (behind_prefix tree edits count) number)
  size_same number same =
      let it = behind (behind_prefix tree edits count) edit next.can rising_prefix in
      ap (λ (t : Tree). size_at t number) next_tree
      ∙ subst (λ (n : ℕ). size_at (done (edit_of edit) (behind_prefix tree edits count)) n ≡ resized_by edit (size_at (behind_prefix tree edits count) n)) same it.size

  pub size_other : (number : ℕ) → edited_number edit ≢ number → size_at (behind_prefix tree edits (count + 1)) number ≡ size_at (behind_prefix tree edits count) number
  size_other number off =
      let it = behind (behind_prefix tree edits count) edit next.can rising_prefix in
      ap (λ (t : Tree). size_at t number) next_tree ∙ ap size_there (it.one.other number (λ e. off (sym e)))

  module _ (number : ℕ) (before after : Option Size) (same : number ≡ edited_number edit) (was : before ≡ size_at (behind_prefix tree edits count) number) (now : after ≡ resized_by edit before) where
    before_is : before ≡ size_at (behind_prefix tree edits count) (edited_number edit)
    before_is = was ∙ ap (size_at (behind_prefix tree edits count)) same

    pub charge_next : total charge (behind_prefix tree edits (count + 1)) + charge_of_size before ≡ total charge (behind_prefix tree edits count) + charge_of_size after
    charge_next = omega (
      arith,
      charge_behind (behind_prefix tree edits count) edit next.can rising_prefix,
      ap (total charge) next_tree,
      ap charge_of_size before_is,
      ap charge_of_size (now ∙ ap (resized_by edit) before_is),
    )

    pub nodes_next : length (behind_prefix tree edits (count + 1)) + nodes_in before ≡ length (behind_prefix tree edits count) + nodes_in after
    nodes_next = omega (
      arith,
      nodes_behind (behind_prefix tree edits count) edit next.can rising_prefix,
      ap (λ (t : Tree). length t) next_tree,
      ap nodes_in before_is,
      ap nodes_in (now ∙ ap (resized_by edit) before_is),
    )

-- the number is that of one of the edits
pub record IsTouched (edits : List Edit) (number : ℕ) : Type 0 where
  pub place : ℕ
  pub within : place < length edits
  pub edit : Edit
  pub same : edited_number (get_or edits place edit) ≡ number

-- what no edit changes stays
pub touched : (tree : Tree) (edits : List Edit) (number : ℕ) → AreMeasurable tree edits → IsRising tree → IsTouched edits number ⊎ (at number (edited (edits_of edits) tree) ≡ at number tree)
touched tree [] number can rising = inr refl
touched tree (edit ∷ edits) number can rising =
    by_first (touched (done (edit_of edit) tree) edits number can.1 (still_rising tree edit can.0 rising)) (cases_eq number (edited_number edit))
  where
    by_first : IsTouched edits number ⊎ (at number (edited (edits_of edits) (done (edit_of edit) tree)) ≡ at number (done (edit_of edit) tree))
        → (number ≡ edited_number edit) ⊎ (number ≢ edited_number edit) → IsTouched (edit ∷ edits) number ⊎ (at number (edited (edits_of edits) (done (edit_of edit) tree)) ≡ at number tree)
    by_first (inl it) same = inl (record { place = suc it.place; within = omega (arith, it.within); edit = it.edit; same = it.same })
    by_first (inr stays) (inl same) = inl (record { place = 0; within = omega arith; edit = edit; same = sym same })
    by_first (inr stays) (inr off) = (let it = behind tree edit can.0 rising in inr (stays ∙ it.one.other number off))

-- so each directory has few names if those that an edit changes do
pub few_numbers : (tree : Tree) (edits : List Edit) (most : ℕ) → AreMeasurable tree edits → IsRising tree → ((number : ℕ) → length (names_at tree number) ≤ most)
    → ((place : ℕ) (edit : Edit) → place < length edits → length (names_at (edited (edits_of edits) tree) (edited_number (get_or edits place edit))) ≤ most)
    → (number : ℕ) → length (names_at (edited (edits_of edits) tree) number) ≤ most
few_numbers tree edits most can rising low each number = by_edit (touched tree edits number can rising)
  where
    by_edit : IsTouched edits number ⊎ (at number (edited (edits_of edits) tree) ≡ at number tree) → length (names_at (edited (edits_of edits) tree) number) ≤ most
    by_edit (inl it) = subst (λ (n : ℕ). length (names_at (edited (edits_of edits) tree) n) ≤ most) it.same (each it.place it.edit it.within)
    by_edit (inr stays) = omega (arith, low number, ap (λ (found : Option Node). length (names_of_node found)) stays)

-- The outline of cached nodes

module _ (nodes : ℕ) (mark : ℕ → ℕ) (cached_nodes : List (Option CachedNode)) (known : AreCached nodes mark cached_nodes) where
  content_size : (of : NodeKind) (cached_node : CachedNode) → HasContent of cached_node → size_of_content (content_of (λ n. []) of cached_node) ≡ record { kind = of; count = cached_node.fields.size }
  content_size kind.File cached_node has = ap (λ (n : ℕ). let size : Size = record { kind = kind.File; count = n } in size) (length-bytes_in (λ n. []) cached_node.blocks cached_node.fields.size)
  content_size kind.Directory cached_node has =
      ap (λ (n : ℕ). let size : Size = record { kind = kind.Directory; count = n } in size) (length-by_stamp cached_node.names has.stamped ∙ has.count)

  -- a node there has what its cached node says
  pub size_there_is : (place number : ℕ) (it : IsThere cached_nodes place number) → size_at (tree_without_data cached_nodes) number ≡ Some (record { kind = it.cached.fields.kind; count = it.cached.fields.size })
  unfolding node_of
  size_there_is place number it =
      let is = cached_at nodes mark cached_nodes place it.cached known it.there in
      ap size_there (there_is cached_nodes known.apart place number it)
      ∙ ap (λ (size : Size). Some size) (content_size it.cached.fields.kind it.cached is.content)

  pub size_nowhere : (number : ℕ) → HasNoNode cached_nodes number
      → size_at (tree_without_data cached_nodes) number ≡ None
  size_nowhere number has_not = ap size_there (no_number cached_nodes number has_not)

-- what holds for the node of each cached node holds for each node
each_node : (P : Node → Type 0) (cached_nodes : List (Option CachedNode)) → ((place : ℕ) (cached_node : CachedNode) → get_or cached_nodes place None ≡ Some cached_node → P (node_of (λ n. []) cached_node))
    → (number : ℕ) (node : Node) → at number (tree_without_data cached_nodes) ≡ Some node → P node
each_node P [] each number node is = absurd cc
each_node P (None ∷ cached_nodes) each number node is = each_node P cached_nodes (λ place cached_node there. each (suc place) cached_node there) number node is
each_node P (Some cached_node ∷ cached_nodes) each number node is =
    by_number (each_node P cached_nodes (λ place cached_node there. each (suc place) cached_node there) number node) (cases_eq number cached_node.fields.number)
  where
    some_is : {x y : Node} → (let one : Option Node = Some x in one ≡ Some y) → x ≡ y
    some_is e = cc

    by_number : (at number (tree_without_data cached_nodes) ≡ Some node → P node) → (number ≡ cached_node.fields.number) ⊎ (number ≢ cached_node.fields.number) → P node
    by_number others (inl same) = subst P (some_is (sym (at-with_same (tree_without_data cached_nodes) cached_node.fields.number (node_of (λ n. []) cached_node))
        ∙ ap (λ (n : ℕ). at n (with (tree_without_data cached_nodes) cached_node.fields.number (node_of (λ n. []) cached_node))) (sym same) ∙ is)) (each 0 cached_node refl)
    by_number others (inr off) = others (sym (at-with_other (tree_without_data cached_nodes) cached_node.fields.number number (node_of (λ n. []) cached_node) off) ∙ is)

-- a directory's names rise, and are at most MAX_NAMES
record HasFewNames (node : Node) : Type 0 where
  rising : Rises (names_of node.content)
  few : length (names_of node.content) ≤ MAX_NAMES

module _ (nodes : ℕ) (mark : ℕ → ℕ) (cached_nodes : List (Option CachedNode)) (known : AreCached nodes mark cached_nodes) where
  content_rising : (of : NodeKind) (cached_node : CachedNode) → HasContent of cached_node → Rises (names_of (content_of (λ n. []) of cached_node))
  content_rising kind.File cached_node has = tt
  content_rising kind.Directory cached_node has = rises_above (by_stamp cached_node.names) 0 (above_by_stamp cached_node.names has.stamped)

  content_few : (of : NodeKind) (cached_node : CachedNode) → HasContent of cached_node → length (names_of (content_of (λ n. []) of cached_node)) ≤ MAX_NAMES
  content_few kind.File cached_node has = omega arith
  content_few kind.Directory cached_node has = (let names = has.names in omega (arith, length-by_stamp cached_node.names has.stamped, names.few))

  cached_few : (place : ℕ) (cached_node : CachedNode) → get_or cached_nodes place None ≡ Some cached_node → HasFewNames (node_of (λ n. []) cached_node)
  unfolding node_of
  cached_few place cached_node there =
      let is = cached_at nodes mark cached_nodes place cached_node known there in
      record { rising = content_rising cached_node.fields.kind cached_node is.content; few = content_few cached_node.fields.kind cached_node is.content }

  pub rising_outline : IsRising (tree_without_data cached_nodes)
  rising_outline = record {
    rises = rises_above (tree_without_data cached_nodes) 0 (tree-above (λ n. []) cached_nodes (λ place cached_node there. let is = cached_at nodes mark cached_nodes place cached_node known there in is.number));
    names = λ number. by_node number (at number (tree_without_data cached_nodes)) refl;
  }
    where
      by_node : (number : ℕ) (found : Option Node) → at number (tree_without_data cached_nodes) ≡ found → Rises (names_of_node found)
      by_node number None is = tt
      by_node number (Some node) is = (let it = each_node HasFewNames cached_nodes cached_few number node is in it.rising)

  pub few_outline : (number : ℕ) → length (names_at (tree_without_data cached_nodes) number) ≤ MAX_NAMES
  few_outline number = by_node (at number (tree_without_data cached_nodes)) refl
    where
      by_node : (found : Option Node) → at number (tree_without_data cached_nodes) ≡ found → length (names_of_node found) ≤ MAX_NAMES
      by_node None is = omega arith
      by_node (Some node) is = (let it = each_node HasFewNames cached_nodes cached_few number node is in it.few)
