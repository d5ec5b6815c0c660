-- What the edits of a change do to the room of a tree: a node that shows something else takes as much, what is dropped takes none, and a name or a size that is put takes some.
use Rattle.std.proofs.Common.{◌≡◌, ◌≤◌, ◌&&◌, ℕ, Bool, true, false, [], ◌∷◌, Option, Some, None, length, eqb, ltb, refl, sym, ap, ap₂, ◌∙◌, arith, inl, inr}
use Rattle.std.specs.Prelude.{IsTrue}
use Rattle.std.proofs.lemmas.Bool.{cases_eq, le-leb}
use Rattle.std.proofs.lemmas.Option.{same_Some}
use Rattle.tree_edits.specs.Outlines.{without_data}
use Rattle.tree_edits.proofs.NamedLaws.{few-at}
use Rattle.model_tree.specs.declared.limits.Limits.{Limits}
use Rattle.model_tree.specs.Trees.Charge.{blocks, charge, charge_of_blocks, fits}
use Rattle.model_tree.specs.Trees.Edit.{Metadata, Show, DropName, DropNode, PutName, SetSize, done, name_dropped, name_put, showing, altered, altered_at, with_content, resized}
use Rattle.model_tree.specs.Trees.Keyed.{Keyed, at, with, without, kept_or_not, before_or_behind, in_place_of, total, worth_at, IsAbove}
use Rattle.model_tree.specs.Trees.Tree.{Tree, Node, Content, DirEntry, File, Directory, bytes_of, names_of, is_directory, is_directory_at, is_directory_node}
use Rattle.model_tree.proofs.Trees.KeyedLaws.{at-with_same, at-with_other, at-without_same, at-without_other, at-above, some≢none, IsAbove-with, IsAbove-without, total-with, total-without}
use Rattle.model_tree.proofs.Trees.KeyedParts.{total-ones}
use Rattle.tree_check.proofs.FitLaws.{few-from}
use Rattle.volume.proofs.EditLaws.{DoesFit, fit_parts}

-- A tree fits if it has what one needs

fit_of : (limits : Limits) (tree : Tree) → DoesFit limits tree → IsTrue (fits limits tree)
unfolding fits
fit_of limits tree is =
    ap₂ (λ (a b : Bool). a && b) (le-leb (total charge tree) limits.data_sectors is.charge)
    (ap₂ (λ (a b : Bool). a && b) (le-leb (length tree) limits.nodes is.nodes) is.few)

both : (a b : Bool) → (IsTrue a → IsTrue b) → (IsTrue b → IsTrue a) → b ≡ a
both true b on back = on refl
both false true on back = sym (back refl)
both false false on back = refl

-- Nodes are counted by a sum too
abbrev worth : Node → ℕ
worth node = 1

-- A node in place of another one

module _ (tree : Tree) (number : ℕ) (node old : Node) (above : IsAbove 0 tree) (there : at number tree ≡ Some old) where
  abbrev replaced : Tree
  replaced = with tree number node

  pub above_then : IsAbove 0 replaced
  above_then = IsAbove-with tree number 0 node above (at-above tree 0 number old above there)

  length_then : length replaced ≡ length tree
  length_then = omega (arith, total-with worth tree number 0 node above, ap (worth_at worth) there, total-ones replaced, total-ones tree)

  -- one that takes no more, and has no more names
  pub replaced_room : (limits : Limits) → charge node ≤ charge old → length (names_of node.content) ≤ length (names_of old.content)
      → IsTrue (fits limits tree) → IsTrue (fits limits replaced)
  replaced_room limits less fewer fit =
      let was = fit_parts limits tree fit in
      let charged = was.charge in
      let nodes = was.nodes in
      fit_of limits replaced (record {
        charge = omega (arith, charged, less, total-with charge tree number 0 node above, ap (worth_at charge) there);
        nodes = omega (arith, nodes, length_then);
        few = few-from limits.names 0 replaced above_then (λ n other is. elim (cases_eq n number) [
          | inl same ↦
              let it : node ≡ other = same_Some node other (sym (at-with_same tree number node) ∙ ap (λ (k : ℕ). at k replaced) (sym same) ∙ is) in
              let here = few-at limits.names tree number old was.few there in
              let count : length (names_of other.content) ≡ length (names_of node.content) = ap (λ (x : Node). length (names_of x.content)) (sym it) in
              omega (arith, here, fewer, count)
          | inr apart ↦ few-at limits.names tree n other was.few (sym (at-with_other tree number n node apart) ∙ is)
        ]);
      })

  -- one that takes no less, and has no fewer names
  pub replaced_room_back : (limits : Limits) → charge old ≤ charge node → length (names_of old.content) ≤ length (names_of node.content)
      → IsTrue (fits limits replaced) → IsTrue (fits limits tree)
  replaced_room_back limits less fewer fit =
      let was = fit_parts limits replaced fit in
      let charged = was.charge in
      let nodes = was.nodes in
      fit_of limits tree (record {
        charge = omega (arith, charged, less, total-with charge tree number 0 node above, ap (worth_at charge) there);
        nodes = omega (arith, nodes, length_then);
        few = few-from limits.names 0 tree above (λ n other is. elim (cases_eq n number) [
          | inl same ↦
              let it : old ≡ other = same_Some old other (sym there ∙ ap (λ (k : ℕ). at k tree) (sym same) ∙ is) in
              let here = few-at limits.names replaced number node was.few (at-with_same tree number node) in
              let count : length (names_of other.content) ≡ length (names_of old.content) = ap (λ (x : Node). length (names_of x.content)) (sym it) in
              omega (arith, here, fewer, count)
          | inr apart ↦ few-at limits.names replaced n other was.few (at-with_other tree number n node apart ∙ is)
        ]);
      })

-- A node that is changed, if there is one

module _ (change : Node → Node) (tree : Tree) (number : ℕ) (above : IsAbove 0 tree) where
  above_by : (found : Option Node) → at number tree ≡ found → IsAbove 0 (altered_at change tree number found)
  above_by None is = above
  above_by (Some old) is = above_then tree number (change old) old above is

  pub above_altered : IsAbove 0 (altered change tree number)
  above_altered = above_by (at number tree) refl

-- Show

pub above_metadata : (tree : Tree) (number : ℕ) (metadata : Metadata) → IsAbove 0 tree → IsAbove 0 (done (Show number metadata) tree)
above_metadata tree number metadata above = above_altered (showing metadata) tree number above

pub show_room : (limits : Limits) (tree : Tree) (number : ℕ) (metadata : Metadata) → IsAbove 0 tree → fits limits (done (Show number metadata) tree) ≡ fits limits tree
show_room limits tree number metadata above = by_node (at number tree) refl
  where
    by_node : (found : Option Node) → at number tree ≡ found → fits limits (altered_at (showing metadata) tree number found) ≡ fits limits tree
    by_node None is = refl
    by_node (Some old) is = both (fits limits tree) (fits limits (with tree number (showing metadata old)))
        (replaced_room tree number (showing metadata old) old above is limits (omega arith) (omega arith))
        (replaced_room_back tree number (showing metadata old) old above is limits (omega arith) (omega arith))

-- Names that are dropped

length-less : {A : Type 0} (entries : Keyed A) (key : ℕ) → length (without entries key) ≤ length entries
length-less [] key = omega arith
length-less (entry ∷ rest) key = by_key (length-less rest key) (eqb key entry.0)
  where
    by_key : length (without rest key) ≤ length rest → (same : Bool) → length (kept_or_not same entry (without rest key)) ≤ length (entry ∷ rest)
    by_key less true = omega (arith, less)
    by_key less false = omega (arith, less)

names_less : (content : Content) (stamp : ℕ) → length (without (names_of content) stamp) ≤ length (names_of content)
names_less content stamp = length-less (names_of content) stamp

blocks_less : (content : Content) (stamp : ℕ) → blocks (Directory (without (names_of content) stamp)) ≤ blocks content
blocks_less (File bytes) stamp = omega arith
blocks_less (Directory names) stamp = omega (arith, length-less names stamp)

charge_less : (a b : ℕ) → a ≤ b → charge_of_blocks a ≤ charge_of_blocks b
charge_less a b less = omega (arith, less)

module _ (tree : Tree) (directory stamp : ℕ) (above : IsAbove 0 tree) where
  pub above_name_dropped : IsAbove 0 (done (DropName directory stamp) tree)
  above_name_dropped = above_altered (name_dropped stamp) tree directory above

  pub drop_name_room : (limits : Limits) → IsTrue (fits limits tree) → IsTrue (fits limits (done (DropName directory stamp) tree))
  drop_name_room limits fit = by_node (at directory tree) refl
    where
      by_node : (found : Option Node) → at directory tree ≡ found → IsTrue (fits limits (altered_at (name_dropped stamp) tree directory found))
      by_node None is = fit
      by_node (Some old) is = replaced_room tree directory (name_dropped stamp old) old above is limits
          (charge_less (blocks (Directory (without (names_of old.content) stamp))) (blocks old.content) (blocks_less old.content stamp))
          (names_less old.content stamp) fit

-- Nodes that are dropped

module _ (tree : Tree) (number : ℕ) (above : IsAbove 0 tree) where
  pub above_node_dropped : IsAbove 0 (done (DropNode number) tree)
  above_node_dropped = IsAbove-without tree number 0 above

  pub drop_node_room : (limits : Limits) → IsTrue (fits limits tree) → IsTrue (fits limits (done (DropNode number) tree))
  drop_node_room limits fit =
      let was = fit_parts limits tree fit in
      let charged = was.charge in
      let nodes = was.nodes in
      fit_of limits (without tree number) (record {
        charge = omega (arith, charged, total-without charge tree number 0 above);
        nodes = omega (arith, nodes, total-without worth tree number 0 above, total-ones (without tree number), total-ones tree);
        few = few-from limits.names 0 (without tree number) above_node_dropped (λ n other is. elim (cases_eq n number) [
          | inl same ↦ absurd (some≢none other (sym is ∙ ap (λ (k : ℕ). at k (without tree number)) same ∙ at-without_same tree number))
          | inr apart ↦ few-at limits.names tree n other was.few (sym (at-without_other tree number n apart) ∙ is)
        ]);
      })

-- Names that are put

length-more : {A : Type 0} (entries : Keyed A) (key : ℕ) (value : A) → length entries ≤ length (with entries key value)
length-more [] key value = omega arith
length-more (entry ∷ rest) key value = by_key (length-more rest key value) (eqb key entry.0) (ltb key entry.0)
  where
    by_key : length rest ≤ length (with rest key value) → (same less : Bool)
        → length (entry ∷ rest) ≤ length (in_place_of same (key, value) rest (before_or_behind less (key, value) entry rest (with rest key value)))
    by_key more true less = omega arith
    by_key more false true = omega arith
    by_key more false false = omega (arith, more)

blocks_more : (content : Content) (stamp : ℕ) (entry : DirEntry) → is_directory content ≡ true → blocks content ≤ blocks (Directory (with (names_of content) stamp entry))
blocks_more (File bytes) stamp entry directory = absurd cc
blocks_more (Directory names) stamp entry directory = omega (arith, length-more names stamp entry)

module _ (tree : Tree) (directory stamp : ℕ) (entry : DirEntry) (above : IsAbove 0 tree) (there : IsTrue (is_directory_at tree directory)) where
  -- there was room before one
  pub put_name_room_back : (limits : Limits) → IsTrue (fits limits (done (PutName directory stamp entry) tree)) → IsTrue (fits limits tree)
  put_name_room_back limits fit = by_node (at directory tree) refl fit
    where
      by_node : (found : Option Node) → at directory tree ≡ found → IsTrue (fits limits (altered_at (name_put stamp entry) tree directory found)) → IsTrue (fits limits tree)
      by_node None is all = all
      by_node (Some old) is all = replaced_room_back tree directory (name_put stamp entry old) old above is limits
          (charge_less (blocks old.content) (blocks (Directory (with (names_of old.content) stamp entry))) (blocks_more old.content stamp entry (sym (ap is_directory_node is) ∙ there)))
          (length-more (names_of old.content) stamp entry) all

-- and before the size of a node that takes none yet
pub set_size_room_back : (tree : Tree) (number size : ℕ) (old : Node) → IsAbove 0 tree → at number tree ≡ Some old → charge old ≡ 0 → length (names_of old.content) ≡ 0
    → (limits : Limits) → IsTrue (fits limits (done (SetSize number size) tree)) → IsTrue (fits limits tree)
set_size_room_back tree number size old above there none unnamed limits fit =
    let sized : Node → Node = λ node. with_content node (File (resized (bytes_of node.content) size)) in
    replaced_room_back tree number (sized old) old above there limits (omega (arith, none)) (omega (arith, unnamed))
    (sym (ap (λ (found : Option Node). fits limits (altered_at sized tree number found)) there) ∙ fit)

-- numbers rise in a tree if they do in the one with zeros for the bytes of files
pub above_flat : (least : ℕ) (tree : Tree) → IsAbove least (without_data tree) → IsAbove least tree
above_flat least [] above = tt
above_flat least (entry ∷ rest) above = (above.0, above_flat entry.0 rest above.1)
