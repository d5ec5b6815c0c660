-- What is known of a transaction's cached nodes, and what a change of one of them leaves.
use Rattle.std.proofs.Common.{◌≡◌, ◌≤◌, ◌<◌, ◌+◌, ◌^◌, ◌⊎◌, ℕ, zero, suc, Bool, List, [], ◌∷◌, Option, Some, None, length, get_or, set, refl, sym, ap, ◌∙◌, arith, subst, inl, inr}
use Rattle.disk.specs.Moments.{Image}
use Rattle.inode.specs.declared.node.Form.{Form}
use Rattle.inode.specs.Fields.{Fields, IsInode}
use Rattle.model_tree.specs.declared.node.NodeKind.{NodeKind}
use Rattle.model_tree.specs.declared.node.NodeKind.TheVariants as kind
use Rattle.model_tree.specs.Trees.Edit.{Edit, done}
use Rattle.model_tree.specs.Trees.Charge.{blocks_of, charge_of_blocks}
use Rattle.layout.specs.CachedNodes.{CachedNode}
use Rattle.layout.specs.CachedNodes as layout
use Rattle.layout.specs.Known.{IsCached, IsNodePlace, HasContent, HasNames, AreCached}
use Rattle.layout.specs.Laid.{AreLaid, HoldsCached, HoldsPlace}
use Rattle.layout.specs.Marks.{times, times_set, named, namings_of, mark_by}
use Rattle.layout.proofs.Changing.{named-at}
use Rattle.layout.proofs.Knowing.{one_cached_change}
use Rattle.layout.proofs.MarkProofs.{each_mark, mark-prefix}
use Rattle.layout.proofs.NodeEditLaws.{named_by-parts}
use Rattle.node_table.specs.Tables.{charge_of, charge_of_all}
use Rattle.tree_transaction.specs.declared.transaction.Transaction.{Transaction}
use Rattle.tree_transaction.specs.Transactions.{cached_nodes_of, end_of, image_of, changed_tree, IsKnown, StaysKnown, IsTransaction, MakesOver, MakesEdit, Edits, EditsOver, HasNow, NodeBecomes, IsOvercharged}
use Rattle.tree_transaction.specs.Laying.{fields_with}
use Rattle.tree_transaction.specs.Updates.{AreBetween, ChangeOne}
use Rattle.tree_transaction.proofs.UpdateLaws.{between-one}

pub place-within : {A : Type 0} (xs : List (Option A)) (place : ℕ) (x : A) → get_or xs place None ≡ Some x → place < length xs
place-within [] place x e = absurd cc
place-within (y ∷ xs) zero x e = omega arith
place-within (y ∷ xs) (suc place) x e = let rest = place-within xs place x e in omega arith

pub put-back : (cached_nodes : List (Option CachedNode)) (place : ℕ) (cached : CachedNode) → set (set cached_nodes place None) place (Some cached) ≡ set cached_nodes place (Some cached)
put-back [] place cached = refl
put-back (x ∷ cached_nodes) zero cached = refl
put-back (x ∷ cached_nodes) (suc place) cached = ap (λ (rest : List (Option CachedNode)). x ∷ rest) (put-back cached_nodes place cached)

pub same_cached : (cached_nodes : List (Option CachedNode)) (place : ℕ) (a b : CachedNode) → get_or cached_nodes place None ≡ Some a → get_or cached_nodes place None ≡ Some b → a ≡ b
same_cached cached_nodes place a b at_a at_b = cc

pub mark-outside : (first : ℕ) (places : List Bool) (n : ℕ) → (n < first) ⊎ (first + length places ≤ n) → mark_by first places n ≡ 0
mark-outside first places n out = elim out [
  | inl low ↦ mark-prefix first places n low
  | inr high ↦ let each = each_mark first places 0 in each.within n high
]

-- what a laid cached node is
pub held_at : (nodes : ℕ) (image : Image) (mark : ℕ → ℕ) (cached_nodes : List (Option CachedNode)) (place : ℕ) (cached : CachedNode) → AreLaid nodes image mark cached_nodes → get_or cached_nodes place None ≡ Some cached → HoldsCached image place cached
held_at nodes image mark cached_nodes place cached laid there =
    let within : place < nodes = (let h = place-within cached_nodes place cached there in omega (arith, laid.count)) in
    subst (HoldsPlace image place) there (laid.held place within)

-- ---- the cached node at a place

module _ (nodes : ℕ) (mark : ℕ → ℕ) (cached_nodes : List (Option CachedNode)) (place : ℕ) (cached : CachedNode) (known : AreCached nodes mark cached_nodes) (there : get_or cached_nodes place None ≡ Some cached) where
  pub in_table : place < nodes
  in_table = let h = place-within cached_nodes place cached there in omega (arith, known.count)

  pub cached_at : IsCached cached
  cached_at = subst IsNodePlace there (known.each place in_table)

  pub named_once : (n : ℕ) → times n cached.fields.run_sectors + times_set n cached.blocks ≤ mark n
  named_once n =
      let parts = named_by-parts n cached in
      let some : namings_of n (Some cached) ≤ named n cached_nodes = subst (λ (c : Option CachedNode). namings_of n c ≤ named n cached_nodes) there (named-at n cached_nodes place) in
      omega (arith, known.marks n)

  -- a cached node of its number, whose marks follow, in its place
  pub changed_known : (marked : ℕ → ℕ) (is : CachedNode) → is.fields.number ≡ cached.fields.number → IsCached is → ((n : ℕ) → marked n + (times n cached.fields.run_sectors + times_set n cached.blocks) ≡ mark n + (times n is.fields.run_sectors + times_set n is.blocks))
      → ((n : ℕ) → marked n ≤ 1) → ((n : ℕ) → 0 < marked n → 148 + nodes ≤ n) → AreCached nodes marked (set cached_nodes place (Some is))
  changed_known marked is number is_cached marks once behind = one_cached_change nodes mark marked cached_nodes place (Some is) in_table known
      (λ i other off at e. known.apart i place other cached off at there (e ∙ number)) is_cached
      (record {
        marks = λ n. let e = ap (namings_of n) there in omega (arith, e, named_by-parts n cached, named_by-parts n is, marks n);
        once = once;
        behind = behind;
      })

pub directory_known : (cached : CachedNode) → IsCached cached → cached.fields.kind ≡ kind.Directory → HasNames cached
directory_known cached is directory = subst (λ (k : NodeKind). HasContent k cached) directory is.content

pub file_unnamed : (cached : CachedNode) → IsCached cached → cached.fields.kind ≡ kind.File
    → cached.names ≡ []
file_unnamed cached is file = subst (λ (k : NodeKind). HasContent k cached) file is.content

pub file_blocks : (cached : CachedNode) → IsCached cached → cached.fields.kind ≡ kind.File → length cached.blocks ≡ blocks_of kind.File cached.fields.size
file_blocks cached is file = is.blocks ∙ ap (λ (k : NodeKind). blocks_of k cached.fields.size) file

pub directory_blocks : (cached : CachedNode) → IsCached cached → cached.fields.kind ≡ kind.Directory → length cached.blocks ≡ blocks_of kind.Directory (length cached.names)
directory_blocks cached is directory =
    let names = directory_known cached is directory in
    is.blocks ∙ ap (λ (k : NodeKind). blocks_of k cached.fields.size) directory ∙ ap (blocks_of kind.Directory) (sym names.count)

pub content_of_file : (cached : CachedNode) → cached.fields.kind ≡ kind.File → cached.names ≡ [] → HasContent cached.fields.kind cached
content_of_file cached file none = subst (λ (k : NodeKind). HasContent k cached) (sym file) none

pub content_of_directory : (cached : CachedNode) → cached.fields.kind ≡ kind.Directory → HasNames cached → HasContent cached.fields.kind cached
content_of_directory cached directory names = subst (λ (k : NodeKind). HasContent k cached) (sym directory) names

-- ---- the fields of a cached node that is to be laid

pub fields_fit : (form : Form) (fields : Fields) (size : ℕ) → IsInode form fields → size < 2 ^ 64 → IsInode form (fields_with (record fields { size = size }) 0 [])
fields_fit form fields size fits small = record {
  number = fits.number;
  owner = fits.owner;
  group = fits.group;
  change = fits.change;
  time_modify = fits.time_modify;
  size = small;
  runs = omega arith;
  run_sectors = refl;
  each_run_sector = tt;
  acl = fits.acl;
  each_ace = fits.each_ace;
}

-- ---- a transaction after one sector was put

pub stays_put : (old new : Transaction) (sector : ℕ) → IsKnown old → AreCached old.nodes (mark_by (148 + old.nodes) new.places) (cached_nodes_of new) → new.nodes ≡ old.nodes → length new.places ≡ length old.places → 148 ≤ sector → sector < 148 + old.nodes
    → ChangeOne old.updates new.updates sector → StaysKnown old new
stays_put old new sector known cached_nodes same len low high alone =
    let small = known.small in
    let end : end_of new ≡ end_of old = omega (arith, same, len) in
    record {
      known = record {
        cached_nodes = subst (λ (n : ℕ). AreCached n (mark_by (148 + n) new.places) (cached_nodes_of new)) (sym same) cached_nodes;
        small = omega (arith, end, known.small);
        targets = subst (λ (e : ℕ). AreBetween 148 e new.updates) (sym end) (between-one 148 (end_of old) old.updates new.updates sector low (omega arith) alone known.targets);
      };
      nodes = same;
      places = len;
    }

-- ---- over a base

pub made : (base : Image) (size : ℕ) (old new : Transaction) (place : ℕ) (is : Option CachedNode) (edit : Edit) → IsTransaction base size old → new.nodes ≡ old.nodes → length new.places ≡ length old.places → cached_nodes_of new ≡ set (cached_nodes_of old) place is
    → AreLaid old.nodes (image_of base new) (mark_by (148 + old.nodes) new.places) (set (cached_nodes_of old) place is) → layout.tree_of (image_of base new) (set (cached_nodes_of old) place is) ≡ done edit (changed_tree base old)
    → IsTransaction base size new × (changed_tree base new ≡ done edit (changed_tree base old))
made base size old new place is edit transaction same len cached_nodes laid tree = (
  record {
    laid = subst (λ (n : ℕ). AreLaid n (image_of base new) (mark_by (148 + n) new.places) (cached_nodes_of new)) (sym same)
        (subst (λ (l : List (Option CachedNode)). AreLaid old.nodes (image_of base new) (mark_by (148 + old.nodes) new.places) l) (sym cached_nodes) laid);
    within = omega (arith, transaction.within, same, len);
    small = transaction.small;
  },
  ap (λ (l : List (Option CachedNode)). layout.tree_of (image_of base new) l) cached_nodes ∙ tree,
)

-- ---- clauses of the node at a place, whose cached node is this one

module _ (old new : Transaction) (place : ℕ) (was : CachedNode) (there : get_or (cached_nodes_of old) place None ≡ Some was) where
  pub edits : (edit : ℕ → Edit) → ((base : Image) (size : ℕ) → MakesOver base size old new (edit was.fields.number)) → Edits old new place edit
  edits edit makes cached asked = subst (λ (one : CachedNode). MakesEdit old new (edit one.fields.number)) (same_cached (cached_nodes_of old) place was cached there asked) makes

  pub edits_over : (base : Image) (size : ℕ) (edit : ℕ → Edit) → MakesOver base size old new (edit was.fields.number) → EditsOver base size old new place edit
  edits_over base size edit makes cached asked = subst (λ (one : CachedNode). MakesOver base size old new (edit one.fields.number)) (same_cached (cached_nodes_of old) place was cached there asked) makes

  pub turns : (change : CachedNode → CachedNode) → HasNow old new place (change was) → NodeBecomes old new place change
  turns change now cached asked = subst (λ (one : CachedNode). HasNow old new place (change one)) (same_cached (cached_nodes_of old) place was cached there asked) now

pub overcharged : (old : Transaction) (place : ℕ) (was : CachedNode) (blocks : CachedNode → ℕ) → get_or (cached_nodes_of old) place None ≡ Some was → length old.places + charge_of was < charge_of_all (cached_nodes_of old) + charge_of_blocks (blocks was) → IsOvercharged old place blocks
overcharged old place was blocks there more cached asked =
    subst (λ (one : CachedNode). length old.places + charge_of one < charge_of_all (cached_nodes_of old) + charge_of_blocks (blocks one)) (same_cached (cached_nodes_of old) place was cached there asked) more
