-- The cached node at a place, and what the outline of a transaction shows of it.
use Rattle.std.proofs.Common.{zero, suc, ⊎_elim, ◌≡◌, ◌<◌, ◌⊎◌, ℕ, List, [], ◌∷◌, Option, Some, None, length, get_or, set, refl, sym, ap, ◌∙◌, inl, inr, subst}
use Rattle.std.proofs.lemmas.Bool.{cases_eq}
use Rattle.std.proofs.lemmas.List.{get_or-set_same, get_or-set_other}
use Rattle.std.specs.Prelude.{is_some, IsTrue, IsFalse}
use Rattle.std.specs.List.{IsAmong}
use Rattle.disk.specs.Moments.{Image}
use Rattle.node_table.specs.Tables.{node_number, node_number_at, HasNoNode}
use Rattle.directory.specs.Listing.{by_stamp}
use Rattle.layout.specs.CachedNodes.{CachedNode, node_of, content_of}
use Rattle.layout.specs.ChangeLaws.{IsOwnNumber, IsSameNumber}
use Rattle.layout.specs.Known.{AreCached}
use Rattle.layout.specs.Laid.{AreNumbered}
use Rattle.layout.specs.Stands.{current_version, HaveCurrentForms}
use Rattle.model_tree.specs.Seats.Seats.{no_seats}
use Rattle.layout.proofs.Answering.{tree-has}
use Rattle.layout.proofs.Changing.{AreAbove, tree-lacks, tree-put, tree-drop}
use Rattle.model_tree.specs.declared.node.NodeKind.{NodeKind}
use Rattle.model_tree.specs.declared.node.NodeKind.TheVariants as kind
use Rattle.model_tree.specs.Trees.Keyed.{at, with, without, is_key}
use Rattle.model_tree.specs.Trees.Tree.{Tree, Node, names_of, names_at, names_of_node, is_directory, is_directory_at, is_directory_node}
use Rattle.tree_transaction.proofs.KnownLaws.{place-within, cached_at}
use Rattle.tree_edits.specs.Doing.{AreMade}
use Rattle.tree_edits.specs.Outlines.{tree_without_data}

-- the cached node with a number that is at a place
pub record IsThere (cached_nodes : List (Option CachedNode)) (place number : ℕ) : Type 0 where
  pub cached : CachedNode
  pub there : get_or cached_nodes place None ≡ Some cached
  pub number_is : cached.fields.number ≡ number

pub there_at : (cached_nodes : List (Option CachedNode)) (place number : ℕ) → node_number_at cached_nodes place ≡ Some number → IsThere cached_nodes place number
there_at cached_nodes place number is = by_cached (get_or cached_nodes place None) refl is
  where
    by_cached : (cached_node : Option CachedNode) → get_or cached_nodes place None ≡ cached_node → node_number cached_node ≡ Some number → IsThere cached_nodes place number
    by_cached None e n = absurd cc
    by_cached (Some cached_node) e n = record { cached = cached_node; there = e; number_is = cc }

pub none_key : {A : Type 0} (found : Option A) → found ≡ None → IsTrue (is_some found) → ⊥
none_key None e is = cc
none_key (Some it) e is = cc

-- a directory is a node
pub directory_key : (tree : Tree) (number : ℕ) → IsTrue (is_directory_at tree number) → IsTrue (is_key number tree)
directory_key tree number is = by_node (at number tree) is
  where
    by_node : (node : Option Node) → IsTrue (is_directory_node node) → IsTrue (is_some node)
    by_node None is = cc
    by_node (Some node) is = refl

-- a number that no cached node has is no node's
pub no_number : (cached_nodes : List (Option CachedNode)) (number : ℕ) → HasNoNode cached_nodes number → at number (tree_without_data cached_nodes) ≡ None
no_number cached_nodes number has_not = tree-lacks (λ n. []) cached_nodes number (λ i cached_node there same. has_not i (ap node_number there ∙ ap (λ (n : ℕ). Some n) same))

module _ (cached_nodes : List (Option CachedNode)) (apart : AreNumbered cached_nodes) where
  pub there_is : (place number : ℕ) → (it : IsThere cached_nodes place number) → at number (tree_without_data cached_nodes) ≡ Some (node_of (λ n. []) it.cached)
  there_is place number it =
      ap (λ (n : ℕ). at n (tree_without_data cached_nodes)) (sym it.number_is) ∙ tree-has (λ n. []) cached_nodes place it.cached apart it.there

  -- and conversely
  pub not_there : (number : ℕ) → at number (tree_without_data cached_nodes) ≡ None → HasNoNode cached_nodes number
  not_there number fresh place is = let it = there_at cached_nodes place number is in none_some (there_is place number it) fresh
    where
      none_some : {A : Type 0} {found : Option A} {x : A} → found ≡ Some x → found ≡ None → ⊥
      none_some some none = cc

-- what a cached node's content shows of the kind

pub kind_shows : (image : Image) (of : NodeKind) (cached_node : CachedNode) → IsTrue (is_directory (content_of image of cached_node)) → of ≡ kind.Directory
kind_shows image kind.File cached_node is = absurd cc
kind_shows image kind.Directory cached_node is = refl

pub kind_hides : (image : Image) (of : NodeKind) (cached_node : CachedNode) → IsFalse (is_directory (content_of image of cached_node)) → of ≡ kind.File
kind_hides image kind.File cached_node is = refl
kind_hides image kind.Directory cached_node is = absurd cc

module _ (cached_nodes : List (Option CachedNode)) (apart : AreNumbered cached_nodes) (place number : ℕ) (it : IsThere cached_nodes place number) where
  there_node : at number (tree_without_data cached_nodes) ≡ Some (node_of (λ n. []) it.cached)
  there_node = there_is cached_nodes apart place number it

  pub directory_there : IsTrue (is_directory_at (tree_without_data cached_nodes) number) → it.cached.fields.kind ≡ kind.Directory
  unfolding node_of
  directory_there is = kind_shows (λ n. []) it.cached.fields.kind it.cached (subst (λ (node : Option Node). IsTrue (is_directory_node node)) there_node is)

  pub file_there : IsFalse (is_directory_at (tree_without_data cached_nodes) number) → it.cached.fields.kind ≡ kind.File
  unfolding node_of
  file_there is = kind_hides (λ n. []) it.cached.fields.kind it.cached (subst (λ (node : Option Node). IsFalse (is_directory_node node)) there_node is)

  pub names_there : it.cached.fields.kind ≡ kind.Directory → names_at (tree_without_data cached_nodes) number ≡ by_stamp it.cached.names
  unfolding node_of
  names_there is = ap names_of_node there_node ∙ ap (λ (k : NodeKind). names_of (content_of (λ n. []) k it.cached)) is

-- The outline after a change of a cached node

module _ (nodes : ℕ) (mark : ℕ → ℕ) (cached_nodes : List (Option CachedNode)) (known : AreCached nodes mark cached_nodes) where
  above : AreAbove cached_nodes
  above i cached_node there = let is = cached_at nodes mark cached_nodes i cached_node known there in is.number

  own : (place : ℕ) (was is : CachedNode) → get_or cached_nodes place None ≡ Some was → is.fields.number ≡ was.fields.number → IsOwnNumber cached_nodes place (Some is)
  own place was is there same i other off found e = known.apart i place other was off found there (e ∙ same)

  pub outline_put : (place : ℕ) (was is : CachedNode) → get_or cached_nodes place None ≡ Some was → is.fields.number ≡ was.fields.number
      → tree_without_data (set cached_nodes place (Some is)) ≡ with (tree_without_data cached_nodes) is.fields.number (node_of (λ n. []) is)
  outline_put place was is there same = tree-put (λ n. []) (λ n. []) cached_nodes place is (place-within cached_nodes place was there) (λ i cached_node off e. refl)
      (subst_same there same) (own place was is there same)
    where
      subst_same : {cached_node : Option CachedNode} → cached_node ≡ Some was → is.fields.number ≡ was.fields.number → IsSameNumber cached_node (Some is)
      subst_same e same = subst (λ (c : Option CachedNode). IsSameNumber c (Some is)) (sym e) same

  pub outline_made : (place : ℕ) (is : CachedNode) → place < length cached_nodes → get_or cached_nodes place None ≡ None → HasNoNode cached_nodes is.fields.number
      → tree_without_data (set cached_nodes place (Some is)) ≡ with (tree_without_data cached_nodes) is.fields.number (node_of (λ n. []) is)
  outline_made place is within free fresh = tree-put (λ n. []) (λ n. []) cached_nodes place is within (λ i cached_node off e. refl)
      (subst (λ (c : Option CachedNode). IsSameNumber c (Some is)) (sym free) tt)
      (λ i other off found e. fresh i (ap node_number found ∙ ap (λ (n : ℕ). Some n) e))

  pub outline_dropped : (place : ℕ) (was : CachedNode) → get_or cached_nodes place None ≡ Some was
      → tree_without_data (set cached_nodes place None)
      ≡ without (tree_without_data cached_nodes) was.fields.number
  outline_dropped place was there = tree-drop (λ n. []) (λ n. []) cached_nodes place was there (λ i cached_node off e. refl) above (own place was was there refl)

-- The numbers after a change of a cached node

none_at : (cached_nodes : List (Option CachedNode)) (place : ℕ)
    → get_or (set cached_nodes place None) place None ≡ None
none_at [] place = refl
none_at (cached_node ∷ cached_nodes) zero = refl
none_at (cached_node ∷ cached_nodes) (suc place) = none_at cached_nodes place

pub made_none : (cached_nodes : List (Option CachedNode)) (place : ℕ) (numbers : List ℕ) → AreMade cached_nodes (set cached_nodes place None) numbers
made_none cached_nodes place numbers other number is = elim (cases_eq other place) [
  | inl e ↦ absurd (gone (get_or (set cached_nodes place None) other None) (ap (λ (p : ℕ). get_or (set cached_nodes place None) p None) e ∙ none_at cached_nodes place) is)
  | inr off ↦ inl (ap node_number (sym (get_or-set_other cached_nodes place other None None off)) ∙ is)
]
  where
    gone : (cached_node : Option CachedNode) → cached_node ≡ None → node_number cached_node ≡ Some number → ⊥
    gone None e n = absurd cc
    gone (Some cached_node) e n = absurd cc

pub made_put : (cached_nodes : List (Option CachedNode)) (place : ℕ) (cached_node : CachedNode) (numbers : List ℕ) → place < length cached_nodes
    → (node_number_at cached_nodes place ≡ Some cached_node.fields.number) ⊎ IsAmong numbers cached_node.fields.number
    → AreMade cached_nodes (set cached_nodes place (Some cached_node)) numbers
made_put cached_nodes place cached_node numbers within from other number is = elim (cases_eq other place) [
  | inl e ↦
      let same : number ≡ cached_node.fields.number = some_same (sym is ∙ ap (λ (p : ℕ). node_number_at (set cached_nodes place (Some cached_node)) p) e ∙ ap node_number (get_or-set_same cached_nodes place (Some cached_node) None within)) in
      ⊎_elim (λ (stood : node_number_at cached_nodes place ≡ Some cached_node.fields.number). inl (ap (node_number_at cached_nodes) e ∙ stood ∙ ap (λ (n : ℕ). Some n) (sym same)))
      (λ (made : IsAmong numbers cached_node.fields.number). inr (subst (IsAmong numbers) (sym same) made)) from
  | inr off ↦ inl (ap node_number (sym (get_or-set_other cached_nodes place other (Some cached_node) None off)) ∙ is)
]
  where
    some_same : {x y : ℕ} → Some x ≡ Some y → x ≡ y
    some_same e = cc

-- The forms after a change of a cached node

pub none_forms : (cached_nodes : List (Option CachedNode)) (place : ℕ) → HaveCurrentForms cached_nodes → HaveCurrentForms (set cached_nodes place None)
none_forms cached_nodes place forms other cached_node there = elim (cases_eq other place) [
  | inl e ↦ absurd (gone (get_or (set cached_nodes place None) other None) (ap (λ (p : ℕ). get_or (set cached_nodes place None) p None) e ∙ none_at cached_nodes place) there)
  | inr off ↦ forms other cached_node (sym (get_or-set_other cached_nodes place other None None off) ∙ there)
]
  where
    gone : (found : Option CachedNode) → found ≡ None → found ≡ Some cached_node → ⊥
    gone found none some = cc

pub put_forms : (cached_nodes : List (Option CachedNode)) (place : ℕ) (cached_node : CachedNode) → place < length cached_nodes → cached_node.form ≡ (current_version no_seats).form place → HaveCurrentForms cached_nodes → HaveCurrentForms (set cached_nodes place (Some cached_node))
put_forms cached_nodes place cached_node within one forms other it there = elim (cases_eq other place) [
  | inl e ↦ ap (λ (c : CachedNode). c.form) (sym (some_is (sym (get_or-set_same cached_nodes place (Some cached_node) None within) ∙ ap (λ (p : ℕ). get_or (set cached_nodes place (Some cached_node)) p None) (sym e) ∙ there))) ∙ one ∙ ap (λ (p : ℕ). (current_version no_seats).form p) (sym e)
  | inr off ↦ forms other it (sym (get_or-set_other cached_nodes place other (Some cached_node) None off) ∙ there)
]
  where
    some_is : {x y : CachedNode} → (let one : Option CachedNode = Some x in one ≡ Some y) → x ≡ y
    some_is e = cc
