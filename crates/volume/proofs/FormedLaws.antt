-- The tree of a table is well formed on any device, with zeros for the bytes of files.
use Rattle.std.proofs.Common.{◌≡◌, ◌<◌, ◌+◌, ℕ, Bool, List, Option, sym, ◌∙◌, subst}
use Rattle.std.proofs.Math.Logic.{∥∥₁_map, ∥∥₁_elim}
use Rattle.std.proofs.Props.{props}
use Rattle.disk.specs.Moments.{Image}
use Rattle.tree_edits.specs.Outlines.{without_data, tree_without_data}
use Rattle.tree_edits.proofs.BlankLaws.{each_outline}
use Rattle.tree_edits.proofs.DoingLaws.{outline_fixed}
use Rattle.journal.specs.Log.{Log}
use Rattle.layout.specs.CachedNodes.{CachedNode, tree_of}
use Rattle.layout.specs.Known.{AreCached}
use Rattle.layout.specs.Versions.{limits_by}
use Rattle.model_tree.specs.declared.limits.Limits.{Limits}
use Rattle.model_tree.specs.Trees.Stamp.{stamp}
use Rattle.model_tree.specs.Trees.Tree.{Tree}
use Rattle.model_tree.specs.Trees.WellFormed.{IsWellFormed, IsBefore}
use Rattle.model_tree.proofs.Trees.ChangeLaws.{was_before}
use Rattle.tree_check.specs.Trees.{IsOneTree}
use Rattle.tree_check.proofs.WholeLaws.{each_known_tree}
use Rattle.volume.specs.Formed.{IsFormed, ShowsTree}
use Rattle.model_tree.specs.Seats.Seats.{Seats}
use Rattle.volume.specs.Loads.{IsLoaded}
use Rattle.volume.specs.declared.mount.Superblock.{Superblock}

-- what was loaded is so, under the limits of the volume
pub loaded_formed : (keeps_word : Type 0) (found : Superblock) (log : Log) (mark : Option ℕ) (cached_nodes : List (Option CachedNode)) (seats : Seats) (places : List Bool) → IsLoaded keeps_word found log mark cached_nodes seats places
    → (limits : Limits) → limits ≡ limits_by found.version found.sectors found.nodes → IsFormed limits (stamp (found.run + 1) 0) (tree_without_data cached_nodes)
loaded_formed keeps_word found log mark cached_nodes seats places loaded limits is =
    let each = each_known_tree found.nodes _ cached_nodes loaded.known.are_cached_nodes (limits_by found.version found.sectors found.nodes) (stamp (found.run + 1) 0) in
    let same = sym (outline_fixed cached_nodes) in
    subst (λ (l : Limits). IsFormed l (stamp (found.run + 1) 0) (tree_without_data cached_nodes)) (sym is) (record {
      well_formed = ∥∥₁_map loaded.well_formed (λ are. subst (IsWellFormed (limits_by found.version found.sectors found.nodes)) same (each.0 are).0);
      before = ∥∥₁_elim loaded.well_formed (Prim.hlevel props) (λ are. subst (IsBefore (stamp (found.run + 1) 0)) same (each.0 are).1);
    })

-- from before a later stamp too
pub formed_later : (limits : Limits) (early late : ℕ) (tree : Tree) → early < late → IsFormed limits early tree → IsFormed limits late tree
formed_later limits early late tree rise formed = record { well_formed = formed.well_formed; before = was_before early late (without_data tree) formed.before rise }

-- and so is each tree of these cached nodes
pub tree_formed : (limits : Limits) (at : ℕ) (image : Image) (cached_nodes : List (Option CachedNode)) → IsFormed limits at (tree_without_data cached_nodes) → IsFormed limits at (tree_of image cached_nodes)
tree_formed limits at image cached_nodes formed =
    let same : without_data (tree_without_data cached_nodes) ≡ without_data (tree_of image cached_nodes) = outline_fixed cached_nodes ∙ sym (each_outline image cached_nodes) in
    record {
      well_formed = ∥∥₁_map formed.well_formed (subst (IsWellFormed limits) same);
      before = subst (IsBefore at) same formed.before;
    }

-- two trees of the same cached nodes show one another
pub shows_same : (keeps_word : Type 0) (old new : Image) (cached_nodes : List (Option CachedNode)) → (keeps_word → tree_of new cached_nodes ≡ tree_of old cached_nodes) → ShowsTree keeps_word (tree_of old cached_nodes) (tree_of new cached_nodes)
shows_same keeps_word old new cached_nodes kept = record {
  outline = each_outline new cached_nodes ∙ sym (each_outline old cached_nodes);
  tree_is = kept;
}

-- cached nodes whose tree is well formed are one tree
pub formed_tree : (limits : Limits) (at nodes : ℕ) (mark : ℕ → ℕ) (cached_nodes : List (Option CachedNode)) → AreCached nodes mark cached_nodes → IsFormed limits at (tree_without_data cached_nodes) → ∥ IsOneTree cached_nodes ∥₁
formed_tree limits at nodes mark cached_nodes known formed = ∥∥₁_map formed.well_formed (λ well. (let are =
    (each_known_tree nodes mark cached_nodes known limits at).1
    (subst (IsWellFormed limits) (outline_fixed cached_nodes) well, subst (IsBefore at) (outline_fixed cached_nodes) formed.before) in are.tree))
