-- What the nodes of a volume are charged and how many there are, whatever the sectors hold.
use Rattle.std.proofs.Common.{◌≡◌, ◌≤◌, ℕ, List, Option, length, sym, ap, ◌∙◌, arith}
use Rattle.std.proofs.Math.Logic.{∥∥₁_elim}
use Rattle.std.proofs.Props.{props}
use Rattle.disk.specs.Moments.{Image}
use Rattle.layout.specs.CachedNodes.{CachedNode, tree_of}
use Rattle.layout.specs.Known.{AreCached}
use Rattle.model_tree.specs.declared.limits.Limits.{Limits}
use Rattle.model_tree.specs.Trees.Charge.{charge}
use Rattle.model_tree.specs.Trees.Keyed.{total}
use Rattle.model_tree.specs.Trees.Tree.{Tree}
use Rattle.node_table.specs.Tables.{charge_of_all, count_of_all}
use Rattle.tree_edits.specs.Outlines.{tree_without_data, without_data}
use Rattle.tree_edits.proofs.BlankLaws.{charge-without_data, each_outline, length-without_data}
use Rattle.tree_edits.proofs.RoomLaws.{charge_all, count_all}
use Rattle.volume.specs.Formed.{IsFormed}
use Rattle.volume.proofs.EditLaws.{fit_parts}

module _ (nodes : ℕ) (mark : ℕ → ℕ) (cached_nodes : List (Option CachedNode)) (known : AreCached nodes mark cached_nodes) where
  pub charge_seen : (image : Image) → total charge (tree_of image cached_nodes) ≡ charge_of_all cached_nodes
  charge_seen image = sym (charge-without_data (tree_of image cached_nodes)) ∙ ap (λ (t : Tree). total charge t) (each_outline image cached_nodes) ∙ charge_all nodes mark cached_nodes known

  pub count_seen : (image : Image) → length (tree_of image cached_nodes) ≡ count_of_all cached_nodes
  count_seen image = sym (length-without_data (tree_of image cached_nodes)) ∙ ap (λ (t : Tree). length t) (each_outline image cached_nodes) ∙ count_all nodes mark cached_nodes known

  module _ (limits : Limits) (stamp : ℕ) (formed : IsFormed limits stamp (tree_without_data cached_nodes)) where
    pub charge_fits : charge_of_all cached_nodes ≤ limits.data_sectors
    charge_fits = ∥∥₁_elim formed.well_formed (Prim.hlevel props) (λ well.
        let fit = fit_parts limits (without_data (tree_without_data cached_nodes)) well.fitting in
        let charged = fit.charge in
        omega (arith, charged, charge-without_data (tree_without_data cached_nodes), charge_all nodes mark cached_nodes known))

    pub count_fits : count_of_all cached_nodes ≤ limits.nodes
    count_fits = ∥∥₁_elim formed.well_formed (Prim.hlevel props) (λ well.
        let fit = fit_parts limits (without_data (tree_without_data cached_nodes)) well.fitting in
        let few = fit.nodes in
        omega (arith, few, length-without_data (tree_without_data cached_nodes), count_all nodes mark cached_nodes known))
