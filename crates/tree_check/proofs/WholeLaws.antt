-- All that is decided of the cached nodes together makes a well-formed tree.
use Rattle.std.proofs.Common.{◌≡◌, ◌↔◌, ◌&&◌, ℕ, true, List, [], Option, Some, None, true≢false, refl, sym, ap₂, ◌∙◌, arith}
use Rattle.std.proofs.lemmas.Bool.{and_parts, le-leb, leb-true}
use Rattle.std.specs.Prelude.{is_some, nat_le}
use Rattle.disk.specs.Moments.{Image}
use Rattle.model_tree.specs.declared.limits.Limits.{Limits}
use Rattle.model_tree.specs.Trees.Charge.{few_names}
use Rattle.model_tree.specs.Trees.Keyed.{at}
use Rattle.model_tree.specs.Trees.Tree.{Node, root, is_directory_node}
use Rattle.model_tree.specs.Trees.WellFormed.{IsBefore, IsWellFormed}
use Rattle.node_table.specs.Tables.{charge_of_all, count_of_all}
use Rattle.layout.specs.CachedNodes.{CachedNode, tree_of}
use Rattle.layout.specs.Known.{AreCached}
use Rattle.layout.proofs.Changing.{tree-above}
use Rattle.layout.proofs.Knowing.{each_above, each_cached, laid_are_cached_nodes}
use Rattle.tree_check.specs.ShapeLaws.{HoldBytes, EachTree, EachKnownTree}
use Rattle.tree_check.specs.WellFormed.{AreWellFormed}
use Rattle.tree_check.proofs.AgeLaws.{known_age}
use Rattle.tree_check.proofs.AllowedLaws.{known_node}
use Rattle.tree_check.proofs.FitLaws.{known_fit}
use Rattle.tree_check.proofs.TreeLaws.{known_stamp, known_walk}

-- a directory exists
there : (node : Option Node) → is_directory_node node ≡ true → is_some node ≡ true
there None is = absurd (true≢false (sym is))
there (Some node) is = refl

known_bytes : (nodes : ℕ) (image : Image) (mark : ℕ → ℕ) (cached_nodes : List (Option CachedNode)) → AreCached nodes mark cached_nodes → HoldBytes image mark
    → (limits : Limits) → (stamp : ℕ)
    → AreWellFormed limits stamp cached_nodes ↔ (IsWellFormed limits (tree_of image cached_nodes) × IsBefore stamp (tree_of image cached_nodes))
known_bytes nodes image mark cached_nodes known bytes limits stamp =
    let walk = known_walk nodes image mark cached_nodes known in
    let stamps = known_stamp nodes image mark cached_nodes known in
    let allowed = known_node nodes image mark cached_nodes known bytes limits in
    let fit = known_fit nodes image mark cached_nodes known limits in
    let age = known_age nodes image mark cached_nodes known stamp in (
      λ are.
          let linked = walk.0 are.tree in
          let has = allowed.0 are.nodes in (
            record {
              numbered = tree-above image cached_nodes (each_above cached_nodes (each_cached nodes mark cached_nodes known));
              rooted = has.rooted;
              linked = linked.linked;
              reached = linked.reached;
              stamped = stamps.0 are.stamps;
              nodes = has.nodes;
              fitting = fit ∙ ap₂ (λ a b. a && b) (le-leb (charge_of_all cached_nodes) limits.data_sectors are.fitting.charge) (ap₂ (λ a b. a && b) (le-leb (count_of_all cached_nodes) limits.nodes are.fitting.count) has.few);
            },
            age.0 are.before,
          ),
      λ tree.
          let well = tree.0 in
          let all = and_parts (nat_le (charge_of_all cached_nodes) limits.data_sectors) (nat_le (count_of_all cached_nodes) limits.nodes && few_names limits.names (tree_of image cached_nodes)) (sym fit ∙ well.fitting) in
          let both = and_parts (nat_le (count_of_all cached_nodes) limits.nodes) (few_names limits.names (tree_of image cached_nodes)) all.1 in
          record {
            tree = walk.1 (record { rooted = there (at root (tree_of image cached_nodes)) well.rooted; linked = well.linked; reached = well.reached });
            stamps = stamps.1 well.stamped;
            nodes = allowed.1 (record { nodes = well.nodes; few = both.1; rooted = well.rooted });
            fitting = record { charge = leb-true (charge_of_all cached_nodes) limits.data_sectors all.0; count = leb-true (count_of_all cached_nodes) limits.nodes both.0 };
            before = age.1 tree.1;
          },
    )

pub each_tree : EachTree
each_tree nodes image mark cached_nodes laid = known_bytes nodes image mark cached_nodes (laid_are_cached_nodes nodes image mark cached_nodes laid)

-- sectors without content hold bytes
pub each_known_tree : EachKnownTree
each_known_tree nodes mark cached_nodes known = known_bytes nodes (λ n. []) mark cached_nodes known (λ n some k d h. absurd (omega (arith, h)))
