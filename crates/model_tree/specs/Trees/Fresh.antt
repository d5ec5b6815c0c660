-- The tree of a fresh volume: just the root, on which everyone may do everything. This server's
-- profile.
use Rattle.std.specs.Prelude.{ℕ, [], ◌∷◌, ◌≤◌, ◌<◌}
use Rattle.model_tree.specs.declared.acl.AceKind.TheVariants as kind
use Rattle.model_tree.specs.declared.acl.Who.TheVariants as who
use Rattle.model_tree.specs.Rights.Acl.{every_right}
use Rattle.model_tree.specs.Trees.Limits.{Limits}
use Rattle.model_tree.specs.Rights.Mode.{entry}
use Rattle.model_tree.specs.Trees.Tree.{Tree, Node, Directory, root}
use Rattle.model_tree.specs.Trees.WellFormed.{IsWellFormed, IsBefore}

abbrev pub fresh_root : Node
fresh_root = record {
  owner = 0;
  group = 0;
  acl = entry kind.Allow who.Everyone every_right ∷ [];
  change = 1;
  time_modify = 0;
  content = Directory [];
}

abbrev pub fresh_tree : Tree
fresh_tree = (root, fresh_root) ∷ []

-- it is well formed on each volume with room for a node and an access control entry, and its stamps
-- are below every stamp above 1
pub record FreshIsWellFormed (limits : Limits) : Type 0 where
  pub well_formed : 1 ≤ limits.nodes → 1 ≤ limits.aces → IsWellFormed limits fresh_tree
  pub before : (stamp : ℕ) → 1 < stamp → IsBefore stamp fresh_tree
