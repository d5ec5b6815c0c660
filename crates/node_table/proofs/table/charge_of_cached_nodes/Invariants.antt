use Rattle.std.proofs.Common.{◌≡◌, ◌≤◌, ◌<◌, ◌*◌, ℕ, Some, None, length, take, get_or}
use Rattle.layout.specs.CachedNodes.{CachedNode}
use Rattle.node_table.specs.Tables.{charge_of_all}
use Rattle.node_table.proofs.table.charge_of_cached_nodes.Given as goal

-- this many places have been looked at
abbrev pub invariant-loop-cached : goal.invariant-loop-cached
invariant-loop-cached l = record {
  charge : l.charge ≡ charge_of_all (take l.cached-index l.cached_nodes);
  most : l.charge ≤ 4105 * l.cached-index;
  few : (place : ℕ) (cached_node : CachedNode) → place < l.cached-index → get_or l.cached_nodes place None ≡ Some cached_node → length cached_node.blocks ≤ 4096;
}
