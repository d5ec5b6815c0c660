-- The nodes at the places of a table are a well-formed tree, from before a stamp.
use Rattle.std.specs.Prelude.{◌≤◌, ℕ, List, Option}
use Rattle.node_table.specs.Tables.{charge_of_all, count_of_all}
use Rattle.model_tree.specs.declared.limits.Limits.{Limits}
use Rattle.layout.specs.CachedNodes.{CachedNode}
use Rattle.tree_check.specs.Ages.{AreBefore}
use Rattle.tree_check.specs.Nodes.{AreNodesAllowed}
use Rattle.tree_check.specs.Stamps.{AreStampsApart}
use Rattle.tree_check.specs.Trees.{IsOneTree}

-- what they take of the data region, and how many they are, is within the limits
pub record DoFit (limits : Limits) (cached_nodes : List (Option CachedNode)) : Type 0 where
  pub charge : charge_of_all cached_nodes ≤ limits.data_sectors
  pub count : count_of_all cached_nodes ≤ limits.nodes

-- one tree of allowed nodes that fit, with its stamps distinct and below this one: whatever else a
-- well-formed tree has, laid cached nodes have
pub record AreWellFormed (limits : Limits) (stamp : ℕ) (cached_nodes : List (Option CachedNode))
    : Type 0 where
  pub tree : IsOneTree cached_nodes
  pub stamps : AreStampsApart cached_nodes
  pub nodes : AreNodesAllowed limits cached_nodes
  pub fitting : DoFit limits cached_nodes
  pub before : AreBefore stamp cached_nodes
