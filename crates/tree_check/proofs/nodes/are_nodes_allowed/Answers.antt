use Rattle.std.proofs.Common.{arith}
use Rattle.tree_check.specs.Nodes.{IsNodeAllowed}
use Rattle.tree_check.proofs.NodeLaws.{each_place}
use Rattle.tree_check.proofs.nodes.are_nodes_allowed.Goals as goal

pub returns : goal.returns
returns c = (
  λ rooted. record {
    each = each_place (IsNodeAllowed c.args.limits.now) c.args.table.now c.loop-place.place (omega (arith, c.places-place-end.ensures.places, c.loop-place-test.false)) c.loop-place.invariant;
    rooted = c.has_root_directory.ensures.0 rooted;
  },
  λ allowed. c.has_root_directory.ensures.1 allowed.rooted,
)
