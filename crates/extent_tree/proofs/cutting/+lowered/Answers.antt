use Rattle.std.proofs.Common.{◌≤◌, ◌-◌, arith}
use Rattle.extent_tree.specs.Held.{entries_by}
use Rattle.extent_tree.proofs.Cuts.{lower_room, lower_more}
use Rattle.extent_tree.proofs.Maps.{items_of}
use Rattle.extent_tree.proofs.cutting.+lowered.Goals as goal

pub lower-requires-clause-trees : goal.lower-requires-clause-trees
lower-requires-clause-trees t c =
    let up : c.args.to ≤ c.args.depth - 1 = omega (arith, c.requires.depth.0, c.if-depth-to.false) in
    (c.requires.trees.0, (lower_room c.requires.trees.0 c.args.to (c.args.depth - 1) c.requires.trees.1.0 up, c.requires.trees.1.1))

pub lowered-requires : goal.lowered-requires
lowered-requires t c =
    let up : c.args.to ≤ c.args.depth - 1 = omega (arith, c.requires.depth.0, c.if-depth-to.false) in
    let room = lower_room c.requires.trees.0 c.args.to (c.args.depth - 1) c.requires.trees.1.0 up in (
      omega (arith, c.decreases, c.requires.depth.0, c.if-depth-to.false),
      (
        (up, omega (arith, c.requires.depth.1)),
        ((c.requires.trees.0, (c.requires.trees.1.0, c.in_ok-below.ensures.trees c.requires.trees.0 room c.requires.trees.1.1)), c.in_ok-below.ensures.len),
      ),
    )

pub returns : goal.returns
returns t c =
    let up : c.args.to ≤ c.args.depth - 1 = omega (arith, c.requires.depth.0, c.if-depth-to.false) in
    lower_more (entries_by items_of c.args.nodes.now) c.args.depth (c.args.depth - 1) c.args.to c.args.root.items c.in_ok-below.below.items c.in_ok-made.made.items c.args.freed.now.items c.lower.new.freed.items c.lowered.new.freed.items up c.in_ok-below.ensures c.in_ok-made.ensures
