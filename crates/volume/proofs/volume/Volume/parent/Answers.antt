use Rattle.std.proofs.Common.{◌+◌}
use Rattle.layout.specs.Marks.{mark_by}
use Rattle.model_tree.specs.Trees.Stamp.{stamp}
use Rattle.volume.proofs.FormedLaws.{formed_tree}
use Rattle.volume.proofs.volume.Volume.parent.Goals as goal

pub parent_of-requires-clause-tree : goal.parent_of-requires-clause-tree
parent_of-requires-clause-tree g c =
    let volume = c.args.self.now in
    let nodes = volume.limits.nodes in
    formed_tree volume.limits (stamp (volume.run + 1) 0) nodes (mark_by (148 + nodes) volume.places) volume.table volume.known.are_cached_nodes volume.formed
