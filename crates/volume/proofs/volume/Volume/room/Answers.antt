use Rattle.std.proofs.Common.{◌+◌, arith}
use Rattle.journal.specs.Journal.{log_of}
use Rattle.journal.specs.Log.{contents}
use Rattle.layout.specs.Marks.{mark_by}
use Rattle.model_tree.specs.Trees.Stamp.{stamp}
use Rattle.volume.specs.Views.{volume_state}
use Rattle.volume.proofs.LeftLaws.{charge_seen, count_seen, charge_fits, count_fits}
use Rattle.volume.proofs.volume.Volume.room.Goals as goal

pub overflow_sub-result : goal.overflow_sub-result
overflow_sub-result g c =
    let volume = c.args.self.now in
    let nodes = volume.limits.nodes in
    omega (arith, c.charge.ensures, charge_fits nodes (mark_by (148 + nodes) volume.places) volume.table volume.known.are_cached_nodes volume.limits (stamp (volume.run + 1) 0) volume.formed)

pub overflow_sub-result-2 : goal.overflow_sub-result-2
overflow_sub-result-2 g c =
    let volume = c.args.self.now in
    let nodes = volume.limits.nodes in
    omega (arith, c.from.ensures, c.count.ensures.count, count_fits nodes (mark_by (148 + nodes) volume.places) volume.table volume.known.are_cached_nodes volume.limits (stamp (volume.run + 1) 0) volume.formed)

pub returns : goal.returns
unfolding volume_state
returns g c =
    let volume = c.args.self.now in
    let nodes = volume.limits.nodes in
    let mark = mark_by (148 + nodes) volume.places in
    let image = contents (log_of volume.store.journal) in
    let low = charge_fits nodes mark volume.table volume.known.are_cached_nodes volume.limits (stamp (volume.run + 1) 0) volume.formed in
    let few = count_fits nodes mark volume.table volume.known.are_cached_nodes volume.limits (stamp (volume.run + 1) 0) volume.formed in
    record {
      sectors = omega (arith, low, c.charge.ensures, charge_seen nodes mark volume.table volume.known.are_cached_nodes image);
      nodes = omega (arith, few, c.from.ensures, c.count.ensures.count, count_seen nodes mark volume.table volume.known.are_cached_nodes image);
    }
