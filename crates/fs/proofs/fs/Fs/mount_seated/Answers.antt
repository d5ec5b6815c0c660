use Rattle.std.proofs.Common.{arith}
use Rattle.model_tree.specs.Trees.Stamp.{stamp, next_stamp}
use Rattle.volume.specs.Views.{volume_state}
use Rattle.volume.proofs.FormedLaws.{formed_later}
use Rattle.fs.proofs.fs.Fs.mount_seated.Goals as goal

pub invariant_of-result : goal.invariant_of-result
invariant_of-result g c =
    let held = volume_state c.in_ok-mounted.mounted.volume in
    record {
      counted = omega arith;
      ready = λ up. formed_later held.limits (stamp held.run 0) (next_stamp held.run 0) held.tree (omega arith) c.in_ok-mounted.ensures.serves.new.formed;
    }
