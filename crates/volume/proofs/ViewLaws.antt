-- What is known of each mounted volume, up or down.
use Rattle.std.proofs.Common.{◌+◌}
use Rattle.journal.specs.Journal.{log_of}
use Rattle.journal.specs.Log.{contents}
use Rattle.model_tree.specs.Trees.Stamp.{stamp}
use Rattle.volume.specs.Formed.{IsFormed}
use Rattle.volume.specs.Views.{volume_state}
use Rattle.volume.specs.declared.volume.Volume.{Volume}
use Rattle.volume.proofs.FormedLaws.{tree_formed}

-- its tree is well formed
pub volume_formed : {D : _} {g : _} → (volume : Volume D g) → IsFormed volume.limits (stamp (volume.run + 1) 0) (volume_state volume).tree
unfolding volume_state
volume_formed volume = tree_formed volume.limits (stamp (volume.run + 1) 0) (contents (log_of volume.store.journal)) volume.table volume.formed
