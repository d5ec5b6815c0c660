use Rattle.tree_edits.proofs.DoableLaws.{measurable}
use Rattle.volume.specs.Views.{volume_state, volume_failures}
use Rattle.volume.proofs.KeepLaws.{left}
use Rattle.volume.proofs.volume.Volume.change.Goals as goal

pub returns-then-is_down-clause-volume : goal.returns-then-is_down-clause-volume
returns-then-is_down-clause-volume g c = left g.D.Device.keeps_word _ (volume_state c.args.self.now) (volume_failures c.args.self.now)

pub returns-then-not-fits-clause-volume : goal.returns-then-not-fits-clause-volume
returns-then-not-fits-clause-volume g c = left g.D.Device.keeps_word _ (volume_state c.args.self.now) (volume_failures c.args.self.now)

pub fits-requires : goal.fits-requires
unfolding volume_state
fits-requires g c = measurable (volume_state c.args.self.now).tree c.args.edits.now c.requires.doable
