use Rattle.volume.specs.Edits.{edited_by}
use Rattle.volume.specs.VolumeState.{with_tree}
use Rattle.volume.specs.Views.{volume_state, volume_failures}
use Rattle.volume.proofs.KeepLaws.{keep_flushed, refused_unchanged}
use Rattle.volume.proofs.ServeLaws.{is_err_of}
use Rattle.volume.proofs.volume.Volume.keep_fitting.Goals as goal

pub returns-in_err-change_fitting-clause-shows : goal.returns-in_err-change_fitting-clause-shows
returns-in_err-change_fitting-clause-shows g c = rw (is_err_of c.from_residual.result c.in_err-change_fitting.field-0.0 c.from_residual.ensures.1) (tt)

pub returns-in_err-change_fitting-clause-volume : goal.returns-in_err-change_fitting-clause-volume
returns-in_err-change_fitting-clause-volume g c =
    let fault = c.in_err-change_fitting.field-0.0 in
    rw (is_err_of c.from_residual.result fault c.from_residual.ensures.1)
    (refused_unchanged g.D.Device.keeps_word (volume_state c.args.self.now) (volume_state c.change_fitting.new.self) (with_tree (volume_state c.args.self.now) (edited_by (volume_state c.args.self.now) c.args.edits.now)) _ _ fault
    c.in_err-change_fitting.ensures.volume)

pub returns-clause-volume : goal.returns-clause-volume
returns-clause-volume g c =
    keep_flushed g.D.Device.keeps_word (volume_state c.args.self.now) (volume_state c.change_fitting.new.self) (volume_state c.flush.new.self) (with_tree (volume_state c.args.self.now) (edited_by (volume_state c.args.self.now) c.args.edits.now))
    (volume_failures c.args.self.now) (volume_failures c.change_fitting.new.self) (volume_failures c.flush.new.self)
    c.in_ok-change_fitting.ensures.volume c.in_ok-change_fitting.ensures.shows c.in_ok-change_fitting.ensures.brief c.flush.ensures.brief c.flush.result c.flush.ensures.volume c.flush.ensures.down c.flush.ensures.refuses
