use Rattle.std.proofs.Common.{refl}
use Rattle.fs.specs.Views.{fs_of, fs_failures}
use Rattle.fs.specs.Refusals.{volume_fault}
use Rattle.volume.specs.Changes.{Done}
use Rattle.volume.specs.Edits.{IsEdited, edited_by}
use Rattle.volume.specs.VolumeState.{with_tree}
use Rattle.volume.proofs.ServeLaws.{is_err_of}
use Rattle.fs.proofs.ChangeLaws.{unstable, told_so}
use Rattle.fs.proofs.fs.Fs.change_unstable.Goals as goal

pub returns-in_err-change_fitting-clause-volume : goal.returns-in_err-change_fitting-clause-volume
unfolding fs_of fs_failures
returns-in_err-change_fitting-clause-volume g c =
    let fs = fs_of c.args.self.now in
    let fault = c.in_err-change_fitting.field-0.0 in
    rw (is_err_of c.from_residual.result (volume_fault fault) c.from_residual.ensures.1)
    (told_so g.D.Device.keeps_word (IsEdited fs.volume c.args.edits.now) _ _ _ _ fault
    (unstable g.D.Device.keeps_word _ _ _ _ _ (with_tree fs.volume (edited_by fs.volume c.args.edits.now)) (λ failed. refl) refl refl c.in_err-change_fitting.ensures.volume))

pub returns-clause-volume : goal.returns-clause-volume
unfolding fs_of fs_failures
returns-clause-volume g c =
    unstable g.D.Device.keeps_word _ _ _ _ Done (with_tree (fs_of c.args.self.now).volume (edited_by (fs_of c.args.self.now).volume c.args.edits.now)) (λ failed. absurd (failed refl)) refl refl c.in_ok-change_fitting.ensures.volume
