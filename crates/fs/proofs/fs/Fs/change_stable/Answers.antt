use Rattle.std.proofs.Common.{refl}
use Rattle.fs.specs.Views.{fs_of, fs_failures}
use Rattle.fs.specs.Refusals.{volume_fault}
use Rattle.volume.specs.Changes.{Done, IsTree}
use Rattle.volume.specs.Edits.{edited_by}
use Rattle.volume.specs.VolumeState.{with_tree}
use Rattle.volume.proofs.ServeLaws.{is_err_of}
use Rattle.fs.proofs.ChangeLaws.{at_once, later, refused_later, not_done, told_so}
use Rattle.fs.proofs.fs.Fs.change_stable.Goals as goal
use Rattle.fs.proofs.fs.Fs.change_stable.Goals.{then-self+in_ok-change_fitting, else-self+in_ok-keep_fitting}

pub returns-in_err-change_fitting-clause-volume : goal.returns-in_err-change_fitting-clause-volume
unfolding fs_of fs_failures
returns-in_err-change_fitting-clause-volume g c =
    let fs = fs_of c.args.self.now in
    let fault = c.in_err-change_fitting.field-0.0 in
    rw (is_err_of c.from_residual.result (volume_fault fault) c.from_residual.ensures.1)
    (told_so g.D.Device.keeps_word (IsTree fs.volume (edited_by fs.volume c.args.edits.now)) _ _ _ _ fault
    (refused_later g.D.Device.keeps_word _ _ _ _ _ (with_tree fs.volume (edited_by fs.volume c.args.edits.now)) (λ failed. refl) refl c.if-self.true refl (not_done fault) c.in_err-change_fitting.ensures.volume))

pub returns-in_err-keep_fitting-clause-volume : goal.returns-in_err-keep_fitting-clause-volume
unfolding fs_of fs_failures
returns-in_err-keep_fitting-clause-volume g c =
    let fs = fs_of c.args.self.now in
    let fault = c.in_err-keep_fitting.field-0.0 in
    rw (is_err_of c.from_residual-in_err-keep_fitting.result (volume_fault fault) c.from_residual-in_err-keep_fitting.ensures.1)
    (told_so g.D.Device.keeps_word (IsTree fs.volume (edited_by fs.volume c.args.edits.now)) _ _ _ _ fault
    (at_once g.D.Device.keeps_word _ _ _ _ _ (with_tree fs.volume (edited_by fs.volume c.args.edits.now)) (λ failed. refl) refl c.if-self.false refl c.in_err-keep_fitting.ensures.volume))

pub returns-clause-volume : goal.returns-clause-volume
unfolding fs_of fs_failures
returns-clause-volume g c =
    let edited = with_tree (fs_of c.args.self.now).volume (edited_by (fs_of c.args.self.now).volume c.args.edits.now) in
    elim c.if-self.branch [
      | then-self+in_ok-change_fitting w ↦ rw w.self-is
          (later g.D.Device.keeps_word _ _ _ _ Done edited (λ failed. absurd (failed refl)) refl w.if-self.true refl refl w.in_ok-change_fitting.ensures.volume)
      | else-self+in_ok-keep_fitting w ↦ rw w.self-is
          (at_once g.D.Device.keeps_word _ _ _ _ Done edited (λ failed. absurd (failed refl)) refl w.if-self.false refl w.in_ok-keep_fitting.ensures.volume)
    ]
