use Rattle.std.proofs.Common.{refl}
use Rattle.fs.specs.Views.{fs_of, fs_failures}
use Rattle.fs.specs.Refusals.{volume_fault}
use Rattle.volume.specs.Changes.{Done, Stays}
use Rattle.volume.proofs.ServeLaws.{is_err_of}
use Rattle.fs.proofs.ChangeLaws.{stays, told_so}
use Rattle.fs.proofs.fs.Fs.checkpoint.Goals as goal

pub returns-in_err-checkpoint-clause-volume : goal.returns-in_err-checkpoint-clause-volume
unfolding fs_of fs_failures
returns-in_err-checkpoint-clause-volume g c =
    let fs = fs_of c.args.self.now in
    let fault = c.in_err-checkpoint.field-0.0 in
    rw (is_err_of c.from_residual.result (volume_fault fault) c.from_residual.ensures.1)
    (told_so g.D.Device.keeps_word (Stays fs.volume) _ _ _ _ fault
    (stays g.D.Device.keeps_word _ _ _ _ _ (λ failed. refl) refl refl c.in_err-checkpoint.ensures.volume))

pub returns-clause-volume : goal.returns-clause-volume
unfolding fs_of fs_failures
returns-clause-volume g c =
    stays g.D.Device.keeps_word _ _ _ _ Done (λ failed. refl) refl refl c.in_ok-checkpoint.ensures.volume
