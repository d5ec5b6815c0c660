use Rattle.std.proofs.Common.{refl}
use Rattle.fs.specs.Views.{fs_of, fs_failures}
use Rattle.fs.specs.Refusals.{volume_fault}
use Rattle.volume.proofs.ServeLaws.{is_err_of}
use Rattle.fs.proofs.ChangeLaws.{flush_refused}
use Rattle.fs.proofs.fs.Fs.flush.Goals as goal

pub returns-in_err-flush-clause-flushes : goal.returns-in_err-flush-clause-flushes
unfolding fs_of fs_failures
returns-in_err-flush-clause-flushes g c =
    let fault = c.in_err-flush.field-0.0 in
    rw (is_err_of c.from_residual.result (volume_fault fault) c.from_residual.ensures.1)
    (flush_refused g.D.Device.keeps_word _ _ _ _ fault refl refl refl c.in_err-flush.ensures.volume)

pub returns-clause-flushes : goal.returns-clause-flushes
unfolding fs_of fs_failures
returns-clause-flushes g c = record { volume_changes = c.in_ok-flush.ensures.volume; no_count = refl; mode = refl; waits = refl }
