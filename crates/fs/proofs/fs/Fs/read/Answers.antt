use Rattle.std.proofs.Common.{ap, refl}
use Rattle.std.specs.Prelude.{Err}
use Rattle.fs.specs.Views.{fs_of, fs_failures}
use Rattle.fs.specs.Reading.{part_at, read_operation}
use Rattle.fs.specs.Refusals.{volume_fault}
use Rattle.fs.specs.declared.fault.FsFault.TheVariants as fault
use Rattle.fs.proofs.ReadLaws.{read_early, read_goes, read_goes_on, read_fails}
use Rattle.volume.proofs.ServeLaws.{is_err_of}
use Rattle.fs.proofs.ChangeLaws.{left}
use Rattle.fs.proofs.ReadsOnly.{reading_fails, reading_goes}
use Rattle.fs.proofs.fs.Fs.read.Goals as goal

pub returns-in_err-part-clause-volume : goal.returns-in_err-part-clause-volume
returns-in_err-part-clause-volume g c = rw (is_err_of c.from_residual.result (fault.Status c.in_err-part.field-0.0) c.from_residual.ensures.1) (left g.D.Device.keeps_word _ (fs_of c.args.self.now) (fs_failures c.args.self.now))

pub returns-in_err-part-clause-bytes : goal.returns-in_err-part-clause-bytes
returns-in_err-part-clause-bytes g c = rw (is_err_of c.from_residual.result (fault.Status c.in_err-part.field-0.0) c.from_residual.ensures.1) (λ keeps. tt)

pub returns-then-is_down-clause-volume : goal.returns-then-is_down-clause-volume
returns-then-is_down-clause-volume g c = left g.D.Device.keeps_word _ (fs_of c.args.self.now) (fs_failures c.args.self.now)

pub returns-else-part-gt0-clause-volume : goal.returns-else-part-gt0-clause-volume
returns-else-part-gt0-clause-volume g c = left g.D.Device.keeps_word _ (fs_of c.args.self.now) (fs_failures c.args.self.now)

pub returns-in_err-part-clause-step : goal.returns-in_err-part-clause-step
returns-in_err-part-clause-step g c state now stateid on is =
    let told = is_err_of c.from_residual.result (fault.Status c.in_err-part.field-0.0) c.from_residual.ensures.1 in
    rw told (read_early (fs_of c.args.self.now) c.args.cred.now c.args.number state now on c.args.verdict stateid is c.args.offset c.args.count c.in_err-part.field-0.0 c.in_err-part.ensures.tests)

pub returns-in_err-bytes-clause-step : goal.returns-in_err-bytes-clause-step
unfolding fs_of
returns-in_err-bytes-clause-step g c state now stateid on is =
    let fs = fs_of c.args.self.now in
    let told = is_err_of c.from_residual-in_err-bytes.result (volume_fault c.in_err-bytes.field-0.0) c.from_residual-in_err-bytes.ensures.1 in
    rw told (read_fails fs state now (read_operation stateid c.args.offset c.args.count) (part_at fs c.args.number c.args.offset c.args.count) c.in_err-bytes.field-0.0 c.in_err-bytes.ensures.refuses
    (λ down. c.in_err-bytes.ensures.down.0 (ap Err down))
    (read_goes_on fs c.args.cred.now c.args.number state now on c.args.verdict stateid is c.args.offset c.args.count c.in_ok-part.ensures.tests))

pub returns-in_ok-bytes-clause-step : goal.returns-in_ok-bytes-clause-step
returns-in_ok-bytes-clause-step g c state now stateid on is =
    read_goes (fs_of c.args.self.now) c.args.cred.now c.args.number state now on c.args.verdict stateid is c.args.offset c.args.count c.in_ok-part.ensures.tests c.in_ok-part.part.is_end c.in_ok-part.ensures.is_end

pub returns-else-part-gt0-clause-step : goal.returns-else-part-gt0-clause-step
returns-else-part-gt0-clause-step g c state now stateid on is =
    read_goes (fs_of c.args.self.now) c.args.cred.now c.args.number state now on c.args.verdict stateid is c.args.offset c.args.count c.in_ok-part.ensures.tests c.in_ok-part.part.is_end c.in_ok-part.ensures.is_end

pub returns-in_err-bytes-clause-volume : goal.returns-in_err-bytes-clause-volume
unfolding fs_of fs_failures
returns-in_err-bytes-clause-volume g c =
    let fs = fs_of c.args.self.now in
    let fault = c.in_err-bytes.field-0.0 in
    rw (is_err_of c.from_residual-in_err-bytes.result (volume_fault fault) c.from_residual-in_err-bytes.ensures.1)
    (reading_fails g.D.Device.keeps_word fs _ _ _ fs.volume.tree fault refl refl refl c.in_err-bytes.ensures.volume)

pub returns-in_ok-bytes-clause-volume : goal.returns-in_ok-bytes-clause-volume
unfolding fs_of fs_failures
returns-in_ok-bytes-clause-volume g c =
    let fs = fs_of c.args.self.now in
    reading_goes g.D.Device.keeps_word fs _ _ _ fs.volume.tree refl refl refl c.in_ok-bytes.ensures.volume
