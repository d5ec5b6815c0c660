use Rattle.volume.proofs.ServeLaws.{is_err_of}
use Rattle.fs.specs.declared.fault.FsFault.TheVariants as fault
use Rattle.fs.specs.Views.{fs_of}
use Rattle.fs.proofs.CurrentOpens as laws
use Rattle.fs.proofs.fs.Fs.open_current.Goals as goal

pub returns-in_err-permit_current-clause-step : goal.returns-in_err-permit_current-clause-step
returns-in_err-permit_current-clause-step g c state now arguments on is =
    let told = is_err_of c.from_residual.result (fault.Status c.in_err-permit_current.field-0.0) c.from_residual.ensures.1 in
    rw told (laws.refused_by (fs_of c.args.self.now) c.args.cred.now now c.args.number c.args.share c.args.is_create c.args.is_full state arguments on is
    c.in_err-permit_current.field-0.0 (c.in_err-permit_current.ensures.tests state arguments is.how on.is_state is.access_is is.deny_is is.creates_is))

pub returns-then-is_full-clause-step : goal.returns-then-is_full-clause-step
returns-then-is_full-clause-step g c state now arguments on is =
    laws.table_full (fs_of c.args.self.now) c.args.cred.now now c.args.number c.args.share c.args.is_create c.args.is_full state arguments on is
    (c.in_ok-permit_current.ensures.tests state arguments is.how on.is_state is.access_is is.deny_is is.creates_is) c.if-is_full.true

pub returns-clause-step : goal.returns-clause-step
returns-clause-step g c state now arguments on is =
    laws.is_opened (fs_of c.args.self.now) c.args.cred.now now c.args.number c.args.share c.args.is_create c.args.is_full state arguments on is
    (c.in_ok-permit_current.ensures.tests state arguments is.how on.is_state is.access_is is.deny_is is.creates_is) c.if-is_full.false
