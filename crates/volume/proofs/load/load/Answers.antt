use Rattle.std.proofs.Common.{List, ap, subst, sym}
use Rattle.std.specs.Prelude.{Err}
use Rattle.disk.specs.declared.update.Update.{Update}
use Rattle.disk.specs.Moments.{Image}
use Rattle.journal.specs.Journal.{log_of}
use Rattle.journal.specs.Log.{Log, applied_all}
use Rattle.volume.specs.declared.fault.MountFault.TheVariants as mounts
use Rattle.volume.specs.Mounts.{StandsOn}
use Rattle.volume.proofs.LoadLaws.{err_is}
use Rattle.volume.proofs.ServeLaws.{is_err_of}
use Rattle.volume.proofs.load.load.Goals as goal

pub returns-in_err-loaded-clause-loaded : goal.returns-in_err-loaded-clause-loaded
returns-in_err-loaded-clause-loaded g c = rw (is_err_of c.from_residual.result c.in_err-loaded.field-0.0 c.from_residual.ensures.1) (tt)

pub returns-in_err-loaded-clause-parents : goal.returns-in_err-loaded-clause-parents
returns-in_err-loaded-clause-parents g c = rw (is_err_of c.from_residual.result c.in_err-loaded.field-0.0 c.from_residual.ensures.1) (tt)

pub returns-in_err-loaded-clause-damaged : goal.returns-in_err-loaded-clause-damaged
returns-in_err-loaded-clause-damaged g c = λ k is kept stands.
    let log : Log = log_of c.args.store.now.journal in
    let fault = c.in_err-loaded.field-0.0 in
    let told = is_err_of c.from_residual.result fault c.from_residual.ensures.1 in
    c.in_err-loaded.ensures.damaged k (ap (λ x. Err x) (err_is c.from_residual.result fault mounts.Damaged told is)) kept
    (subst (λ (image : Image). StandsOn c.args.found image kept) (sym (ap (λ (list : List (List Update)). applied_all list log.base) c.requires.rests.listed)) stands)
