use Rattle.std.proofs.Common.{sym, ap, ◌∙◌}
use Rattle.model.specs.Operations.Answer.{Answer}
use Rattle.model.specs.Operations.Step.{answered, moved_to}
use Rattle.fs.proofs.HandleLaws.{bad_handle, stale_handle, handle_put}
use Rattle.fs.specs.Views.{fs_of}
use Rattle.fs.specs.declared.fault.FsFault.TheVariants as fault
use Rattle.volume.proofs.ServeLaws.{is_err_of}
use Rattle.fs.proofs.fs.Fs.put_handle.Goals as goal

pub returns-in_err-number-clause-step : goal.returns-in_err-number-clause-step
returns-in_err-number-clause-step g c state now same =
    let told = is_err_of c.from_residual.result (fault.Status c.in_err-number.field-0.0) c.from_residual.ensures.1 in
    rw (told, c.in_err-number.ensures.0) (bad_handle (fs_of c.args.self.now).volume.limits state now c.args.handle.now c.in_err-number.ensures.1)

pub returns-then-not-has-clause-step : goal.returns-then-not-has-clause-step
returns-then-not-has-clause-step g c state now same =
    stale_handle (fs_of c.args.self.now).volume.limits state now c.args.handle.now c.in_ok-number.ensures.1
    (rw (same, ← c.in_ok-number.ensures.0) (sym c.has.ensures ∙ c.if-not-has.true))

pub returns-clause-step : goal.returns-clause-step
returns-clause-step g c state now same =
    handle_put (fs_of c.args.self.now).volume.limits state now c.args.handle.now c.in_ok-number.ensures.1
    (rw (same, ← c.in_ok-number.ensures.0) (sym c.has.ensures ∙ c.if-not-has.false))
    ∙ ap (λ number. answered (moved_to state number) Answer.PutFh) (sym c.in_ok-number.ensures.0)
