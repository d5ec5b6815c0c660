use Rattle.std.proofs.Common.{◌∙◌, ap, sym}
use Rattle.std.proofs.lemmas.Result.{err_from_is_err_and}
use Rattle.layout.specs.CachedNodes.{CachedNode}
use Rattle.fs.specs.Views.{fs_of}
use Rattle.fs.specs.Renaming.{arguments_of}
use Rattle.fs.proofs.RemovalPlans.{change_metadata}
use Rattle.fs.proofs.RenamedLaws as laws
use Rattle.volume.proofs.ServeLaws.{is_err_of}
use Rattle.model.specs.declared.not_done.NotDone.TheVariants as refusal
use Rattle.fs.proofs.RenameSteps.{either_planned}
use Rattle.fs.proofs.fs.Fs.plan_rename.Goals as goal

pub returns-in_err-moving-clause-planned : goal.returns-in_err-moving-clause-planned
returns-in_err-moving-clause-planned g c = rw (is_err_of c.from_residual.result (refusal.Status c.in_err-moving.field-0.0) c.from_residual.ensures.1) (tt)

pub returns-in_err-moving-clause-replaced : goal.returns-in_err-moving-clause-replaced
returns-in_err-moving-clause-replaced g c = rw (is_err_of c.from_residual.result (refusal.Status c.in_err-moving.field-0.0) c.from_residual.ensures.1) (tt)

pub returns-in_err-moving-clause-step : goal.returns-in_err-moving-clause-step
returns-in_err-moving-clause-step g c = rw (is_err_of c.from_residual.result (refusal.Status c.in_err-moving.field-0.0) c.from_residual.ensures.1) (λ state on. tt)

pub returns-clause-planned : goal.returns-clause-planned
returns-clause-planned g c = either_planned _ _ c.plan_move.result c.plan_move.ensures.planned

pub returns-clause-step : goal.returns-clause-step
returns-clause-step g c state on = either_planned _ _ c.plan_move.result (c.plan_move.ensures.step state on)

pub returns-clause-replaced : goal.returns-clause-replaced
returns-clause-replaced g c = rw (sym c.is_itself.ensures ∙ c.if-is_itself.false) c.plan_move.ensures.replaced

pub returns-in_err-moving-clause-refused : goal.returns-in_err-moving-clause-refused
returns-in_err-moving-clause-refused g c state on =
    let asked = c.args.asked in
    let p = err_from_is_err_and c.from_residual.result c.from_residual.ensures.1 in
    rw (p.1, p.2) (laws.early_refusal (fs_of c.args.self.now) c.args.cred.now asked.from asked.to c.args.now (arguments_of asked) state on c.in_err-moving.field-0.0 c.in_err-moving.ensures.tests)

pub returns-then-is_itself-clause-step : goal.returns-then-is_itself-clause-step
returns-then-is_itself-clause-step g c state on =
    let fs = fs_of c.args.self.now in
    let asked = c.args.asked in
    let moved = c.in_ok-moving.ensures.moved in
    laws.stays fs c.args.cred.now asked.from asked.to c.args.now (arguments_of asked) state on c.in_ok-moving.ensures.tests (sym c.is_itself.ensures ∙ c.if-is_itself.true)
    c.from.inside.inode.change c.to.inside.inode.change
    (change_metadata fs.volume.tree asked.from c.in_ok-moving.moving.from.now moved.from ∙ sym (ap (λ (it : CachedNode). it.fields.change) c.from.view_is))
    (change_metadata fs.volume.tree asked.to c.in_ok-moving.moving.to.now moved.to ∙ sym (ap (λ (it : CachedNode). it.fields.change) c.to.view_is))
