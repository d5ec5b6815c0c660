use Rattle.std.proofs.Common.{rules, ◌+◌, ◌^◌, ap}
use Rattle.std.proofs.lemmas.Bool.{lt-ltb}
use Rattle.std.proofs.lemmas.Result.{err_from_is_err_and}
use Rattle.directory.specs.Records.{record_from}
use Rattle.layout.specs.CachedNodes.{CachedNode}
use Rattle.fs.specs.Views.{fs_of}
use Rattle.fs.proofs.RemovalPlans as plans
use Rattle.fs.proofs.RemovedLaws as laws
use Rattle.volume.specs.Views.{volume_state}
use Rattle.volume.proofs.ServeLaws.{is_err_of}
use Rattle.model.specs.declared.not_done.NotDone.TheVariants as refusal
use Rattle.volume.proofs.LimitLaws.{limited_of}
use Rattle.fs.proofs.fs.Fs.plan_removal.Goals as goal

pub returns-in_err-removal-clause-planned : goal.returns-in_err-removal-clause-planned
returns-in_err-removal-clause-planned g c = rw (is_err_of c.from_residual.result (refusal.Status c.in_err-removal.field-0.0) c.from_residual.ensures.1) (tt)

pub returns-in_err-removal-clause-gone : goal.returns-in_err-removal-clause-gone
returns-in_err-removal-clause-gone g c = rw (is_err_of c.from_residual.result (refusal.Status c.in_err-removal.field-0.0) c.from_residual.ensures.1) (tt)

pub returns-in_err-removal-clause-step : goal.returns-in_err-removal-clause-step
returns-in_err-removal-clause-step g c = rw (is_err_of c.from_residual.result (refusal.Status c.in_err-removal.field-0.0) c.from_residual.ensures.1) (λ state on. tt)

pub returns-in_err-metadata-clause-planned : goal.returns-in_err-metadata-clause-planned
returns-in_err-metadata-clause-planned g c = rw (is_err_of c.from_residual-in_err-metadata.result refusal.Memory c.from_residual-in_err-metadata.ensures.1) (tt)

pub returns-in_err-metadata-clause-gone : goal.returns-in_err-metadata-clause-gone
returns-in_err-metadata-clause-gone g c = rw (is_err_of c.from_residual-in_err-metadata.result refusal.Memory c.from_residual-in_err-metadata.ensures.1) (tt)

pub returns-in_err-metadata-clause-step : goal.returns-in_err-metadata-clause-step
returns-in_err-metadata-clause-step g c = rw (is_err_of c.from_residual-in_err-metadata.result refusal.Memory c.from_residual-in_err-metadata.ensures.1) (λ state on. tt)

pub returns-in_err-metadata-clause-refused : goal.returns-in_err-metadata-clause-refused
returns-in_err-metadata-clause-refused g c = rw (is_err_of c.from_residual-in_err-metadata.result refusal.Memory c.from_residual-in_err-metadata.ensures.1) (λ state on. tt)

pub returns-in_err-edits-clause-planned : goal.returns-in_err-edits-clause-planned
returns-in_err-edits-clause-planned g c = rw (is_err_of c.from_residual-in_err-edits.result refusal.Memory c.from_residual-in_err-edits.ensures.1) (tt)

pub returns-in_err-edits-clause-gone : goal.returns-in_err-edits-clause-gone
returns-in_err-edits-clause-gone g c = rw (is_err_of c.from_residual-in_err-edits.result refusal.Memory c.from_residual-in_err-edits.ensures.1) (tt)

pub returns-in_err-edits-clause-step : goal.returns-in_err-edits-clause-step
returns-in_err-edits-clause-step g c = rw (is_err_of c.from_residual-in_err-edits.result refusal.Memory c.from_residual-in_err-edits.ensures.1) (λ state on. tt)

pub returns-in_err-edits-clause-refused : goal.returns-in_err-edits-clause-refused
returns-in_err-edits-clause-refused g c = rw (is_err_of c.from_residual-in_err-edits.result refusal.Memory c.from_residual-in_err-edits.ensures.1) (λ state on. tt)

pub returns-in_err-removal-clause-refused : goal.returns-in_err-removal-clause-refused
returns-in_err-removal-clause-refused g c state on =
    let fs = fs_of c.args.self.now in
    let p = err_from_is_err_and c.from_residual.result c.from_residual.ensures.1 in
    rw (p.1, p.2) (laws.early_refusal fs c.args.cred.now c.args.now c.args.directory c.args.name.now state on c.in_err-removal.field-0.0 c.in_err-removal.ensures.tests)

pub returns-in_default-clause-refused : goal.returns-in_default-clause-refused
unfolding fs_of volume_state
returns-in_default-clause-refused g c state on =
    let fs = fs_of c.args.self.now in
    let removal = c.in_ok-removal.removal in
    laws.used_up fs (c.args.self.now.ready c.requires.up) c.args.self.now.counted (limited_of c.args.self.now.volume) c.args.cred.now c.args.now c.args.directory c.args.name.now
    (record_from removal.stamp c.args.name.now removal.number) c.in_ok-removal.ensures.entry c.in_ok-removal.ensures.tests
    state on c.in_default.ensures

pub returns-clause-planned : goal.returns-clause-planned
unfolding fs_of volume_state
returns-clause-planned g c =
    let fs = fs_of c.args.self.now in
    let removal = c.in_ok-removal.removal in
    plans.planned fs (c.args.self.now.ready c.requires.up) c.args.self.now.counted (limited_of c.args.self.now.volume) c.args.cred.now c.args.now c.args.directory
    removal.directory.now c.args.name removal.stamp removal.number c.in_ok-removal.ensures.directory c.in_ok-removal.ensures.fit
    c.in_ok-removal.ensures.entry c.in_ok-removal.ensures.tests
    c.in-Some.stamp c.in_ok-metadata.metadata c.in_ok-edits.edits.items c.in-Some.ensures.0 c.in_ok-metadata.ensures c.in_ok-edits.ensures
    c.in-Some.ensures.1

pub returns-clause-step : goal.returns-clause-step
unfolding fs_of volume_state
returns-clause-step g c state on =
    let fs = fs_of c.args.self.now in
    let removal = c.in_ok-removal.removal in
    plans.goes_on fs (c.args.self.now.ready c.requires.up) c.args.self.now.counted (limited_of c.args.self.now.volume) c.args.cred.now c.args.now c.args.directory
    removal.directory.now c.args.name removal.stamp removal.number c.in_ok-removal.ensures.directory c.in_ok-removal.ensures.fit
    c.in_ok-removal.ensures.entry c.in_ok-removal.ensures.tests
    c.in-Some.stamp c.in_ok-metadata.metadata c.in_ok-edits.edits.items c.in-Some.ensures.0 c.in_ok-metadata.ensures c.in_ok-edits.ensures
    state on (lt-ltb (fs.changes + 1) (2 ^ 32) c.in-Some.ensures.1)
    c.holder.inside.inode.change (ap (λ (it : CachedNode). it.fields.change) c.holder.view_is)

pub returns-clause-gone : goal.returns-clause-gone
unfolding fs_of
returns-clause-gone g c = search rules
