use Rattle.std.proofs.Common.{◌≡◌, ap, is_some}
use Rattle.std.specs.Prelude.{Some, None}
use Rattle.std.proofs.lemmas.Result.{err_from_is_err_and}
use Rattle.directory.specs.Records.{record_from}
use Rattle.layout.specs.CachedNodes.{CachedNode}
use Rattle.model_tree.specs.Trees.Tree.{number_of_entry, entry_of, names_at}
use Rattle.fs.specs.Views.{fs_of}
use Rattle.fs.proofs.CachedNodeViews.{entry_at}
use Rattle.fs.proofs.NamedOpens as laws
use Rattle.volume.proofs.ServeLaws.{is_err_of}
use Rattle.model.specs.declared.not_done.NotDone.TheVariants as refusal
use Rattle.fs.proofs.fs.Fs.plan_open.Goals as goal

pub returns-in_err-directory-clause-planned : goal.returns-in_err-directory-clause-planned
returns-in_err-directory-clause-planned g c = rw (is_err_of c.from_residual.result (refusal.Status c.in_err-directory.field-0.0) c.from_residual.ensures.1) (tt)

pub returns-in_err-directory-clause-step : goal.returns-in_err-directory-clause-step
returns-in_err-directory-clause-step g c = rw (is_err_of c.from_residual.result (refusal.Status c.in_err-directory.field-0.0) c.from_residual.ensures.1) (λ state arguments on is. tt)

pub returns-in_err-directory-clause-opened : goal.returns-in_err-directory-clause-opened
returns-in_err-directory-clause-opened g c = rw (is_err_of c.from_residual.result (refusal.Status c.in_err-directory.field-0.0) c.from_residual.ensures.1) (tt)

pub returns-in_err-directory-clause-full : goal.returns-in_err-directory-clause-full
returns-in_err-directory-clause-full g c = rw (is_err_of c.from_residual.result (refusal.Status c.in_err-directory.field-0.0) c.from_residual.ensures.1) (tt)

pub returns-in_err-directory-clause-refused : goal.returns-in_err-directory-clause-refused
returns-in_err-directory-clause-refused g c state arguments on is =
    let p = err_from_is_err_and c.from_residual.result c.from_residual.ensures.1 in
    rw (p.1, p.2) (laws.refused_place (fs_of c.args.self.now) c.args.cred.now c.args.now c.args.asked c.args.is_full state arguments on is
    c.in_err-directory.field-0.0 (c.in_err-directory.ensures.tests state arguments on.is_state is.access_is is.deny_is))

pub plan_new-requires-clause-lacks : goal.plan_new-requires-clause-lacks
plan_new-requires-clause-lacks g c =
    let tree = (fs_of c.args.self.now).volume.tree in
    let asked = c.args.asked in
    let directory = c.in_ok-directory.ensures.directory in
    let none : entry_of asked.name.now (names_at tree asked.directory) ≡ None = entry_at tree asked.directory c.in_ok-directory.directory.now directory.node directory.fit directory.directory asked.name.now
    c.directory.inside.names (ap (λ (it : CachedNode). it.names) c.directory.view_is) None c.in_default.ensures.by_stamp in
    ap is_some none

pub plan_known-requires-clause-leads : goal.plan_known-requires-clause-leads
plan_known-requires-clause-leads g c =
    let tree = (fs_of c.args.self.now).volume.tree in
    let asked = c.args.asked in
    let directory = c.in_ok-directory.ensures.directory in
    let one = record_from c.in-Some.entry.0 asked.name.now c.in-Some.entry.1 in
    let found : entry_of asked.name.now (names_at tree asked.directory) ≡ Some one = entry_at tree asked.directory c.in_ok-directory.directory.now directory.node directory.fit directory.directory asked.name.now
    c.directory.inside.names (ap (λ (it : CachedNode). it.names) c.directory.view_is) (Some one) c.in-Some.ensures.by_stamp in
    record { is_there = ap is_some found; number_is = ap number_of_entry found }
