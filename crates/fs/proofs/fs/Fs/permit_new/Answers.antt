use Rattle.std.proofs.Common.{◌∙◌, true, false, Option, sym, ap}
use Rattle.std.proofs.lemmas.Result.{err_from_is_err_and}
use Rattle.model_tree.specs.Rights.Acl.{write_data}
use Rattle.model.specs.Operations.Need.{granted_on}
use Rattle.model.specs.Operations.Open.{new_refusals}
use Rattle.model_tree.specs.Trees.Tree.{Node}
use Rattle.fs.specs.Views.{fs_of}
use Rattle.fs.specs.Opening.{file_tests, type_of}
use Rattle.fs.proofs.CachedNodeViews.{granted_by}
use Rattle.fs.proofs.OpenTests as tests
use Rattle.fs.proofs.RefusedLaws.{carried}
use Rattle.volume.proofs.ServeLaws.{is_err_of}
use Rattle.fs.proofs.fs.Fs.permit_new.Goals as goal

pub returns-in_err-settings-clause-settings : goal.returns-in_err-settings-clause-settings
returns-in_err-settings-clause-settings g c = rw (is_err_of c.from_residual.result c.in_err-settings.field-0.0 c.from_residual.ensures.1) (tt)

pub returns-in_err-settings-clause-within : goal.returns-in_err-settings-clause-within
returns-in_err-settings-clause-within g c = rw (is_err_of c.from_residual.result c.in_err-settings.field-0.0 c.from_residual.ensures.1) (tt)

pub returns-in_err-settings-clause-tests : goal.returns-in_err-settings-clause-tests
unfolding fs_of
returns-in_err-settings-clause-tests g c state is =
    let held = (fs_of c.args.self.now).volume in
    let asked = c.args.asked in
    let p = err_from_is_err_and c.from_residual.result c.from_residual.ensures.1 in
    rw (p.1, p.2) (carried (new_refusals held.limits (type_of asked.how)) (file_tests held.limits state asked.share.access (type_of asked.how) asked.name.now)
    (λ reason bad. tests.bad_new held.limits held.tree c.args.cred.now asked.directory asked.name.now state is asked.share.access (type_of asked.how) c.requires.lacks reason bad)
    c.in_err-settings.field-0.0 c.in_err-settings.ensures.tests)

pub returns-then-not-grants-clause-tests : goal.returns-then-not-grants-clause-tests
unfolding fs_of
returns-then-not-grants-clause-tests g c state is =
    let held = (fs_of c.args.self.now).volume in
    let asked = c.args.asked in
    let node = c.requires.directory.node in
    tests.by_adding held.limits held.tree c.args.cred.now asked.directory asked.name.now state is asked.share.access (type_of asked.how) c.requires.lacks
    c.in_ok-settings.ensures.tests false (ap (λ (o : Option Node). granted_on o c.args.cred.now write_data) node.there
    ∙ (sym (granted_by held.tree asked.directory c.args.directory.now node c.args.cred.now write_data) ∙ (sym c.grants.ensures ∙ c.if-not-grants.true)))

pub returns-clause-tests : goal.returns-clause-tests
unfolding fs_of
returns-clause-tests g c state is =
    let held = (fs_of c.args.self.now).volume in
    let asked = c.args.asked in
    let node = c.requires.directory.node in
    tests.by_adding held.limits held.tree c.args.cred.now asked.directory asked.name.now state is asked.share.access (type_of asked.how) c.requires.lacks
    c.in_ok-settings.ensures.tests true (ap (λ (o : Option Node). granted_on o c.args.cred.now write_data) node.there
    ∙ (sym (granted_by held.tree asked.directory c.args.directory.now node c.args.cred.now write_data) ∙ (sym c.grants.ensures ∙ c.if-not-grants.false)))
