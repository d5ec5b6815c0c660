use Rattle.std.proofs.Common.{◌∙◌, true, false, sym, ap}
use Rattle.std.proofs.lemmas.Result.{err_from_is_err_and}
use Rattle.model_tree.specs.declared.limits.Limits.{Limits}
use Rattle.model_tree.specs.Rights.Acl.{execute}
use Rattle.model_tree.specs.Refusals.Name.{name_refusals}
use Rattle.model_tree.specs.Refusals.Refusal.{first_refusal}
use Rattle.model_tree.specs.Trees.Tree.{is_directory}
use Rattle.fs.specs.Views.{fs_of}
use Rattle.fs.proofs.CachedNodeViews.{granted_by, names_are}
use Rattle.fs.proofs.OpenTests as tests
use Rattle.volume.proofs.ServeLaws.{is_err_of}
use Rattle.fs.proofs.fs.Fs.permit_place.Goals as goal

pub returns-in_err-check_share-clause-directory : goal.returns-in_err-check_share-clause-directory
returns-in_err-check_share-clause-directory g c = rw (is_err_of c.from_residual.result c.in_err-check_share.field-0.0 c.from_residual.ensures.1) (tt)

pub returns-in_err-check_share-clause-name : goal.returns-in_err-check_share-clause-name
returns-in_err-check_share-clause-name g c = rw (is_err_of c.from_residual.result c.in_err-check_share.field-0.0 c.from_residual.ensures.1) (tt)

pub returns-in_err-check_name-clause-directory : goal.returns-in_err-check_name-clause-directory
returns-in_err-check_name-clause-directory g c = rw (is_err_of c.from_residual-in_err-check_name.result c.in_err-check_name.field-0.0 c.from_residual-in_err-check_name.ensures.1) (tt)

pub returns-in_err-check_name-clause-name : goal.returns-in_err-check_name-clause-name
returns-in_err-check_name-clause-name g c = rw (is_err_of c.from_residual-in_err-check_name.result c.in_err-check_name.field-0.0 c.from_residual-in_err-check_name.ensures.1) (tt)

pub returns-in_err-check_name-clause-tests : goal.returns-in_err-check_name-clause-tests
unfolding fs_of
returns-in_err-check_name-clause-tests g c state arguments is access deny =
    let held = (fs_of c.args.self.now).volume in
    let asked = c.args.asked in
    let node = c.in-Some.ensures.some in
    let directory = c.is_directory.ensures.0 c.if-not-is_directory.false in
    let p = err_from_is_err_and c.from_residual-in_err-check_name.result c.from_residual-in_err-check_name.ensures.1 in
    rw (p.1, p.2) (tests.bad_name held.limits held.tree c.args.cred.now asked.directory asked.name.now state is arguments node.node node.there
    (c.in_ok-check_share.ensures arguments access deny) (ap is_directory (names_are held.tree asked.directory c.in-Some.cached.now node directory)) c.in_err-check_name.field-0.0
    (ap (λ (l : Limits). first_refusal (name_refusals l asked.name.now)) (sym c.limits.ensures.limits) ∙ c.in_err-check_name.ensures.refused))

pub returns-then-not-grants-clause-tests : goal.returns-then-not-grants-clause-tests
unfolding fs_of
returns-then-not-grants-clause-tests g c state arguments is access deny =
    let held = (fs_of c.args.self.now).volume in
    let asked = c.args.asked in
    let node = c.in-Some.ensures.some in
    let directory = c.is_directory.ensures.0 c.if-not-is_directory.false in
    tests.by_right held.limits held.tree c.args.cred.now asked.directory asked.name.now state is arguments node.node node.there
    (c.in_ok-check_share.ensures arguments access deny) (ap is_directory (names_are held.tree asked.directory c.in-Some.cached.now node directory))
    (ap (λ (l : Limits). first_refusal (name_refusals l asked.name.now)) (sym c.limits.ensures.limits) ∙ c.in_ok-check_name.ensures.allowed)
    false (sym (granted_by held.tree asked.directory c.in-Some.cached.now node c.args.cred.now execute) ∙ (sym c.grants.ensures ∙ c.if-not-grants.true))

pub returns-clause-tests : goal.returns-clause-tests
unfolding fs_of
returns-clause-tests g c state arguments is access deny =
    let held = (fs_of c.args.self.now).volume in
    let asked = c.args.asked in
    let node = c.in-Some.ensures.some in
    let directory = c.is_directory.ensures.0 c.if-not-is_directory.false in
    tests.by_right held.limits held.tree c.args.cred.now asked.directory asked.name.now state is arguments node.node node.there
    (c.in_ok-check_share.ensures arguments access deny) (ap is_directory (names_are held.tree asked.directory c.in-Some.cached.now node directory))
    (ap (λ (l : Limits). first_refusal (name_refusals l asked.name.now)) (sym c.limits.ensures.limits) ∙ c.in_ok-check_name.ensures.allowed)
    true (sym (granted_by held.tree asked.directory c.in-Some.cached.now node c.args.cred.now execute) ∙ (sym c.grants.ensures ∙ c.if-not-grants.false))
