use Rattle.std.proofs.Common.{◌≡◌, ◌∙◌, sym, ap, is_some}
use Rattle.std.specs.Prelude.{Option, Some, None}
use Rattle.std.proofs.lemmas.Result.{err_from_is_err_and}
use Rattle.directory.specs.Records.{Record, record_from}
use Rattle.layout.specs.CachedNodes.{CachedNode}
use Rattle.model_tree.specs.declared.limits.Limits.{Limits}
use Rattle.model_tree.specs.Trees.Tree.{number_of_entry, is_directory, names_at, entry_of}
use Rattle.model_tree.specs.Refusals.Name.{name_refusals}
use Rattle.model_tree.specs.Refusals.Refusal.{first_refusal}
use Rattle.model.specs.Operations.Rename.{has_names}
use Rattle.fs.specs.Views.{fs_of}
use Rattle.fs.proofs.CachedNodeViews.{names_are, entry_at, may_remove_told}
use Rattle.fs.proofs.RemoveTests as tests
use Rattle.volume.proofs.ServeLaws.{is_err_of}
use Rattle.fs.proofs.fs.Fs.permit_removal.Goals as goal

pub returns-in_err-check_name-clause-directory : goal.returns-in_err-check_name-clause-directory
returns-in_err-check_name-clause-directory g c = rw (is_err_of c.from_residual.result c.in_err-check_name.field-0.0 c.from_residual.ensures.1) (tt)

pub returns-in_err-check_name-clause-fit : goal.returns-in_err-check_name-clause-fit
returns-in_err-check_name-clause-fit g c = rw (is_err_of c.from_residual.result c.in_err-check_name.field-0.0 c.from_residual.ensures.1) (tt)

pub returns-in_err-check_name-clause-entry : goal.returns-in_err-check_name-clause-entry
returns-in_err-check_name-clause-entry g c = rw (is_err_of c.from_residual.result c.in_err-check_name.field-0.0 c.from_residual.ensures.1) (tt)

pub returns-in_err-check_name-clause-tests : goal.returns-in_err-check_name-clause-tests
unfolding fs_of
returns-in_err-check_name-clause-tests g c =
    let held = (fs_of c.args.self.now).volume in
    let node = c.in-Some.ensures.some in
    let directory = c.is_directory.ensures.0 c.if-not-is_directory.false in
    let p = err_from_is_err_and c.from_residual.result c.from_residual.ensures.1 in
    rw (p.1, p.2) (tests.bad_name held.limits held.tree c.args.cred.now c.args.directory c.args.name.now node.node node.there
    (ap is_directory (names_are held.tree c.args.directory c.in-Some.cached.now node directory)) c.in_err-check_name.field-0.0
    (ap (λ (l : Limits). first_refusal (name_refusals l c.args.name.now)) (sym c.limits.ensures.limits) ∙ c.in_err-check_name.ensures.refused))

pub returns-in_default-get-clause-tests : goal.returns-in_default-get-clause-tests
unfolding fs_of
returns-in_default-get-clause-tests g c =
    let held = (fs_of c.args.self.now).volume in
    let node = c.in-Some.ensures.some in
    let cached_node = c.in-Some.cached.now in
    let directory = c.is_directory.ensures.0 c.if-not-is_directory.false in
    let none : entry_of c.args.name.now (names_at held.tree c.args.directory) ≡ None = entry_at held.tree c.args.directory cached_node node c.in-Some.ensures.fit directory c.args.name.now
    c.cached.inside.names (ap (λ (it : CachedNode). it.names) c.cached.view_is) None c.in_default-get.ensures.by_stamp in
    tests.no_entry held.limits held.tree c.args.cred.now c.args.directory c.args.name.now node.node node.there
    (ap is_directory (names_are held.tree c.args.directory cached_node node directory))
    (ap (λ (l : Limits). first_refusal (name_refusals l c.args.name.now)) (sym c.limits.ensures.limits) ∙ c.in_ok-check_name.ensures.allowed)
    (ap is_some none)

pub returns-then-not-may_remove-clause-tests : goal.returns-then-not-may_remove-clause-tests
unfolding fs_of
returns-then-not-may_remove-clause-tests g c =
    let held = (fs_of c.args.self.now).volume in
    let node = c.in-Some.ensures.some in
    let cached_node = c.in-Some.cached.now in
    let directory = c.is_directory.ensures.0 c.if-not-is_directory.false in
    let one = record_from c.in-Some-get.stamp c.args.name.now c.in-Some-get.number in
    let found : entry_of c.args.name.now (names_at held.tree c.args.directory) ≡ Some one = entry_at held.tree c.args.directory cached_node node c.in-Some.ensures.fit directory c.args.name.now
    c.cached.inside.names (ap (λ (it : CachedNode). it.names) c.cached.view_is) (Some one) c.in-Some-get.ensures.by_stamp in
    tests.denied held.limits held.tree c.args.cred.now c.args.directory c.args.name.now node.node node.there
    (ap is_directory (names_are held.tree c.args.directory cached_node node directory))
    (ap (λ (l : Limits). first_refusal (name_refusals l c.args.name.now)) (sym c.limits.ensures.limits) ∙ c.in_ok-check_name.ensures.allowed)
    (ap is_some found)
    (sym (may_remove_told held.tree c.args.directory cached_node node c.args.name.now c.args.cred.now c.in-Some-get.number (ap number_of_entry found))
    ∙ sym c.may_remove.ensures ∙ c.if-not-may_remove.true)

pub returns-then-has_names-clause-tests : goal.returns-then-has_names-clause-tests
unfolding fs_of
returns-then-has_names-clause-tests g c =
    let held = (fs_of c.args.self.now).volume in
    let node = c.in-Some.ensures.some in
    let cached_node = c.in-Some.cached.now in
    let directory = c.is_directory.ensures.0 c.if-not-is_directory.false in
    let one = record_from c.in-Some-get.stamp c.args.name.now c.in-Some-get.number in
    let found : entry_of c.args.name.now (names_at held.tree c.args.directory) ≡ Some one = entry_at held.tree c.args.directory cached_node node c.in-Some.ensures.fit directory c.args.name.now
    c.cached.inside.names (ap (λ (it : CachedNode). it.names) c.cached.view_is) (Some one) c.in-Some-get.ensures.by_stamp in
    tests.not_empty held.limits held.tree c.args.cred.now c.args.directory c.args.name.now node.node node.there
    (ap is_directory (names_are held.tree c.args.directory cached_node node directory))
    (ap (λ (l : Limits). first_refusal (name_refusals l c.args.name.now)) (sym c.limits.ensures.limits) ∙ c.in_ok-check_name.ensures.allowed)
    (ap is_some found)
    (sym (may_remove_told held.tree c.args.directory cached_node node c.args.name.now c.args.cred.now c.in-Some-get.number (ap number_of_entry found))
    ∙ sym c.may_remove.ensures ∙ c.if-not-may_remove.false)
    (ap (λ (o : Option Record). has_names held.tree (number_of_entry o)) found ∙ sym c.has_names.ensures ∙ c.if-has_names.true)

pub returns-clause-tests : goal.returns-clause-tests
unfolding fs_of
returns-clause-tests g c =
    let held = (fs_of c.args.self.now).volume in
    let node = c.in-Some.ensures.some in
    let cached_node = c.in-Some.cached.now in
    let directory = c.is_directory.ensures.0 c.if-not-is_directory.false in
    let one = record_from c.in-Some-get.stamp c.args.name.now c.in-Some-get.number in
    let found : entry_of c.args.name.now (names_at held.tree c.args.directory) ≡ Some one = entry_at held.tree c.args.directory cached_node node c.in-Some.ensures.fit directory c.args.name.now
    c.cached.inside.names (ap (λ (it : CachedNode). it.names) c.cached.view_is) (Some one) c.in-Some-get.ensures.by_stamp in
    tests.may_go held.limits held.tree c.args.cred.now c.args.directory c.args.name.now node.node node.there
    (ap is_directory (names_are held.tree c.args.directory cached_node node directory))
    (ap (λ (l : Limits). first_refusal (name_refusals l c.args.name.now)) (sym c.limits.ensures.limits) ∙ c.in_ok-check_name.ensures.allowed)
    (ap is_some found)
    (sym (may_remove_told held.tree c.args.directory cached_node node c.args.name.now c.args.cred.now c.in-Some-get.number (ap number_of_entry found))
    ∙ sym c.may_remove.ensures ∙ c.if-not-may_remove.false)
    (ap (λ (o : Option Record). has_names held.tree (number_of_entry o)) found ∙ sym c.has_names.ensures ∙ c.if-has_names.false)
