use Rattle.std.proofs.Common.{◌≡◌, ◌∙◌, true, false, sym, ap, is_some}
use Rattle.std.specs.Prelude.{Some, None}
use Rattle.std.proofs.lemmas.Result.{err_from_is_err_and}
use Rattle.directory.specs.Records.{record_from}
use Rattle.layout.specs.CachedNodes.{CachedNode}
use Rattle.model_tree.specs.declared.limits.Limits.{Limits}
use Rattle.model_tree.specs.Refusals.Name.{name_refusals}
use Rattle.model_tree.specs.Refusals.Refusal.{first_refusal}
use Rattle.model_tree.specs.Trees.Tree.{names_at, entry_of}
use Rattle.fs.specs.Views.{fs_of}
use Rattle.fs.specs.Renaming.{arguments_of}
use Rattle.fs.proofs.CachedNodeViews.{entry_at}
use Rattle.fs.proofs.RenameSteps as steps
use Rattle.volume.proofs.ServeLaws.{is_err_of}
use Rattle.fs.proofs.fs.Fs.find_moved.Goals as goal

pub returns-in_err-from-clause-moved : goal.returns-in_err-from-clause-moved
returns-in_err-from-clause-moved g c = rw (is_err_of c.from_residual.result c.in_err-from.field-0.0 c.from_residual.ensures.1) (tt)

pub returns-in_err-check_name-clause-moved : goal.returns-in_err-check_name-clause-moved
returns-in_err-check_name-clause-moved g c = rw (is_err_of c.from_residual-in_err-check_name.result c.in_err-check_name.field-0.0 c.from_residual-in_err-check_name.ensures.1) (tt)

pub returns-in_err-check_name-2-clause-moved : goal.returns-in_err-check_name-2-clause-moved
returns-in_err-check_name-2-clause-moved g c = rw (is_err_of c.from_residual-in_err-check_name-2.result c.in_err-check_name-2.field-0.0 c.from_residual-in_err-check_name-2.ensures.1) (tt)

pub returns-in_err-from-clause-tests : goal.returns-in_err-from-clause-tests
returns-in_err-from-clause-tests g c =
    let held = (fs_of c.args.self.now).volume in
    let asked = c.args.asked in
    let p = err_from_is_err_and c.from_residual.result c.from_residual.ensures.1 in
    rw (p.1, p.2) (steps.bad_directories held.limits held.tree asked.from asked.to (arguments_of asked) c.in_err-from.field-0.0 c.in_err-from.ensures.tests)

pub returns-in_err-check_name-clause-tests : goal.returns-in_err-check_name-clause-tests
unfolding fs_of
returns-in_err-check_name-clause-tests g c =
    let held = (fs_of c.args.self.now).volume in
    let asked = c.args.asked in
    let p = err_from_is_err_and c.from_residual-in_err-check_name.result c.from_residual-in_err-check_name.ensures.1 in
    rw (p.1, p.2) (steps.bad_old held.limits held.tree asked.from asked.to (arguments_of asked) c.in_ok-from.ensures.tests c.in_err-check_name.field-0.0
    (ap (λ (l : Limits). first_refusal (name_refusals l asked.old_name.now)) (sym c.limits-limits.ensures.limits) ∙ c.in_err-check_name.ensures.refused))

pub returns-in_err-check_name-2-clause-tests : goal.returns-in_err-check_name-2-clause-tests
unfolding fs_of
returns-in_err-check_name-2-clause-tests g c =
    let held = (fs_of c.args.self.now).volume in
    let asked = c.args.asked in
    let p = err_from_is_err_and c.from_residual-in_err-check_name-2.result c.from_residual-in_err-check_name-2.ensures.1 in
    rw (p.1, p.2) (steps.bad_new held.limits held.tree asked.from asked.to (arguments_of asked) c.in_ok-from.ensures.tests
    (ap (λ (l : Limits). first_refusal (name_refusals l asked.old_name.now)) (sym c.limits-limits.ensures.limits) ∙ c.in_ok-check_name.ensures.allowed)
    c.in_err-check_name-2.field-0.0
    (ap (λ (l : Limits). first_refusal (name_refusals l asked.new_name.now)) (sym c.limits-limits.ensures.limits) ∙ c.in_err-check_name-2.ensures.refused))

pub returns-in_default-clause-tests : goal.returns-in_default-clause-tests
unfolding fs_of
returns-in_default-clause-tests g c =
    let held = (fs_of c.args.self.now).volume in
    let asked = c.args.asked in
    let from = c.in_ok-from.ensures.from in
    let none : entry_of asked.old_name.now (names_at held.tree asked.from) ≡ None = entry_at held.tree asked.from c.in_ok-from.from.now from.node from.fit from.directory asked.old_name.now
    c.from.inside.names (ap (λ (it : CachedNode). it.names) c.from.view_is) None c.in_default.ensures.by_stamp in
    steps.by_entry held.limits held.tree asked.from asked.to (arguments_of asked) c.in_ok-from.ensures.tests
    (ap (λ (l : Limits). first_refusal (name_refusals l asked.old_name.now)) (sym c.limits-limits.ensures.limits) ∙ c.in_ok-check_name.ensures.allowed)
    (ap (λ (l : Limits). first_refusal (name_refusals l asked.new_name.now)) (sym c.limits-limits.ensures.limits) ∙ c.in_ok-check_name-2.ensures.allowed)
    false (ap is_some none)

pub returns-clause-tests : goal.returns-clause-tests
unfolding fs_of
returns-clause-tests g c =
    let held = (fs_of c.args.self.now).volume in
    let asked = c.args.asked in
    let from = c.in_ok-from.ensures.from in
    let one = record_from c.in-Some.stamp asked.old_name.now c.in-Some.number in
    let found : entry_of asked.old_name.now (names_at held.tree asked.from) ≡ Some one = entry_at held.tree asked.from c.in_ok-from.from.now from.node from.fit from.directory asked.old_name.now
    c.from.inside.names (ap (λ (it : CachedNode). it.names) c.from.view_is) (Some one) c.in-Some.ensures.by_stamp in
    steps.by_entry held.limits held.tree asked.from asked.to (arguments_of asked) c.in_ok-from.ensures.tests
    (ap (λ (l : Limits). first_refusal (name_refusals l asked.old_name.now)) (sym c.limits-limits.ensures.limits) ∙ c.in_ok-check_name.ensures.allowed)
    (ap (λ (l : Limits). first_refusal (name_refusals l asked.new_name.now)) (sym c.limits-limits.ensures.limits) ∙ c.in_ok-check_name-2.ensures.allowed)
    true (ap is_some found)

pub returns-clause-moved : goal.returns-clause-moved
returns-clause-moved g c =
    let asked = c.args.asked in
    let from = c.in_ok-from.ensures.from in
    let to = c.in_ok-from.ensures.to in
    let one = record_from c.in-Some.stamp asked.old_name.now c.in-Some.number in
    record {
      from = from.node;
      to = to.node;
      from_fits = from.fit;
      to_fits = to.fit;
      entry = entry_at (fs_of c.args.self.now).volume.tree asked.from c.in_ok-from.from.now from.node from.fit from.directory asked.old_name.now
          c.from.inside.names (ap (λ (it : CachedNode). it.names) c.from.view_is) (Some one) c.in-Some.ensures.by_stamp;
    }
