use Rattle.std.proofs.Common.{◌≡◌, ◌∙◌, ◌⊎◌, ℕ, List, ap, sym, subst, rules}
use Rattle.std.specs.Prelude.{unwrap_or}
use Rattle.std.proofs.lemmas.Result.{err_from_is_err_and}
use Rattle.tree_edits.specs.declared.edit.Edit.{Edit}
use Rattle.tree_edits.specs.Measures.{AreMeasurable}
use Rattle.layout.specs.CachedNodes.{CachedNode}
use Rattle.model_tree.specs.Trees.Charge.{fits}
use Rattle.model_tree.specs.Trees.Stamp.{next_stamp}
use Rattle.fs.specs.Views.{fs_of}
use Rattle.fs.specs.Renaming.{arguments_of}
use Rattle.fs.proofs.RenamePlans as plans
use Rattle.fs.proofs.RenamedLaws as laws
use Rattle.fs.proofs.RoomTests.{passed_room}
use Rattle.volume.specs.Edits.{edited_by}
use Rattle.volume.specs.Views.{volume_state}
use Rattle.model.specs.declared.not_done.NotDone.TheVariants as refusal
use Rattle.volume.proofs.ServeLaws.{is_err_of}
use Rattle.volume.proofs.LimitLaws.{limited_of}
use Rattle.fs.proofs.fs.Fs.plan_move.Goals as goal

pub returns-in_err-permit_rename-clause-planned : goal.returns-in_err-permit_rename-clause-planned
returns-in_err-permit_rename-clause-planned g c = rw (is_err_of c.from_residual.result (refusal.Status c.in_err-permit_rename.field-0.0) c.from_residual.ensures.1) (tt)

pub returns-in_err-permit_rename-clause-replaced : goal.returns-in_err-permit_rename-clause-replaced
returns-in_err-permit_rename-clause-replaced g c = rw (is_err_of c.from_residual.result (refusal.Status c.in_err-permit_rename.field-0.0) c.from_residual.ensures.1) (tt)

pub returns-in_err-permit_rename-clause-step : goal.returns-in_err-permit_rename-clause-step
returns-in_err-permit_rename-clause-step g c = rw (is_err_of c.from_residual.result (refusal.Status c.in_err-permit_rename.field-0.0) c.from_residual.ensures.1) (λ state on. tt)

pub returns-in_err-from_metadata : goal.returns-in_err-from_metadata
returns-in_err-from_metadata g c =
    let told = is_err_of c.from_residual-in_err-from_metadata.result refusal.Memory c.from_residual-in_err-from_metadata.ensures.1 in
    rw told (record {
      planned = tt;
      replaced = tt;
      step = λ state on. tt;
      refused = λ state on. tt;
    })

pub returns-in_err-to_metadata : goal.returns-in_err-to_metadata
returns-in_err-to_metadata g c =
    let told = is_err_of c.from_residual-in_err-to_metadata.result refusal.Memory c.from_residual-in_err-to_metadata.ensures.1 in
    rw told (record {
      planned = tt;
      replaced = tt;
      step = λ state on. tt;
      refused = λ state on. tt;
    })

pub returns-in_err-edits : goal.returns-in_err-edits
returns-in_err-edits g c =
    let told = is_err_of c.from_residual-in_err-edits.result refusal.Memory c.from_residual-in_err-edits.ensures.1 in
    rw told (record {
      planned = tt;
      replaced = tt;
      step = λ state on. tt;
      refused = λ state on. tt;
    })

pub returns-in_err-permit_rename-clause-refused : goal.returns-in_err-permit_rename-clause-refused
unfolding fs_of volume_state
returns-in_err-permit_rename-clause-refused g c state on =
    let fs = fs_of c.args.self.now in
    let asked = c.args.asked in
    let p = err_from_is_err_and c.from_residual.result c.from_residual.ensures.1 in
    rw (p.1, p.2) (laws.late_refusal fs c.args.cred.now asked.from asked.to c.args.now (arguments_of asked) state on c.in_err-permit_rename.field-0.0 c.requires.passed c.requires.other c.in_err-permit_rename.ensures)

pub stamp_for-requires : goal.stamp_for-requires
unfolding fs_of volume_state
stamp_for-requires g c =
    let fs = fs_of c.args.self.now in
    let is : c.unwrap_or-stamp.result ≡ unwrap_or c.stamp_left.result 0 = search rules in
    let stamp_in = subst (λ (s : ℕ). (s ≡ next_stamp fs.volume.run fs.changes) ⊎ (s ≡ 0)) (sym is) (plans.stamp_of fs c.stamp_left.result c.stamp_left.ensures) in
    subst (AreMeasurable fs.volume.tree) (sym c.deref.ensures.value)
    (plans.measured_edits fs (c.args.self.now.ready c.requires.up) c.args.self.now.counted (limited_of c.args.self.now.volume) c.args.cred.now c.args.now c.args.asked c.args.moving c.get-target.result
    c.requires.moved c.requires.passed c.in_ok-permit_rename.ensures c.requires.other c.to.inside.names (ap (λ (it : CachedNode). it.names) c.to.view_is) c.get-target.ensures.by_stamp
    c.unwrap_or-stamp.result c.in_ok-from_metadata.from_metadata c.in_ok-to_metadata.to_metadata c.in_ok-from_metadata.ensures c.in_ok-to_metadata.ensures c.in_ok-edits.edits.items c.in_ok-edits.ensures stamp_in)

pub returns-in_err-stamp_for-clause-planned : goal.returns-in_err-stamp_for-clause-planned
returns-in_err-stamp_for-clause-planned g c = rw (is_err_of c.from_residual-in_err-stamp_for.result (refusal.Status c.in_err-stamp_for.field-0.0) c.from_residual-in_err-stamp_for.ensures.1) (tt)

pub returns-in_err-stamp_for-clause-replaced : goal.returns-in_err-stamp_for-clause-replaced
returns-in_err-stamp_for-clause-replaced g c = rw (is_err_of c.from_residual-in_err-stamp_for.result (refusal.Status c.in_err-stamp_for.field-0.0) c.from_residual-in_err-stamp_for.ensures.1) (tt)

pub returns-in_err-stamp_for-clause-step : goal.returns-in_err-stamp_for-clause-step
returns-in_err-stamp_for-clause-step g c = rw (is_err_of c.from_residual-in_err-stamp_for.result (refusal.Status c.in_err-stamp_for.field-0.0) c.from_residual-in_err-stamp_for.ensures.1) (λ state on. tt)

pub returns-in_err-stamp_for-clause-refused : goal.returns-in_err-stamp_for-clause-refused
unfolding fs_of volume_state
returns-in_err-stamp_for-clause-refused g c state on =
    let fs = fs_of c.args.self.now in
    let is : c.unwrap_or-stamp.result ≡ unwrap_or c.stamp_left.result 0 = search rules in
    let stamp_in = subst (λ (s : ℕ). (s ≡ next_stamp fs.volume.run fs.changes) ⊎ (s ≡ 0)) (sym is) (plans.stamp_of fs c.stamp_left.result c.stamp_left.ensures) in
    let p = err_from_is_err_and c.from_residual-in_err-stamp_for.result c.from_residual-in_err-stamp_for.ensures.1 in
    let same = plans.room_asked fs (c.args.self.now.ready c.requires.up) c.args.self.now.counted (limited_of c.args.self.now.volume) c.args.cred.now c.args.now c.args.asked c.args.moving c.get-target.result
    c.requires.moved c.requires.passed c.in_ok-permit_rename.ensures c.requires.other c.to.inside.names (ap (λ (it : CachedNode). it.names) c.to.view_is) c.get-target.ensures.by_stamp
    c.unwrap_or-stamp.result c.in_ok-from_metadata.from_metadata c.in_ok-to_metadata.to_metadata c.in_ok-from_metadata.ensures c.in_ok-to_metadata.ensures c.in_ok-edits.edits.items c.in_ok-edits.ensures stamp_in in
    rw (p.1, p.2) (plans.late fs (c.args.self.now.ready c.requires.up) c.args.self.now.counted (limited_of c.args.self.now.volume) c.args.cred.now c.args.now c.args.asked c.args.moving c.get-target.result
    c.requires.moved c.requires.passed c.in_ok-permit_rename.ensures c.requires.other c.to.inside.names (ap (λ (it : CachedNode). it.names) c.to.view_is) c.get-target.ensures.by_stamp
    c.unwrap_or-stamp.result c.in_ok-from_metadata.from_metadata c.in_ok-to_metadata.to_metadata c.in_ok-from_metadata.ensures c.in_ok-to_metadata.ensures c.in_ok-edits.edits.items c.in_ok-edits.ensures
    c.in_err-stamp_for.field-0.0 (c.in_err-stamp_for.ensures.tests _ (same ∙ ap (λ (l : List Edit). fits fs.volume.limits (edited_by fs.volume l)) (sym c.deref.ensures.value))) state on)

pub returns-clause-planned : goal.returns-clause-planned
unfolding fs_of volume_state
returns-clause-planned g c =
    let fs = fs_of c.args.self.now in
    let is : c.unwrap_or-stamp.result ≡ unwrap_or c.stamp_left.result 0 = search rules in
    let stamp_in = subst (λ (s : ℕ). (s ≡ next_stamp fs.volume.run fs.changes) ⊎ (s ≡ 0)) (sym is) (plans.stamp_of fs c.stamp_left.result c.stamp_left.ensures) in
    let same = plans.room_asked fs (c.args.self.now.ready c.requires.up) c.args.self.now.counted (limited_of c.args.self.now.volume) c.args.cred.now c.args.now c.args.asked c.args.moving c.get-target.result
    c.requires.moved c.requires.passed c.in_ok-permit_rename.ensures c.requires.other c.to.inside.names (ap (λ (it : CachedNode). it.names) c.to.view_is) c.get-target.ensures.by_stamp
    c.unwrap_or-stamp.result c.in_ok-from_metadata.from_metadata c.in_ok-to_metadata.to_metadata c.in_ok-from_metadata.ensures c.in_ok-to_metadata.ensures c.in_ok-edits.edits.items c.in_ok-edits.ensures stamp_in in
    plans.planned_where fs (c.args.self.now.ready c.requires.up) c.args.self.now.counted (limited_of c.args.self.now.volume) c.args.cred.now c.args.now c.args.asked c.args.moving c.get-target.result
    c.requires.moved c.requires.passed c.in_ok-permit_rename.ensures c.requires.other c.to.inside.names (ap (λ (it : CachedNode). it.names) c.to.view_is) c.get-target.ensures.by_stamp
    c.unwrap_or-stamp.result c.in_ok-from_metadata.from_metadata c.in_ok-to_metadata.to_metadata c.in_ok-from_metadata.ensures c.in_ok-to_metadata.ensures c.in_ok-edits.edits.items c.in_ok-edits.ensures
    (is ∙ plans.own_stamp fs c.stamp_left.result c.stamp_left.ensures c.in_ok-stamp_for.ensures.left)
    (passed_room fs _ (c.in_ok-stamp_for.ensures.tests _ (same ∙ ap (λ (l : List Edit). fits fs.volume.limits (edited_by fs.volume l)) (sym c.deref.ensures.value))))

pub returns-clause-step : goal.returns-clause-step
unfolding fs_of volume_state
returns-clause-step g c state on =
    let fs = fs_of c.args.self.now in
    let is : c.unwrap_or-stamp.result ≡ unwrap_or c.stamp_left.result 0 = search rules in
    let stamp_in = subst (λ (s : ℕ). (s ≡ next_stamp fs.volume.run fs.changes) ⊎ (s ≡ 0)) (sym is) (plans.stamp_of fs c.stamp_left.result c.stamp_left.ensures) in
    let same = plans.room_asked fs (c.args.self.now.ready c.requires.up) c.args.self.now.counted (limited_of c.args.self.now.volume) c.args.cred.now c.args.now c.args.asked c.args.moving c.get-target.result
    c.requires.moved c.requires.passed c.in_ok-permit_rename.ensures c.requires.other c.to.inside.names (ap (λ (it : CachedNode). it.names) c.to.view_is) c.get-target.ensures.by_stamp
    c.unwrap_or-stamp.result c.in_ok-from_metadata.from_metadata c.in_ok-to_metadata.to_metadata c.in_ok-from_metadata.ensures c.in_ok-to_metadata.ensures c.in_ok-edits.edits.items c.in_ok-edits.ensures stamp_in in
    plans.goes_on fs (c.args.self.now.ready c.requires.up) c.args.self.now.counted (limited_of c.args.self.now.volume) c.args.cred.now c.args.now c.args.asked c.args.moving c.get-target.result
    c.requires.moved c.requires.passed c.in_ok-permit_rename.ensures c.requires.other c.to.inside.names (ap (λ (it : CachedNode). it.names) c.to.view_is) c.get-target.ensures.by_stamp
    c.unwrap_or-stamp.result c.in_ok-from_metadata.from_metadata c.in_ok-to_metadata.to_metadata c.in_ok-from_metadata.ensures c.in_ok-to_metadata.ensures c.in_ok-edits.edits.items c.in_ok-edits.ensures
    (is ∙ plans.own_stamp fs c.stamp_left.result c.stamp_left.ensures c.in_ok-stamp_for.ensures.left)
    (passed_room fs _ (c.in_ok-stamp_for.ensures.tests _ (same ∙ ap (λ (l : List Edit). fits fs.volume.limits (edited_by fs.volume l)) (sym c.deref.ensures.value))))
    state on c.from.inside.inode.change c.to.inside.inode.change (ap (λ (it : CachedNode). it.fields.change) c.from.view_is) (ap (λ (it : CachedNode). it.fields.change) c.to.view_is)
    c.number_of.result c.number_of.ensures
