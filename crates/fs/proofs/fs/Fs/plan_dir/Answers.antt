use Rattle.std.proofs.Common.{◌+◌, ◌∙◌, refl, ap, sym}
use Rattle.std.proofs.lemmas.Result.{err_from_is_err_and}
use Rattle.layout.specs.CachedNodes.{CachedNode}
use Rattle.model.specs.declared.not_done.NotDone.{NotDone}
use Rattle.model.specs.declared.not_done.NotDone.TheVariants as refusal
use Rattle.wire_attributes.specs.Given.{given_of, IsRefusedBy}
use Rattle.fs.specs.OnTree.{new_directory_refusals}
use Rattle.fs.proofs.Creating.{early_refusal}
use Rattle.fs.specs.Views.{fs_of}
use Rattle.tree_transaction.specs.Nodes.{metadata_of}
use Rattle.model_tree.specs.declared.node.NodeKind.TheVariants as kind
use Rattle.model_tree.specs.Trees.Stamp.{next_stamp}
use Rattle.model_tree.specs.Trees.Tree.{Tree}
use Rattle.fs.specs.Operations.{IsNotDone, created, new_directory}
use Rattle.fs.specs.Refusals.{fault_of}
use Rattle.fs.proofs.CreatedLaws as laws
use Rattle.fs.specs.Making.{first_node}
use Rattle.fs.specs.Planned.{child_metadata, list_by}
use Rattle.volume.specs.Views.{volume_state}
use Rattle.volume.proofs.ServeLaws.{is_err_of}
use Rattle.volume.proofs.LimitLaws.{limited_of}
use Rattle.fs.proofs.fs.Fs.plan_dir.Goals as goal

pub returns-in_err-parent-clause-planned : goal.returns-in_err-parent-clause-planned
returns-in_err-parent-clause-planned g c = rw (is_err_of c.from_residual.result c.in_err-parent.field-0.0 c.from_residual.ensures.1) (tt)

pub returns-in_err-parent-clause-step : goal.returns-in_err-parent-clause-step
returns-in_err-parent-clause-step g c = rw (is_err_of c.from_residual.result c.in_err-parent.field-0.0 c.from_residual.ensures.1) (λ state on. tt)

pub returns-in_err-stamp-clause-planned : goal.returns-in_err-stamp-clause-planned
returns-in_err-stamp-clause-planned g c = rw (is_err_of c.from_residual-in_err-stamp.result (refusal.Status c.in_err-stamp.field-0.0) c.from_residual-in_err-stamp.ensures.1) (tt)

pub returns-in_err-stamp-clause-step : goal.returns-in_err-stamp-clause-step
returns-in_err-stamp-clause-step g c = rw (is_err_of c.from_residual-in_err-stamp.result (refusal.Status c.in_err-stamp.field-0.0) c.from_residual-in_err-stamp.ensures.1) (λ state on. tt)

pub returns-in_err-metadata-clause-planned : goal.returns-in_err-metadata-clause-planned
returns-in_err-metadata-clause-planned g c = rw (is_err_of c.from_residual-in_err-metadata.result refusal.Memory c.from_residual-in_err-metadata.ensures.1) (tt)

pub returns-in_err-metadata-clause-step : goal.returns-in_err-metadata-clause-step
returns-in_err-metadata-clause-step g c = rw (is_err_of c.from_residual-in_err-metadata.result refusal.Memory c.from_residual-in_err-metadata.ensures.1) (λ state on. tt)

pub returns-in_err-metadata-clause-refused : goal.returns-in_err-metadata-clause-refused
returns-in_err-metadata-clause-refused g c = rw (is_err_of c.from_residual-in_err-metadata.result refusal.Memory c.from_residual-in_err-metadata.ensures.1) (λ state on. tt)

pub returns-in_err-edits-clause-planned : goal.returns-in_err-edits-clause-planned
returns-in_err-edits-clause-planned g c = rw (is_err_of c.from_residual-in_err-edits.result refusal.Memory c.from_residual-in_err-edits.ensures.1) (tt)

pub returns-in_err-edits-clause-step : goal.returns-in_err-edits-clause-step
returns-in_err-edits-clause-step g c = rw (is_err_of c.from_residual-in_err-edits.result refusal.Memory c.from_residual-in_err-edits.ensures.1) (λ state on. tt)

pub returns-in_err-edits-clause-refused : goal.returns-in_err-edits-clause-refused
returns-in_err-edits-clause-refused g c = rw (is_err_of c.from_residual-in_err-edits.result refusal.Memory c.from_residual-in_err-edits.ensures.1) (λ state on. tt)

pub returns-in_err-parent-clause-refused : goal.returns-in_err-parent-clause-refused
returns-in_err-parent-clause-refused g c state on =
    let fs = fs_of c.args.self.now in
    let given = given_of c.args.asked.attributes in
    let p = err_from_is_err_and c.from_residual.result c.from_residual.ensures.1 in
    rw (p.1, p.2) (by_reason c.in_err-parent.field-0.0 c.in_err-parent.ensures.tests)
  where
    by_reason : (reason : NotDone) → IsRefusedBy (new_directory_refusals (fs_of c.args.self.now).volume.limits (fs_of c.args.self.now).volume.tree c.args.cred.now c.args.asked.parent c.args.asked.name.now (given_of c.args.asked.attributes)) reason
        → IsNotDone (fs_of c.args.self.now) state c.args.now (new_directory c.args.asked.name.now (given_of c.args.asked.attributes)) (fault_of reason)
    by_reason (refusal.Status reason) early =
        let fs = fs_of c.args.self.now in
        early_refusal fs.volume.limits fs.volume.tree c.args.cred.now c.args.asked.parent c.args.asked.name.now (given_of c.args.asked.attributes)
        fs.volume.run fs.changes c.args.now state on.is_state on.run on.changes reason early
    by_reason refusal.Memory early = tt

pub new_node-requires-clause-listed : goal.new_node-requires-clause-listed
unfolding fs_of volume_state
new_node-requires-clause-listed g c =
    let fs = fs_of c.args.self.now in
    laws.listed fs (c.args.self.now.ready c.requires.up) c.args.asked.parent c.in_ok-parent.parent.now
    (laws.parent fs (c.args.self.now.ready c.requires.up) (limited_of c.args.self.now.volume) c.args.cred.now c.args.now c.args.asked.parent c.args.asked.name.now (given_of c.args.asked.attributes)
    c.in_ok-parent.parent.now c.in_ok-parent.ensures.parent c.in_ok-parent.ensures.fit c.in_ok-parent.ensures.tests)

pub plan_node-requires-clause-made : goal.plan_node-requires-clause-made
unfolding fs_of volume_state
plan_node-requires-clause-made g c =
    let fs = fs_of c.args.self.now in
    laws.may fs (c.args.self.now.ready c.requires.up) (limited_of c.args.self.now.volume) c.args.cred.now c.args.now c.args.asked.parent c.args.asked.name.now (given_of c.args.asked.attributes)
    c.in_ok-parent.parent.now c.in_ok-parent.ensures.parent c.in_ok-parent.ensures.fit c.in_ok-parent.ensures.tests
    c.in_ok-stamp.stamp c.in_ok-parent.settings (metadata_of c.in_ok-metadata.metadata) c.in_ok-parent.ensures.settings c.in_ok-parent.ensures.within c.in_ok-stamp.ensures.stamp c.in_ok-metadata.ensures.metadata

pub returns-in_err-stamp-clause-refused : goal.returns-in_err-stamp-clause-refused
unfolding fs_of volume_state
returns-in_err-stamp-clause-refused g c state on =
    let fs = fs_of c.args.self.now in
    let own = next_stamp fs.volume.run fs.changes in
    let settings = c.in_ok-parent.settings in
    let child = child_metadata c.args.cred.now (list_by kind.Directory c.in_ok-parent.parent.now.fields.acl settings) own c.args.now in
    let may = laws.may fs (c.args.self.now.ready c.requires.up) (limited_of c.args.self.now.volume) c.args.cred.now c.args.now c.args.asked.parent c.args.asked.name.now (given_of c.args.asked.attributes)
    c.in_ok-parent.parent.now c.in_ok-parent.ensures.parent c.in_ok-parent.ensures.fit c.in_ok-parent.ensures.tests own settings child c.in_ok-parent.ensures.settings c.in_ok-parent.ensures.within refl refl in
    let told = c.in_err-stamp.ensures.tests (first_node kind.Directory 0 child) c.args.now may refl in
    let p = err_from_is_err_and c.from_residual-in_err-stamp.result c.from_residual-in_err-stamp.ensures.1 in
    rw (p.1, p.2) (laws.late_refusal fs (c.args.self.now.ready c.requires.up) (limited_of c.args.self.now.volume) c.args.cred.now c.args.now c.args.asked.parent c.args.asked.name.now (given_of c.args.asked.attributes)
    c.in_ok-parent.parent.now c.in_ok-parent.ensures.parent c.in_ok-parent.ensures.fit c.in_ok-parent.ensures.tests
    own settings child c.in_ok-parent.ensures.settings c.in_ok-parent.ensures.within refl refl state on c.in_err-stamp.field-0.0 told)

pub plan_node-requires-clause-room : goal.plan_node-requires-clause-room
unfolding fs_of volume_state
plan_node-requires-clause-room g c =
    let fs = fs_of c.args.self.now in
    c.in_ok-stamp.ensures.tests (first_node kind.Directory 0 (metadata_of c.in_ok-metadata.metadata)) c.args.now
    (laws.may fs (c.args.self.now.ready c.requires.up) (limited_of c.args.self.now.volume) c.args.cred.now c.args.now c.args.asked.parent c.args.asked.name.now (given_of c.args.asked.attributes)
    c.in_ok-parent.parent.now c.in_ok-parent.ensures.parent c.in_ok-parent.ensures.fit c.in_ok-parent.ensures.tests
    c.in_ok-stamp.stamp c.in_ok-parent.settings (metadata_of c.in_ok-metadata.metadata) c.in_ok-parent.ensures.settings c.in_ok-parent.ensures.within c.in_ok-stamp.ensures.stamp c.in_ok-metadata.ensures.metadata) refl

pub returns-clause-step : goal.returns-clause-step
unfolding fs_of volume_state
returns-clause-step g c state on =
    let fs = fs_of c.args.self.now in
    let room = c.in_ok-stamp.ensures.tests (first_node kind.Directory 0 (metadata_of c.in_ok-metadata.metadata)) c.args.now
    (laws.may fs (c.args.self.now.ready c.requires.up) (limited_of c.args.self.now.volume) c.args.cred.now c.args.now c.args.asked.parent c.args.asked.name.now (given_of c.args.asked.attributes)
    c.in_ok-parent.parent.now c.in_ok-parent.ensures.parent c.in_ok-parent.ensures.fit c.in_ok-parent.ensures.tests
    c.in_ok-stamp.stamp c.in_ok-parent.settings (metadata_of c.in_ok-metadata.metadata) c.in_ok-parent.ensures.settings c.in_ok-parent.ensures.within c.in_ok-stamp.ensures.stamp c.in_ok-metadata.ensures.metadata) refl in
    laws.goes_on fs (c.args.self.now.ready c.requires.up) (limited_of c.args.self.now.volume) c.args.cred.now c.args.now c.args.asked.parent c.args.asked.name.now (given_of c.args.asked.attributes)
    c.in_ok-parent.parent.now c.in_ok-parent.ensures.parent c.in_ok-parent.ensures.fit c.in_ok-parent.ensures.tests
    c.in_ok-stamp.stamp c.in_ok-parent.settings (metadata_of c.in_ok-metadata.metadata) c.in_ok-parent.ensures.settings c.in_ok-parent.ensures.within c.in_ok-stamp.ensures.stamp c.in_ok-metadata.ensures.metadata state on
    room c.parent.inside.inode.change (ap (λ (it : CachedNode). it.fields.change) c.parent.view_is)
    ∙ ap (λ (t : Tree). created t (fs.changes + 1) state (given_of c.args.asked.attributes) (record { number = c.in_ok-stamp.stamp; before = c.parent.inside.inode.change })) (sym c.in_ok-edits.ensures.after)
