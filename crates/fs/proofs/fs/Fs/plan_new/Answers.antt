use Rattle.std.proofs.Common.{◌≡◌, ◌+◌, ◌∙◌, refl, ap, sym, rules}
use Rattle.std.proofs.lemmas.Result.{err_from_is_err_and}
use Rattle.std.specs.Prelude.{unwrap_or}
use Rattle.tree_transaction.specs.Nodes.{metadata_of}
use Rattle.layout.specs.CachedNodes.{CachedNode}
use Rattle.model_tree.specs.declared.node.NodeKind.TheVariants as kind
use Rattle.model.specs.Operations.Open.{given_by}
use Rattle.model.specs.Operations.Operation.{Argument}
use Rattle.model_tree.specs.Trees.Stamp.{next_stamp}
use Rattle.model_tree.specs.Trees.Tree.{Tree}
use Rattle.model.specs.declared.not_done.NotDone.{NotDone}
use Rattle.model.specs.declared.not_done.NotDone.TheVariants as refusal
use Rattle.wire_attributes.specs.Given.{IsRefusedBy}
use Rattle.fs.specs.declared.opening.OpenEffect.TheVariants as effect
use Rattle.fs.specs.Views.{fs_of}
use Rattle.fs.specs.Making.{first_node}
use Rattle.fs.specs.Planned.{child_metadata, list_by}
use Rattle.fs.specs.Opening.{after_open, file_tests, type_of}
use Rattle.fs.specs.Operations.{IsNotDone}
use Rattle.fs.specs.Refusals.{fault_of}
use Rattle.fs.proofs.CreatedLaws as created
use Rattle.fs.proofs.FirstFiles as files
use Rattle.fs.proofs.NamedOpens as laws
use Rattle.fs.proofs.RemovalPlans.{change_metadata}
use Rattle.volume.specs.Views.{volume_state}
use Rattle.volume.proofs.ServeLaws.{is_err_of}
use Rattle.volume.proofs.LimitLaws.{limited_of}
use Rattle.fs.proofs.fs.Fs.plan_new.Goals as goal

pub returns-in_err-settings-clause-planned : goal.returns-in_err-settings-clause-planned
returns-in_err-settings-clause-planned g c = rw (is_err_of c.from_residual.result c.in_err-settings.field-0.0 c.from_residual.ensures.1) (tt)

pub returns-in_err-settings-clause-step : goal.returns-in_err-settings-clause-step
returns-in_err-settings-clause-step g c = rw (is_err_of c.from_residual.result c.in_err-settings.field-0.0 c.from_residual.ensures.1) (λ state arguments placed. tt)

pub returns-in_err-settings-clause-opened : goal.returns-in_err-settings-clause-opened
returns-in_err-settings-clause-opened g c = rw (is_err_of c.from_residual.result c.in_err-settings.field-0.0 c.from_residual.ensures.1) (tt)

pub returns-in_err-stamp-clause-planned : goal.returns-in_err-stamp-clause-planned
returns-in_err-stamp-clause-planned g c = rw (is_err_of c.from_residual-in_err-stamp.result (refusal.Status c.in_err-stamp.field-0.0) c.from_residual-in_err-stamp.ensures.1) (tt)

pub returns-in_err-stamp-clause-step : goal.returns-in_err-stamp-clause-step
returns-in_err-stamp-clause-step g c = rw (is_err_of c.from_residual-in_err-stamp.result (refusal.Status c.in_err-stamp.field-0.0) c.from_residual-in_err-stamp.ensures.1) (λ state arguments placed. tt)

pub returns-in_err-stamp-clause-opened : goal.returns-in_err-stamp-clause-opened
returns-in_err-stamp-clause-opened g c = rw (is_err_of c.from_residual-in_err-stamp.result (refusal.Status c.in_err-stamp.field-0.0) c.from_residual-in_err-stamp.ensures.1) (tt)

pub returns-in_err-metadata-clause-planned : goal.returns-in_err-metadata-clause-planned
returns-in_err-metadata-clause-planned g c = rw (is_err_of c.from_residual-in_err-metadata.result refusal.Memory c.from_residual-in_err-metadata.ensures.1) (tt)

pub returns-in_err-metadata-clause-step : goal.returns-in_err-metadata-clause-step
returns-in_err-metadata-clause-step g c = rw (is_err_of c.from_residual-in_err-metadata.result refusal.Memory c.from_residual-in_err-metadata.ensures.1) (λ state arguments placed. tt)

pub returns-in_err-metadata-clause-opened : goal.returns-in_err-metadata-clause-opened
returns-in_err-metadata-clause-opened g c = rw (is_err_of c.from_residual-in_err-metadata.result refusal.Memory c.from_residual-in_err-metadata.ensures.1) (tt)

pub returns-in_err-metadata-clause-refused : goal.returns-in_err-metadata-clause-refused
returns-in_err-metadata-clause-refused g c = rw (is_err_of c.from_residual-in_err-metadata.result refusal.Memory c.from_residual-in_err-metadata.ensures.1) (λ state arguments placed. tt)

pub returns-in_err-edits-clause-planned : goal.returns-in_err-edits-clause-planned
returns-in_err-edits-clause-planned g c = rw (is_err_of c.from_residual-in_err-edits.result refusal.Memory c.from_residual-in_err-edits.ensures.1) (tt)

pub returns-in_err-edits-clause-step : goal.returns-in_err-edits-clause-step
returns-in_err-edits-clause-step g c = rw (is_err_of c.from_residual-in_err-edits.result refusal.Memory c.from_residual-in_err-edits.ensures.1) (λ state arguments placed. tt)

pub returns-in_err-edits-clause-opened : goal.returns-in_err-edits-clause-opened
returns-in_err-edits-clause-opened g c = rw (is_err_of c.from_residual-in_err-edits.result refusal.Memory c.from_residual-in_err-edits.ensures.1) (tt)

pub returns-in_err-edits-clause-refused : goal.returns-in_err-edits-clause-refused
returns-in_err-edits-clause-refused g c = rw (is_err_of c.from_residual-in_err-edits.result refusal.Memory c.from_residual-in_err-edits.ensures.1) (λ state arguments placed. tt)

pub returns-in_err-settings-clause-refused : goal.returns-in_err-settings-clause-refused
returns-in_err-settings-clause-refused g c state arguments placed =
    let p = err_from_is_err_and c.from_residual.result c.from_residual.ensures.1 in
    rw (p.1, p.2) (by_reason c.in_err-settings.field-0.0 (c.in_err-settings.ensures.tests state placed.on.is_state))
  where
    by_reason : (reason : NotDone) → IsRefusedBy (file_tests (fs_of c.args.self.now).volume.limits state c.args.asked.share.access (type_of c.args.asked.how) c.args.asked.name.now) reason
        → IsNotDone (fs_of c.args.self.now) state c.args.now (Argument.Open arguments) (fault_of reason)
    by_reason (refusal.Status reason) bad =
        laws.refused_file (fs_of c.args.self.now) c.args.cred.now c.args.now c.args.asked c.args.is_full state arguments placed.on placed.opening placed.passed reason bad
    by_reason refusal.Memory bad = tt

pub returns-then-is_full-clause-refused : goal.returns-then-is_full-clause-refused
returns-then-is_full-clause-refused g c state arguments placed =
    laws.table_full (fs_of c.args.self.now) c.args.cred.now c.args.now c.args.asked c.args.is_full state arguments placed.on placed.opening placed.passed
    (c.in_ok-settings.ensures.tests state placed.on.is_state) c.if-is_full.true

pub new_node-requires-clause-listed : goal.new_node-requires-clause-listed
unfolding fs_of volume_state
new_node-requires-clause-listed g c =
    created.listed (fs_of c.args.self.now) (c.args.self.now.ready c.requires.up) c.args.asked.directory c.args.directory.now c.requires.directory

pub plan_node-requires-clause-size : goal.plan_node-requires-clause-size
unfolding fs_of volume_state
plan_node-requires-clause-size g c =
    let fs = fs_of c.args.self.now in
    let size : c.unwrap_or.result ≡ unwrap_or c.in_ok-settings.settings.size 0 = search rules in
    files.has_size fs (c.args.self.now.ready c.requires.up) (limited_of c.args.self.now.volume) c.args.cred.now c.args.now c.args.asked.directory c.args.asked.name.now (given_by (type_of c.args.asked.how))
    c.args.directory.now c.requires.directory c.requires.allowed c.requires.lacks c.in_ok-settings.settings c.in_ok-settings.ensures.settings c.in_ok-settings.ensures.within c.unwrap_or.result size

pub plan_node-requires-clause-made : goal.plan_node-requires-clause-made
unfolding fs_of volume_state
plan_node-requires-clause-made g c =
    let fs = fs_of c.args.self.now in
    let size : c.unwrap_or.result ≡ unwrap_or c.in_ok-settings.settings.size 0 = search rules in
    files.may fs (c.args.self.now.ready c.requires.up) (limited_of c.args.self.now.volume) c.args.cred.now c.args.now c.args.asked.directory c.args.asked.name.now (given_by (type_of c.args.asked.how))
    c.args.directory.now c.requires.directory c.requires.allowed c.requires.lacks c.in_ok-settings.settings c.in_ok-settings.ensures.settings c.in_ok-settings.ensures.within c.unwrap_or.result size
    c.in_ok-stamp.stamp (metadata_of c.in_ok-metadata.metadata) c.in_ok-stamp.ensures.stamp c.in_ok-metadata.ensures.metadata

pub returns-in_err-stamp-clause-refused : goal.returns-in_err-stamp-clause-refused
unfolding fs_of volume_state
returns-in_err-stamp-clause-refused g c state arguments placed =
    let fs = fs_of c.args.self.now in
    let own = next_stamp fs.volume.run fs.changes in
    let size : c.unwrap_or.result ≡ unwrap_or c.in_ok-settings.settings.size 0 = search rules in
    let child = child_metadata c.args.cred.now (list_by kind.File c.args.directory.now.fields.acl c.in_ok-settings.settings) own c.args.now in
    let may = files.may fs (c.args.self.now.ready c.requires.up) (limited_of c.args.self.now.volume) c.args.cred.now c.args.now c.args.asked.directory c.args.asked.name.now (given_by (type_of c.args.asked.how))
    c.args.directory.now c.requires.directory c.requires.allowed c.requires.lacks c.in_ok-settings.settings c.in_ok-settings.ensures.settings c.in_ok-settings.ensures.within c.unwrap_or.result size
    own child refl refl in
    let made = files.made_is fs (c.args.self.now.ready c.requires.up) (limited_of c.args.self.now.volume) c.args.cred.now c.args.now c.args.asked.directory c.args.asked.name.now (given_by (type_of c.args.asked.how))
    c.args.directory.now c.requires.directory c.requires.allowed c.requires.lacks c.in_ok-settings.settings c.in_ok-settings.ensures.settings c.in_ok-settings.ensures.within c.unwrap_or.result size
    own child refl refl in
    let before = change_metadata fs.volume.tree c.args.asked.directory c.args.directory.now c.requires.directory.node in
    let told = c.in_err-stamp.ensures.tests (first_node kind.File c.unwrap_or.result child) c.args.now may refl in
    let p = err_from_is_err_and c.from_residual-in_err-stamp.result c.from_residual-in_err-stamp.ensures.1 in
    rw (p.1, p.2) (laws.not_made fs c.args.cred.now c.args.now c.args.asked c.args.is_full state arguments placed.on placed.opening placed.passed
    (c.in_ok-settings.ensures.tests state placed.on.is_state) c.if-is_full.false c.requires.lacks
    (first_node kind.File c.unwrap_or.result child) made own c.args.directory.now.fields.change refl before c.in_err-stamp.field-0.0 told)

pub plan_node-requires-clause-room : goal.plan_node-requires-clause-room
unfolding fs_of volume_state
plan_node-requires-clause-room g c =
    let fs = fs_of c.args.self.now in
    let size : c.unwrap_or.result ≡ unwrap_or c.in_ok-settings.settings.size 0 = search rules in
    c.in_ok-stamp.ensures.tests (first_node kind.File c.unwrap_or.result (metadata_of c.in_ok-metadata.metadata)) c.args.now (files.may fs (c.args.self.now.ready c.requires.up) (limited_of c.args.self.now.volume) c.args.cred.now c.args.now c.args.asked.directory c.args.asked.name.now (given_by (type_of c.args.asked.how))
    c.args.directory.now c.requires.directory c.requires.allowed c.requires.lacks c.in_ok-settings.settings c.in_ok-settings.ensures.settings c.in_ok-settings.ensures.within c.unwrap_or.result size
    c.in_ok-stamp.stamp (metadata_of c.in_ok-metadata.metadata) c.in_ok-stamp.ensures.stamp c.in_ok-metadata.ensures.metadata) refl

pub returns-clause-step : goal.returns-clause-step
unfolding fs_of volume_state
returns-clause-step g c state arguments placed =
    let fs = fs_of c.args.self.now in
    let size : c.unwrap_or.result ≡ unwrap_or c.in_ok-settings.settings.size 0 = search rules in
    let made = files.made_is fs (c.args.self.now.ready c.requires.up) (limited_of c.args.self.now.volume) c.args.cred.now c.args.now c.args.asked.directory c.args.asked.name.now (given_by (type_of c.args.asked.how))
    c.args.directory.now c.requires.directory c.requires.allowed c.requires.lacks c.in_ok-settings.settings c.in_ok-settings.ensures.settings c.in_ok-settings.ensures.within c.unwrap_or.result size
    c.in_ok-stamp.stamp (metadata_of c.in_ok-metadata.metadata) c.in_ok-stamp.ensures.stamp c.in_ok-metadata.ensures.metadata in
    let room = c.in_ok-stamp.ensures.tests (first_node kind.File c.unwrap_or.result (metadata_of c.in_ok-metadata.metadata)) c.args.now (files.may fs (c.args.self.now.ready c.requires.up) (limited_of c.args.self.now.volume) c.args.cred.now c.args.now c.args.asked.directory c.args.asked.name.now (given_by (type_of c.args.asked.how))
    c.args.directory.now c.requires.directory c.requires.allowed c.requires.lacks c.in_ok-settings.settings c.in_ok-settings.ensures.settings c.in_ok-settings.ensures.within c.unwrap_or.result size
    c.in_ok-stamp.stamp (metadata_of c.in_ok-metadata.metadata) c.in_ok-stamp.ensures.stamp c.in_ok-metadata.ensures.metadata) refl in
    let before = change_metadata fs.volume.tree c.args.asked.directory c.args.directory.now c.requires.directory.node ∙ sym (ap (λ (it : CachedNode). it.fields.change) c.directory.view_is) in
    laws.is_made fs c.args.cred.now c.args.now c.args.asked c.args.is_full state arguments placed.on placed.opening placed.passed
    (c.in_ok-settings.ensures.tests state placed.on.is_state) c.if-is_full.false c.requires.lacks
    (first_node kind.File c.unwrap_or.result (metadata_of c.in_ok-metadata.metadata)) made c.in_ok-stamp.stamp c.directory.inside.inode.change c.in_ok-stamp.ensures.stamp before room
    ∙ ap (λ (t : Tree). after_open t (fs.changes + 1) state arguments (type_of c.args.asked.how)
    (record { number = c.in_ok-stamp.stamp; directory = record { before = c.directory.inside.inode.change; after = c.in_ok-stamp.stamp }; effect = effect.Made }))
    (sym c.in_ok-edits.ensures.after)
