use Rattle.std.proofs.Common.{◌+◌, ◌∙◌, ap, sym}
use Rattle.std.proofs.lemmas.Result.{err_from_is_err_and}
use Rattle.layout.specs.CachedNodes.{CachedNode}
use Rattle.model.specs.Operations.Operation.{Argument}
use Rattle.model_tree.specs.Trees.Tree.{Tree}
use Rattle.model.specs.declared.not_done.NotDone.{NotDone}
use Rattle.model.specs.declared.not_done.NotDone.TheVariants as refusal
use Rattle.wire_attributes.specs.Given.{IsRefusedBy}
use Rattle.fs.specs.declared.opening.OpenEffect.TheVariants as effect
use Rattle.fs.specs.Views.{fs_of}
use Rattle.fs.specs.Making.{room_tests}
use Rattle.fs.specs.Opening.{after_open, file_tests, tree_cut, type_of}
use Rattle.fs.specs.Operations.{IsNotDone}
use Rattle.fs.specs.Refusals.{fault_of}
use Rattle.fs.proofs.NamedOpens as laws
use Rattle.fs.proofs.RemovalPlans.{change_metadata}
use Rattle.volume.proofs.ServeLaws.{is_err_of}
use Rattle.fs.proofs.fs.Fs.plan_known.Goals as goal

pub returns-in_err-cached-clause-planned : goal.returns-in_err-cached-clause-planned
returns-in_err-cached-clause-planned g c = rw (is_err_of c.from_residual.result c.in_err-cached.field-0.0 c.from_residual.ensures.1) (tt)

pub returns-in_err-cached-clause-step : goal.returns-in_err-cached-clause-step
returns-in_err-cached-clause-step g c = rw (is_err_of c.from_residual.result c.in_err-cached.field-0.0 c.from_residual.ensures.1) (λ state arguments placed. tt)

pub returns-in_err-cached-clause-opened : goal.returns-in_err-cached-clause-opened
returns-in_err-cached-clause-opened g c = rw (is_err_of c.from_residual.result c.in_err-cached.field-0.0 c.from_residual.ensures.1) (tt)

pub returns-in_err-cached-clause-full : goal.returns-in_err-cached-clause-full
returns-in_err-cached-clause-full g c = rw (is_err_of c.from_residual.result c.in_err-cached.field-0.0 c.from_residual.ensures.1) (tt)

pub returns-in_err-edits-clause-planned : goal.returns-in_err-edits-clause-planned
returns-in_err-edits-clause-planned g c = rw (is_err_of c.from_residual-in_err-edits.result c.in_err-edits.field-0.0 c.from_residual-in_err-edits.ensures.1) (tt)

pub returns-in_err-edits-clause-step : goal.returns-in_err-edits-clause-step
returns-in_err-edits-clause-step g c = rw (is_err_of c.from_residual-in_err-edits.result c.in_err-edits.field-0.0 c.from_residual-in_err-edits.ensures.1) (λ state arguments placed. tt)

pub returns-in_err-edits-clause-opened : goal.returns-in_err-edits-clause-opened
returns-in_err-edits-clause-opened g c = rw (is_err_of c.from_residual-in_err-edits.result c.in_err-edits.field-0.0 c.from_residual-in_err-edits.ensures.1) (tt)

pub returns-in_err-edits-clause-full : goal.returns-in_err-edits-clause-full
returns-in_err-edits-clause-full g c = rw (is_err_of c.from_residual-in_err-edits.result c.in_err-edits.field-0.0 c.from_residual-in_err-edits.ensures.1) (tt)

pub returns-in_err-cached-clause-refused : goal.returns-in_err-cached-clause-refused
returns-in_err-cached-clause-refused g c state arguments placed =
    let p = err_from_is_err_and c.from_residual.result c.from_residual.ensures.1 in
    rw (p.1, p.2) (by_reason c.in_err-cached.field-0.0 (c.in_err-cached.ensures.tests state placed.on.is_state))
  where
    by_reason : (reason : NotDone) → IsRefusedBy (file_tests (fs_of c.args.self.now).volume.limits state c.args.asked.share.access (type_of c.args.asked.how) c.args.asked.name.now) reason
        → IsNotDone (fs_of c.args.self.now) state c.args.now (Argument.Open arguments) (fault_of reason)
    by_reason (refusal.Status reason) bad =
        laws.refused_file (fs_of c.args.self.now) c.args.cred.now c.args.now c.args.asked c.args.is_full state arguments placed.on placed.opening placed.passed reason bad
    by_reason refusal.Memory bad = tt

pub returns-then-is_full-clause-refused : goal.returns-then-is_full-clause-refused
returns-then-is_full-clause-refused g c state arguments placed =
    laws.table_full (fs_of c.args.self.now) c.args.cred.now c.args.now c.args.asked c.args.is_full state arguments placed.on placed.opening placed.passed
    (c.in_ok-cached.ensures.tests state placed.on.is_state) c.if-is_full.true

pub returns-then-not-is_cut-clause-step : goal.returns-then-not-is_cut-clause-step
returns-then-not-is_cut-clause-step g c state arguments placed =
    let fs = fs_of c.args.self.now in
    let directory = c.requires.directory.node in
    let before = change_metadata fs.volume.tree c.args.asked.directory c.args.directory.now directory ∙ sym (ap (λ (it : CachedNode). it.fields.change) c.directory.view_is) in
    let uncut = sym c.in_ok-cached.ensures.cut ∙ c.if-not-is_cut.true in
    record {
      quiet = laws.quiet fs c.args.cred.now c.args.now c.args.asked c.args.is_full state arguments placed.on placed.opening placed.passed
          (c.in_ok-cached.ensures.tests state placed.on.is_state) c.if-is_full.false c.args.number c.requires.leads c.directory.inside.inode.change before uncut;
      step = laws.stays_open fs c.args.cred.now c.args.now c.args.asked c.args.is_full state arguments placed.on placed.opening placed.passed
          (c.in_ok-cached.ensures.tests state placed.on.is_state) c.if-is_full.false c.args.number c.requires.leads c.directory.inside.inode.change before uncut;
    }

pub returns-in_err-edits-clause-refused : goal.returns-in_err-edits-clause-refused
returns-in_err-edits-clause-refused g c state arguments placed =
    let p = err_from_is_err_and c.from_residual-in_err-edits.result c.from_residual-in_err-edits.ensures.1 in
    rw (p.1, p.2) (by_reason c.in_err-edits.field-0.0 c.in_err-edits.ensures.tests)
  where
    by_reason : (reason : NotDone) → IsRefusedBy (room_tests (fs_of c.args.self.now) (tree_cut (fs_of c.args.self.now) c.args.number c.args.now)) reason
        → IsNotDone (fs_of c.args.self.now) state c.args.now (Argument.Open arguments) (fault_of reason)
    by_reason (refusal.Status reason) bad =
        let fs = fs_of c.args.self.now in
        let directory = c.requires.directory.node in
        let before = change_metadata fs.volume.tree c.args.asked.directory c.args.directory.now directory ∙ sym (ap (λ (it : CachedNode). it.fields.change) c.directory.view_is) in
        laws.no_cut fs c.args.cred.now c.args.now c.args.asked c.args.is_full state arguments placed.on placed.opening placed.passed
        (c.in_ok-cached.ensures.tests state placed.on.is_state) c.if-is_full.false c.args.number c.requires.leads c.directory.inside.inode.change before
        (sym c.in_ok-cached.ensures.cut ∙ c.if-not-is_cut.false) reason bad
    by_reason refusal.Memory bad = tt

pub returns-clause-step : goal.returns-clause-step
returns-clause-step g c state arguments placed =
    let fs = fs_of c.args.self.now in
    let directory = c.requires.directory.node in
    let before = change_metadata fs.volume.tree c.args.asked.directory c.args.directory.now directory ∙ sym (ap (λ (it : CachedNode). it.fields.change) c.directory.view_is) in
    laws.is_cut fs c.args.cred.now c.args.now c.args.asked c.args.is_full state arguments placed.on placed.opening placed.passed
    (c.in_ok-cached.ensures.tests state placed.on.is_state) c.if-is_full.false c.args.number c.requires.leads c.directory.inside.inode.change before
    (sym c.in_ok-cached.ensures.cut ∙ c.if-not-is_cut.false) c.in_ok-edits.ensures.tests
    ∙ ap (λ (t : Tree). after_open t (fs.changes + 1) state arguments (type_of c.args.asked.how)
    (record { number = c.args.number; directory = record { before = c.directory.inside.inode.change; after = c.directory.inside.inode.change }; effect = effect.Cut }))
    (sym c.in_ok-edits.ensures.after)
