use Rattle.std.proofs.Common.{◌+◌, ◌^◌, ◌∙◌, Some, sym, arith, true≢false}
use Rattle.std.proofs.lemmas.Bool.{lt-ltb}
use Rattle.std.proofs.lemmas.Result.{err_from_is_err_and}
use Rattle.model_tree.specs.Trees.Changes.{touched}
use Rattle.model_tree.specs.Trees.Keyed.{at}
use Rattle.model_tree.specs.Trees.Stamp.{next_stamp}
use Rattle.fs.specs.Views.{fs_of}
use Rattle.fs.specs.Opening.{tree_cut}
use Rattle.fs.proofs.RoomTests.{passed_room, resized_room}
use Rattle.fs.proofs.SizePlans as plans
use Rattle.volume.specs.Views.{volume_state}
use Rattle.model.specs.declared.not_done.NotDone.TheVariants as refusal
use Rattle.volume.proofs.ServeLaws.{is_err_of}
use Rattle.volume.proofs.LimitLaws.{limited_of}
use Rattle.fs.proofs.fs.Fs.plan_cut.Goals as goal

pub returns-in_err-metadata-clause-tests : goal.returns-in_err-metadata-clause-tests
returns-in_err-metadata-clause-tests g c = rw (is_err_of c.from_residual-in_err-metadata.result refusal.Memory c.from_residual-in_err-metadata.ensures.1) (tt)

pub returns-in_err-metadata-clause-planned : goal.returns-in_err-metadata-clause-planned
returns-in_err-metadata-clause-planned g c = rw (is_err_of c.from_residual-in_err-metadata.result refusal.Memory c.from_residual-in_err-metadata.ensures.1) (tt)

pub returns-in_err-metadata-clause-after : goal.returns-in_err-metadata-clause-after
returns-in_err-metadata-clause-after g c = rw (is_err_of c.from_residual-in_err-metadata.result refusal.Memory c.from_residual-in_err-metadata.ensures.1) (tt)

pub returns-in_err-edits-clause-tests : goal.returns-in_err-edits-clause-tests
returns-in_err-edits-clause-tests g c = rw (is_err_of c.from_residual-in_err-edits.result refusal.Memory c.from_residual-in_err-edits.ensures.1) (tt)

pub returns-in_err-edits-clause-planned : goal.returns-in_err-edits-clause-planned
returns-in_err-edits-clause-planned g c = rw (is_err_of c.from_residual-in_err-edits.result refusal.Memory c.from_residual-in_err-edits.ensures.1) (tt)

pub returns-in_err-edits-clause-after : goal.returns-in_err-edits-clause-after
returns-in_err-edits-clause-after g c = rw (is_err_of c.from_residual-in_err-edits.result refusal.Memory c.from_residual-in_err-edits.ensures.1) (tt)

pub returns-in_err-stamp-clause-tests : goal.returns-in_err-stamp-clause-tests
unfolding fs_of volume_state
returns-in_err-stamp-clause-tests g c =
    let fs = fs_of c.args.self.now in
    let p = err_from_is_err_and c.from_residual.result c.from_residual.ensures.1 in
    rw (p.1, p.2) (c.in_err-stamp.ensures.tests (tree_cut fs c.args.number c.args.now)
    (resized_room fs (c.args.self.now.ready c.requires.up) c.args.number (Some 0) (touched (at c.args.number fs.volume.tree) (next_stamp fs.volume.run fs.changes) c.args.now)))

pub returns-in_err-stamp-clause-planned : goal.returns-in_err-stamp-clause-planned
returns-in_err-stamp-clause-planned g c = rw (is_err_of c.from_residual.result (refusal.Status c.in_err-stamp.field-0.0) c.from_residual.ensures.1) (tt)

pub returns-in_err-stamp-clause-after : goal.returns-in_err-stamp-clause-after
returns-in_err-stamp-clause-after g c = rw (is_err_of c.from_residual.result (refusal.Status c.in_err-stamp.field-0.0) c.from_residual.ensures.1) (tt)

-- a stamp was left
pub returns-in_err-metadata-clause-memory : goal.returns-in_err-metadata-clause-memory
unfolding fs_of
returns-in_err-metadata-clause-memory g c none =
    absurd (true≢false (sym (lt-ltb ((fs_of c.args.self.now).changes + 1) (2 ^ 32) c.in_ok-stamp.ensures.left) ∙ none))

pub returns-in_err-edits-clause-memory : goal.returns-in_err-edits-clause-memory
unfolding fs_of
returns-in_err-edits-clause-memory g c none =
    absurd (true≢false (sym (lt-ltb ((fs_of c.args.self.now).changes + 1) (2 ^ 32) c.in_ok-stamp.ensures.left) ∙ none))

pub returns-clause-tests : goal.returns-clause-tests
unfolding fs_of volume_state
returns-clause-tests g c =
    let fs = fs_of c.args.self.now in
    c.in_ok-stamp.ensures.tests (tree_cut fs c.args.number c.args.now)
    (resized_room fs (c.args.self.now.ready c.requires.up) c.args.number (Some 0) (touched (at c.args.number fs.volume.tree) (next_stamp fs.volume.run fs.changes) c.args.now))

pub returns-clause-planned : goal.returns-clause-planned
unfolding fs_of volume_state
returns-clause-planned g c =
    let fs = fs_of c.args.self.now in
    let room = passed_room fs (tree_cut fs c.args.number c.args.now) (c.in_ok-stamp.ensures.tests (tree_cut fs c.args.number c.args.now)
    (resized_room fs (c.args.self.now.ready c.requires.up) c.args.number (Some 0) (touched (at c.args.number fs.volume.tree) (next_stamp fs.volume.run fs.changes) c.args.now))) in
    plans.planned_where fs (c.args.self.now.ready c.requires.up) c.args.self.now.counted (limited_of c.args.self.now.volume) c.args.now c.args.number c.args.cached.now
    c.requires.node c.requires.file c.requires.fit 0 (omega arith) c.in_ok-stamp.stamp c.in_ok-metadata.metadata c.in_ok-edits.edits.items
    c.in_ok-stamp.ensures.stamp c.in_ok-metadata.ensures c.in_ok-edits.ensures room.fit c.in_ok-stamp.ensures.left

pub returns-clause-after : goal.returns-clause-after
unfolding fs_of volume_state
returns-clause-after g c =
    let fs = fs_of c.args.self.now in
    plans.after fs (c.args.self.now.ready c.requires.up) c.args.self.now.counted (limited_of c.args.self.now.volume) c.args.now c.args.number c.args.cached.now
    c.requires.node c.requires.file c.requires.fit 0 (omega arith) c.in_ok-stamp.stamp c.in_ok-metadata.metadata c.in_ok-edits.edits.items
    c.in_ok-stamp.ensures.stamp c.in_ok-metadata.ensures c.in_ok-edits.ensures
