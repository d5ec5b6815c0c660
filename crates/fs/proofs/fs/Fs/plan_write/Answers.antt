use Rattle.std.proofs.Common.{◌≤◌, ◌+◌, ◌^◌, ◌∙◌, length, sym, true≢false}
use Rattle.std.proofs.lemmas.Bool.{lt-ltb}
use Rattle.std.proofs.lemmas.Result.{err_from_is_err_and}
use Rattle.fs.specs.Views.{fs_of}
use Rattle.fs.specs.Writing.{bytes_taken}
use Rattle.fs.proofs.RoomTests.{file_of, passed_room}
use Rattle.fs.proofs.WrittenLaws.{early, late, too_big, planned_where, plan_goes_on, room_asked, tree_written}
use Rattle.volume.specs.Views.{volume_state}
use Rattle.model.specs.declared.not_done.NotDone.TheVariants as refusal
use Rattle.volume.proofs.ServeLaws.{is_err_of}
use Rattle.volume.proofs.LimitLaws.{limited_of}
use Rattle.fs.proofs.fs.Fs.plan_write.Goals as goal

pub returns-in_err-metadata-clause-planned : goal.returns-in_err-metadata-clause-planned
returns-in_err-metadata-clause-planned g c = rw (is_err_of c.from_residual-in_err-metadata.result refusal.Memory c.from_residual-in_err-metadata.ensures.1) (tt)

pub returns-in_err-metadata-clause-step : goal.returns-in_err-metadata-clause-step
returns-in_err-metadata-clause-step g c = rw (is_err_of c.from_residual-in_err-metadata.result refusal.Memory c.from_residual-in_err-metadata.ensures.1) (λ state arguments on is. tt)

pub returns-in_err-metadata-clause-refused : goal.returns-in_err-metadata-clause-refused
returns-in_err-metadata-clause-refused g c = rw (is_err_of c.from_residual-in_err-metadata.result refusal.Memory c.from_residual-in_err-metadata.ensures.1) (λ state arguments on is. tt)

pub returns-in_err-cached-clause-planned : goal.returns-in_err-cached-clause-planned
returns-in_err-cached-clause-planned g c = rw (is_err_of c.from_residual.result (refusal.Status c.in_err-cached.field-0.0) c.from_residual.ensures.1) (tt)

pub returns-in_err-cached-clause-step : goal.returns-in_err-cached-clause-step
returns-in_err-cached-clause-step g c = rw (is_err_of c.from_residual.result (refusal.Status c.in_err-cached.field-0.0) c.from_residual.ensures.1) (λ state arguments on is. tt)

pub returns-in_err-cached-clause-refused : goal.returns-in_err-cached-clause-refused
returns-in_err-cached-clause-refused g c state arguments on is =
    let p = err_from_is_err_and c.from_residual.result c.from_residual.ensures.1 in
    rw (p.1, p.2) (early (fs_of c.args.self.now) c.args.cred.now c.args.now c.args.number c.args.verdict c.args.asked c.taken-part.ensures.bytes state arguments on is
    c.in_err-cached.field-0.0 c.in_err-cached.ensures.tests)

pub returns-in_default-clause-refused : goal.returns-in_default-clause-refused
returns-in_default-clause-refused g c state arguments on is =
    let fs = fs_of c.args.self.now in
    too_big fs c.args.cred.now c.args.now c.args.number c.args.verdict c.args.asked c.taken-part.ensures.bytes state arguments on is
    c.in_ok-cached.ensures.tests c.requires.some (rw (← c.taken-part.ensures.taken) c.in_default.ensures.none)

pub stamp_for-requires : goal.stamp_for-requires
unfolding fs_of volume_state
stamp_for-requires g c =
    (file_of (fs_of c.args.self.now).volume.tree c.args.number c.in_ok-cached.cached.now c.in_ok-cached.ensures.node c.in_ok-cached.ensures.file, tt)

pub returns-in_err-stamp-clause-planned : goal.returns-in_err-stamp-clause-planned
returns-in_err-stamp-clause-planned g c = rw (is_err_of c.from_residual-in_err-stamp.result (refusal.Status c.in_err-stamp.field-0.0) c.from_residual-in_err-stamp.ensures.1) (tt)

pub returns-in_err-stamp-clause-step : goal.returns-in_err-stamp-clause-step
returns-in_err-stamp-clause-step g c = rw (is_err_of c.from_residual-in_err-stamp.result (refusal.Status c.in_err-stamp.field-0.0) c.from_residual-in_err-stamp.ensures.1) (λ state arguments on is. tt)

pub returns-in_err-stamp-clause-refused : goal.returns-in_err-stamp-clause-refused
unfolding fs_of volume_state
returns-in_err-stamp-clause-refused g c state arguments on is =
    let fs = fs_of c.args.self.now in
    let node = c.in_ok-cached.ensures.node in
    let low : c.args.asked.offset + length (bytes_taken fs c.args.asked) ≤ fs.volume.limits.file_bytes = rw (← c.taken-part.ensures.taken) c.in-Some.ensures.some.1 in
    let p = err_from_is_err_and c.from_residual-in_err-stamp.result c.from_residual-in_err-stamp.ensures.1 in
    rw (p.1, p.2) (late fs c.args.cred.now c.args.now c.args.number c.args.verdict c.args.asked c.taken-part.ensures.bytes state arguments on is
    c.in_ok-cached.ensures.tests c.requires.some low node.node node.there c.in_err-stamp.field-0.0
    (c.in_err-stamp.ensures.tests (tree_written fs c.args.now c.args.number c.args.asked node.node)
    (room_asked fs (c.args.self.now.ready c.requires.up) c.args.now c.args.number c.args.asked node.node c.in-Some.offset c.taken-part.result c.in-Some.ensures.some.0 c.taken-part.ensures.taken)))

-- a stamp was left
pub returns-in_err-metadata-clause-memory : goal.returns-in_err-metadata-clause-memory
unfolding fs_of
returns-in_err-metadata-clause-memory g c none =
    absurd (true≢false (sym (lt-ltb ((fs_of c.args.self.now).changes + 1) (2 ^ 32) c.in_ok-stamp.ensures.left) ∙ none))

pub returns-clause-planned : goal.returns-clause-planned
unfolding fs_of volume_state
returns-clause-planned g c =
    let fs = fs_of c.args.self.now in
    let node = c.in_ok-cached.ensures.node in
    let low : c.args.asked.offset + length (bytes_taken fs c.args.asked) ≤ fs.volume.limits.file_bytes = rw (← c.taken-part.ensures.taken) c.in-Some.ensures.some.1 in
    planned_where fs (c.args.self.now.ready c.requires.up) c.args.self.now.counted (limited_of c.args.self.now.volume) c.args.cred.now c.args.now c.args.number c.args.verdict c.args.asked c.in_ok-cached.cached.now
    node c.in_ok-cached.ensures.file c.in_ok-cached.ensures.fit c.in_ok-cached.ensures.tests c.requires.some low
    c.in_ok-stamp.stamp c.in-Some.offset c.taken-part.result c.in_ok-metadata.metadata c.written_edits.result
    c.in_ok-stamp.ensures.stamp c.in-Some.ensures.some.0 c.taken-part.ensures.taken c.in_ok-metadata.ensures c.written_edits.ensures
    (passed_room fs (tree_written fs c.args.now c.args.number c.args.asked node.node) (c.in_ok-stamp.ensures.tests (tree_written fs c.args.now c.args.number c.args.asked node.node)
    (room_asked fs (c.args.self.now.ready c.requires.up) c.args.now c.args.number c.args.asked node.node c.in-Some.offset c.taken-part.result c.in-Some.ensures.some.0 c.taken-part.ensures.taken)))

pub returns-clause-step : goal.returns-clause-step
unfolding fs_of volume_state
returns-clause-step g c state arguments on is =
    let fs = fs_of c.args.self.now in
    let node = c.in_ok-cached.ensures.node in
    let low : c.args.asked.offset + length (bytes_taken fs c.args.asked) ≤ fs.volume.limits.file_bytes = rw (← c.taken-part.ensures.taken) c.in-Some.ensures.some.1 in
    plan_goes_on fs (c.args.self.now.ready c.requires.up) c.args.self.now.counted (limited_of c.args.self.now.volume) c.args.cred.now c.args.now c.args.number c.args.verdict c.args.asked c.in_ok-cached.cached.now
    node c.in_ok-cached.ensures.file c.in_ok-cached.ensures.fit c.in_ok-cached.ensures.tests c.requires.some low
    c.in_ok-stamp.stamp c.in-Some.offset c.taken-part.result c.in_ok-metadata.metadata c.written_edits.result
    c.in_ok-stamp.ensures.stamp c.in-Some.ensures.some.0 c.taken-part.ensures.taken c.in_ok-metadata.ensures c.written_edits.ensures
    (passed_room fs (tree_written fs c.args.now c.args.number c.args.asked node.node) (c.in_ok-stamp.ensures.tests (tree_written fs c.args.now c.args.number c.args.asked node.node)
    (room_asked fs (c.args.self.now.ready c.requires.up) c.args.now c.args.number c.args.asked node.node c.in-Some.offset c.taken-part.result c.in-Some.ensures.some.0 c.taken-part.ensures.taken)))
    c.taken-part.ensures.bytes state arguments on is
