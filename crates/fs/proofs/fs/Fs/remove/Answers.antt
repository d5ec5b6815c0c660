use Rattle.std.proofs.Common.{ap, ◌∙◌, refl, sym}
use Rattle.std.specs.Prelude.{Err}
use Rattle.model.specs.Operations.Step.{Stepped}
use Rattle.fs.specs.Views.{fs_of, fs_failures}
use Rattle.fs.proofs.ChangeLaws.{changes_by, left, left_by, down_no_memory, told_memory, not_known, down_room, planned_room, kept_room, full_room, done_room}
use Rattle.volume.proofs.ServeLaws.{is_err_of}
use Rattle.volume.specs.Changes.{IsTree}
use Rattle.volume.specs.Edits.{edited_by}
use Rattle.volume.specs.VolumeState.{with_tree}
use Rattle.fs.specs.Refusals.{fault_of}
use Rattle.fs.proofs.fs.Fs.remove.Goals as goal

pub returns-in_err-change_stable-clause-step : goal.returns-in_err-change_stable-clause-step
returns-in_err-change_stable-clause-step g c = rw (is_err_of c.from_residual-in_err-change_stable.result c.in_err-change_stable.field-0.0 c.from_residual-in_err-change_stable.ensures.1) (λ state on. not_known (fs_of c.args.self.now) state c.args.now _ c.in_err-change_stable.field-0.0 c.in_err-change_stable.ensures.only)

pub returns-in_err-change_stable-clause-gone : goal.returns-in_err-change_stable-clause-gone
returns-in_err-change_stable-clause-gone g c = rw (is_err_of c.from_residual-in_err-change_stable.result c.in_err-change_stable.field-0.0 c.from_residual-in_err-change_stable.ensures.1) (tt)

pub returns-in_err-change_stable-clause-room : goal.returns-in_err-change_stable-clause-room
returns-in_err-change_stable-clause-room g c = rw (is_err_of c.from_residual-in_err-change_stable.result c.in_err-change_stable.field-0.0 c.from_residual-in_err-change_stable.ensures.1) (kept_room _ _ c.is_down.result c.is_down.ensures c.if-is_down.false c.in_err-change_stable.field-0.0 c.in_err-change_stable.ensures.only c.if-not-has_room.false)

pub returns-then-is_down : goal.returns-then-is_down
returns-then-is_down g c = record {
  step = λ state on. sym c.is_down.ensures ∙ c.if-is_down.true;
  volume = left g.D.Device.keeps_word _ (fs_of c.args.self.now) (fs_failures c.args.self.now);
  gone = tt;
  room = down_room _ _;
  memory = λ none same. down_no_memory same;
}

pub returns-in_err-planned : goal.returns-in_err-planned
returns-in_err-planned g c =
    let refused = c.in_err-planned.field-0.0 in
    let told = is_err_of c.from_residual.result (fault_of refused) c.from_residual.ensures.1 in
    rw told (record {
      step = λ state on. c.in_err-planned.ensures.refused state on;
      volume = left_by g.D.Device.keeps_word _ (fs_of c.args.self.now) (fs_failures c.args.self.now) refused;
      gone = tt;
      room = planned_room _ _ c.is_down.result c.is_down.ensures c.if-is_down.false refused;
      memory = λ none same. c.in_err-planned.ensures.memory none (ap Err (told_memory refused same));
    })

pub returns-then-not-has_room-clause-volume : goal.returns-then-not-has_room-clause-volume
returns-then-not-has_room-clause-volume g c = left g.D.Device.keeps_word _ (fs_of c.args.self.now) (fs_failures c.args.self.now)

pub returns-in_err-change_stable-clause-volume : goal.returns-in_err-change_stable-clause-volume
returns-in_err-change_stable-clause-volume g c =
    let told = is_err_of c.from_residual-in_err-change_stable.result c.in_err-change_stable.field-0.0 c.from_residual-in_err-change_stable.ensures.1 in
    let held = (fs_of c.args.self.now).volume in
    rw told (changes_by g.D.Device.keeps_word (IsTree held (edited_by held c.in_ok-planned.planned.edits.items)) _
    (λ after lasts made. made.kept ∙ ap (λ (s : Stepped). with_tree held s.state.tree) (c.in_ok-planned.ensures.step made.state made.on))
    _ _ _ _ _ (rw (c.in_err-change_stable.was, c.deref.ensures.value) at c.change_stable.ensures.volume))

pub returns-clause-volume : goal.returns-clause-volume
returns-clause-volume g c =
    let held = (fs_of c.args.self.now).volume in
    changes_by g.D.Device.keeps_word (IsTree held (edited_by held c.in_ok-planned.planned.edits.items)) _
    (λ after lasts made. made.kept ∙ ap (λ (s : Stepped). with_tree held s.state.tree) (c.in_ok-planned.ensures.step made.state made.on))
    _ _ _ _ _ (rw (c.in_ok-change_stable.was, c.deref.ensures.value) at c.change_stable.ensures.volume)

pub returns-then-not-has_room-clause-room : goal.returns-then-not-has_room-clause-room
returns-then-not-has_room-clause-room g c = full_room _ _ c.is_down.result c.is_down.ensures c.if-is_down.false c.if-not-has_room.true

pub returns-clause-room : goal.returns-clause-room
returns-clause-room g c = done_room _ _ c.is_down.result c.is_down.ensures c.if-is_down.false _ c.if-not-has_room.false
