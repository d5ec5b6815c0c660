use Rattle.fs.specs.Changes.{fs_ending}
use Rattle.fs.specs.Views.{fs_of, fs_failures}
use Rattle.fs.specs.Setting.{SetsTree}
use Rattle.fs.proofs.ChangeLaws.{changes_by, left, left_by, down_room, planned_room, full_room, told_room}
use Rattle.fs.proofs.SettingLaws.{sets_tree}
use Rattle.volume.specs.Changes.{IsTree}
use Rattle.volume.specs.Edits.{edited_by}
use Rattle.std.proofs.Common.{refl, sym, ◌∙◌}
use Rattle.fs.specs.Refusals.{fault_of}
use Rattle.volume.proofs.ServeLaws.{is_err_of}
use Rattle.fs.proofs.fs.Fs.set_attributes.Goals as goal

pub returns-then-is_down : goal.returns-then-is_down
returns-then-is_down g c = record {
  step = λ state arguments on is. sym c.is_down.ensures ∙ c.if-is_down.true;
  volume = left g.D.Device.keeps_word _ (fs_of c.args.self.now) (fs_failures c.args.self.now);
  room = down_room _ _;
}

pub returns-in_err-planned : goal.returns-in_err-planned
returns-in_err-planned g c =
    let refused = c.in_err-planned.field-0.0 in
    let told = is_err_of c.from_residual.result (fault_of refused) c.from_residual.ensures.1 in
    rw told (record {
      step = λ state arguments on is. c.in_err-planned.ensures.refused state arguments on is;
      volume = left_by g.D.Device.keeps_word _ (fs_of c.args.self.now) (fs_failures c.args.self.now) refused;
      room = planned_room _ _ c.is_down.result c.is_down.ensures c.if-is_down.false refused;
    })

pub returns-then-not-has_room-clause-volume : goal.returns-then-not-has_room-clause-volume
returns-then-not-has_room-clause-volume g c = left g.D.Device.keeps_word _ (fs_of c.args.self.now) (fs_failures c.args.self.now)

pub returns-clause-volume : goal.returns-clause-volume
returns-clause-volume g c =
    let fs = fs_of c.args.self.now in
    changes_by g.D.Device.keeps_word (IsTree fs.volume (edited_by fs.volume c.in-Some.edits.items)) (SetsTree fs c.args.cred.now c.args.now c.args.asked)
    (λ after lasts made. sets_tree fs c.args.cred.now c.args.now c.args.asked c.in-Some.edits.items
    (λ state arguments on is. rw c.in-Some.is at (c.in_ok-planned.ensures.step state arguments on is)) after lasts made)
    _ _ _ _ (fs_ending c.change_stable.result) (rw c.deref.ensures.value at c.change_stable.ensures.volume)

pub returns-then-not-has_room-clause-room : goal.returns-then-not-has_room-clause-room
returns-then-not-has_room-clause-room g c = full_room _ _ c.is_down.result c.is_down.ensures c.if-is_down.false c.if-not-has_room.true

pub returns-clause-room : goal.returns-clause-room
returns-clause-room g c = told_room _ _ c.is_down.result c.is_down.ensures c.if-is_down.false c.change_stable.result c.change_stable.ensures.only c.if-not-has_room.false
