use Rattle.std.proofs.Common.{◌≡◌, ap, ◌∙◌, length, sym, refl}
use Rattle.std.specs.Prelude.{Err}
use Rattle.std.proofs.lemmas.Bool.{eqb-true}
use Rattle.model.specs.Server.Runs.{is_done}
use Rattle.model.specs.Operations.Step.{Stepped}
use Rattle.fs.specs.Views.{fs_of, fs_failures}
use Rattle.fs.specs.Writing.{IsWrittenTree, WritesTree}
use Rattle.fs.specs.declared.fault.FsFault.TheVariants as fault
use Rattle.fs.proofs.BytesLaws.{none_bytes}
use Rattle.fs.proofs.ChangeLaws.{changes_by, left, left_by, down_no_memory, told_memory, down_room, planned_room, full_room, done_room}
use Rattle.fs.proofs.WrittenLaws.{early, nothing, puts_tree}
use Rattle.volume.proofs.ServeLaws.{is_err_of}
use Rattle.fs.specs.Refusals.{fault_of}
use Rattle.fs.proofs.fs.Fs.write.Goals as goal

pub returns-then-is_down : goal.returns-then-is_down
returns-then-is_down g c = record {
  step = λ state arguments on is. sym c.is_down.ensures ∙ c.if-is_down.true;
  volume = left g.D.Device.keeps_word _ (fs_of c.args.self.now) (fs_failures c.args.self.now);
  count = tt;
  room = down_room _ _;
  memory = λ none same. down_no_memory same;
}

pub returns-in_err-edits : goal.returns-in_err-edits
returns-in_err-edits g c =
    let refused = c.in_err-edits.field-0.0 in
    let told = is_err_of c.from_residual-in_err-edits.result (fault_of refused) c.from_residual-in_err-edits.ensures.1 in
    rw told (record {
      step = λ state arguments on is. c.in_err-edits.ensures.refused state arguments on is;
      volume = left_by g.D.Device.keeps_word _ (fs_of c.args.self.now) (fs_failures c.args.self.now) refused;
      count = tt;
      room = planned_room _ _ c.is_down.result c.is_down.ensures c.if-is_down.false refused;
      memory = λ none same. c.in_err-edits.ensures.memory none (ap Err (told_memory refused same));
    })

pub returns-then-not-has_room-2-clause-volume : goal.returns-then-not-has_room-2-clause-volume
returns-then-not-has_room-2-clause-volume g c = left g.D.Device.keeps_word _ (fs_of c.args.self.now) (fs_failures c.args.self.now)

pub returns-then-not-has_room-clause-volume : goal.returns-then-not-has_room-clause-volume
returns-then-not-has_room-clause-volume g c = left g.D.Device.keeps_word _ (fs_of c.args.self.now) (fs_failures c.args.self.now)

pub returns-in_err-permit_file-clause-volume : goal.returns-in_err-permit_file-clause-volume
returns-in_err-permit_file-clause-volume g c =
    let told = is_err_of c.from_residual.result (fault.Status c.in_err-permit_file.field-0.0) c.from_residual.ensures.1 in
    rw told (left g.D.Device.keeps_word _ (fs_of c.args.self.now) (fs_failures c.args.self.now))

pub returns-in_err-permit_file-clause-step : goal.returns-in_err-permit_file-clause-step
returns-in_err-permit_file-clause-step g c state arguments on is =
    let told = is_err_of c.from_residual.result (fault.Status c.in_err-permit_file.field-0.0) c.from_residual.ensures.1 in
    let none : length c.args.asked.bytes.now ≡ 0 = eqb-true (length c.args.asked.bytes.now) 0 (sym c.is_empty.ensures ∙ c.if-is_empty.true) in
    rw told (early (fs_of c.args.self.now) c.args.cred.now c.args.now c.args.number c.args.verdict c.args.asked (none_bytes c.args.asked.bytes.now none) state arguments on is
    c.in_err-permit_file.field-0.0 c.in_err-permit_file.ensures.tests)

pub returns-then-not-has_room-clause-step : goal.returns-then-not-has_room-clause-step
returns-then-not-has_room-clause-step g c state arguments on is =
    let none : length c.args.asked.bytes.now ≡ 0 = eqb-true (length c.args.asked.bytes.now) 0 (sym c.is_empty.ensures ∙ c.if-is_empty.true) in
    ap (λ (s : Stepped). is_done s.outcome) (nothing (fs_of c.args.self.now) c.args.cred.now c.args.now c.args.number c.args.verdict c.args.asked (none_bytes c.args.asked.bytes.now none) state arguments on is
    c.in_ok-permit_file.ensures.tests none)

pub returns-then-is_empty-clause-step : goal.returns-then-is_empty-clause-step
returns-then-is_empty-clause-step g c state arguments on is keeps =
    let none : length c.args.asked.bytes.now ≡ 0 = eqb-true (length c.args.asked.bytes.now) 0 (sym c.is_empty.ensures ∙ c.if-is_empty.true) in
    nothing (fs_of c.args.self.now) c.args.cred.now c.args.now c.args.number c.args.verdict c.args.asked (none_bytes c.args.asked.bytes.now none) state arguments on is
    c.in_ok-permit_file.ensures.tests none

pub returns-in_err-apply_plan-clause-volume : goal.returns-in_err-apply_plan-clause-volume
returns-in_err-apply_plan-clause-volume g c =
    let fs = fs_of c.args.self.now in
    let told = is_err_of c.from_residual-in_err-apply_plan.result c.in_err-apply_plan.field-0.0 c.from_residual-in_err-apply_plan.ensures.1 in
    rw told (changes_by g.D.Device.keeps_word (IsWrittenTree fs.volume c.in_ok-edits.edits c.args.asked.is_stable) (WritesTree fs c.args.cred.now c.args.number c.args.now c.args.verdict c.args.asked)
    (λ after lasts made. puts_tree fs c.args.cred.now c.args.now c.args.number c.args.verdict c.args.asked c.in_ok-edits.edits c.in_ok-edits.ensures.step after lasts made)
    _ _ _ _ _ (rw c.in_err-apply_plan.was at c.apply_plan.ensures.volume))

pub returns-clause-volume : goal.returns-clause-volume
returns-clause-volume g c =
    let fs = fs_of c.args.self.now in
    changes_by g.D.Device.keeps_word (IsWrittenTree fs.volume c.in_ok-edits.edits c.args.asked.is_stable) (WritesTree fs c.args.cred.now c.args.number c.args.now c.args.verdict c.args.asked)
    (λ after lasts made. puts_tree fs c.args.cred.now c.args.now c.args.number c.args.verdict c.args.asked c.in_ok-edits.edits c.in_ok-edits.ensures.step after lasts made)
    _ _ _ _ _ (rw c.in_ok-apply_plan.was at c.apply_plan.ensures.volume)

pub returns-then-not-has_room-clause-room : goal.returns-then-not-has_room-clause-room
returns-then-not-has_room-clause-room g c = full_room _ _ c.is_down.result c.is_down.ensures c.if-is_down.false c.if-not-has_room.true

pub returns-clause-room : goal.returns-clause-room
returns-clause-room g c = done_room _ _ c.is_down.result c.is_down.ensures c.if-is_down.false _ c.if-not-has_room-2.false

pub returns-then-not-has_room-2-clause-room : goal.returns-then-not-has_room-2-clause-room
returns-then-not-has_room-2-clause-room g c = full_room _ _ c.is_down.result c.is_down.ensures c.if-is_down.false c.if-not-has_room-2.true
