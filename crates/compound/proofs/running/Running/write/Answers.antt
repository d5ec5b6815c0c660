use Rattle.std.proofs.Common.{◌≡◌, true, Result, refl, sym, subst, ◌∙◌, arith, IfOk}
use Rattle.fs.proofs.ChangeLaws.{changes_by}
use Rattle.fs.specs.Changes.{FsChanges}
use Rattle.fs.specs.Views.{fs_of, fs_failures}
use Rattle.fs.specs.Writing.{IsWriting}
use Rattle.model.specs.Operations.Answer.{Outcome, Refused}
use Rattle.model.specs.Operations.Operation.{Argument}
use Rattle.model.specs.Operations.Step.{State}
use Rattle.model_tree.specs.declared.status.Status.{Status}
use Rattle.opens.specs.Views.{opens_of}
use Rattle.wire.specs.ArgumentViews.{write_view}
use Rattle.compound.specs.Files.{written_answer}
use Rattle.compound.specs.Operates.{GivesIn, HasRoom, ChangesTreeAndOpens, HasResult}
use Rattle.compound.specs.States.{shared}
use Rattle.compound.specs.Trees.{IsHere}
use Rattle.compound.specs.Volumes.{OperationGives, ending}
use Rattle.compound.specs.Views.{in_progress_of}
use Rattle.compound.specs.declared.fault.Fault.{Fault}
use Rattle.compound.specs.declared.executed.Executed.{Executed}
use Rattle.compound.proofs.Changing.{done_runs, told_gives, told_changes, fault_is_encoded, is_short}
use Rattle.compound.proofs.Rooms.{gives_in_room, gives_refusal}
use Rattle.compound.proofs.Trees.{is_on}
use Rattle.compound.proofs.VolumeLaws.{refusal_changes}
use Rattle.compound.proofs.WriteLaws.{wants_file, write_on_tree, write_sized, does_write, write_makes, write_up, written_room}
use Rattle.session.specs.Views.{table_of}
use Rattle.compound.proofs.Outcomes.{changed_if, on_err}
use Rattle.compound.proofs.running.Running.write.Goals as goal

pub returns-in-Err : goal.returns-in-Err
returns-in-Err g c = record {
  same = record { fs = refl; table = refl; opens = refl };
  state = record {
    gives = λ keeps.
        let table = table_of c.args.engine.now.table.now in
        let opens = opens_of c.args.engine.now.opens.now in
        let fs = fs_of c.args.engine.now.fs.now in
        let request = in_progress_of c.args.self.now in
        let arguments = write_view c.args.arguments.now in
        let kind = Argument.Write arguments in
        c.refuse.ensures.gives c.args.engine.now.moment (shared fs table opens) (shared fs table opens) kind
        (subst (λ (reason : Status). GivesIn c.args.engine.now.moment (shared fs table opens) (shared fs table opens) request request kind (Refused 38 reason)) (sym c.in-Err.ensures.err.0)
        (gives_refusal c.args.engine.now.moment (shared fs table opens) (shared fs table opens) request kind 38 _ (wants_file c.args.engine.now.moment fs table opens request arguments c.tell_bytes.ensures c.in-Err.ensures.err.1)));
    answered = c.refuse.ensures.answered;
    table = refl;
    opens = tt;
    volume =
        let table = table_of c.args.engine.now.table.now in
        let opens = opens_of c.args.engine.now.opens.now in
        let fs = fs_of c.args.engine.now.fs.now in
        let request = in_progress_of c.args.self.now in
        let arguments = write_view c.args.arguments.now in
        let kind = Argument.Write arguments in
        refusal_changes g.D.Device.keeps_word fs fs table opens (fs_failures c.args.engine.now.fs.now) (fs_failures c.args.engine.now.fs.now) request c.args.engine.now.moment kind 38 c.in-Err.status refl refl c.requires.up
        (subst (λ (reason : Status). GivesIn c.args.engine.now.moment (shared fs table opens) (shared fs table opens) request request kind (Refused 38 reason)) (sym c.in-Err.ensures.err.0)
        (gives_refusal c.args.engine.now.moment (shared fs table opens) (shared fs table opens) request kind 38 _ (wants_file c.args.engine.now.moment fs table opens request arguments c.tell_bytes.ensures c.in-Err.ensures.err.1)));
  };
}

-- If it is done

pub returns-in-Ok-write : goal.returns-in-Ok-write
unfolding in_progress_of
returns-in-Ok-write g c = record {
  same = record { fs = refl; table = refl; opens = refl };
  state = record {
    gives = λ keeps.
        let table = table_of c.args.engine.now.table.now in
        let opens = opens_of c.args.engine.now.opens.now in
        let fs = fs_of c.args.engine.now.fs.now in
        let new = fs_of c.write.new.self in
        let request = in_progress_of c.args.self.now in
        let arguments = write_view c.args.arguments.now in
        let kind = Argument.Write arguments in
        let answer = written_answer request.context.run arguments.stable c.in-Ok-write.count in
        subst (λ (outcome : Outcome). GivesIn c.args.engine.now.moment (shared fs table opens) (shared new table opens) request request kind outcome) (sym c.written.ensures.is)
        (gives_in_room c.args.engine.now.moment (shared fs table opens) (shared new table opens) request request kind answer
        (written_room request request.context.run arguments.stable c.in-Ok-write.count true (sym c.in-Ok-write.ensures.room.done ∙ c.has_written_room-has_room.ensures))
        (done_runs c.args.engine.now.moment fs request kind (write_on_tree c.args.engine.now.moment fs request arguments) new table opens opens request.context answer
        (λ state there known. does_write c.args.engine.now.moment fs request arguments new opens c.in-Ok-write.count state there known
        (c.in-Ok-write.ensures.step state arguments (is_on fs request _ state c.requires.run c.in-Ok.ensures.ok.0 c.in-Ok.ensures.ok.1 there)
        (record { verdict_is = c.verdict-verdict.ensures.is state known there.context_is; offset_is = refl; bytes_are = refl; stable_is = c.is_to_be_stable.ensures }) keeps))));
    answered =
        let request = in_progress_of c.args.self.now in
        let arguments = write_view c.args.arguments.now in
        record {
          fits = c.written.ensures.fits;
          small = c.written.ensures.small;
          room = subst (HasRoom request) (sym c.written.ensures.is)
              (is_short request (written_answer request.context.run arguments.stable c.in-Ok-write.count)
              (written_room request request.context.run arguments.stable c.in-Ok-write.count true (sym c.in-Ok-write.ensures.room.done ∙ c.has_written_room-has_room.ensures)));
        };
    table = refl;
    opens = tt;
    volume =
        let table = table_of c.args.engine.now.table.now in
        let opens = opens_of c.args.engine.now.opens.now in
        let fs = fs_of c.args.engine.now.fs.now in
        let request = in_progress_of c.args.self.now in
        let arguments = write_view c.args.arguments.now in
        changes_by g.D.Device.keeps_word _ _
        (write_makes c.args.engine.now.moment fs request arguments table opens _ _ _ c.requires.run c.in-Ok.ensures.ok.0 c.in-Ok.ensures.ok.1
        (λ state there known. record { verdict_is = c.verdict-verdict.ensures.is state known there.context_is; offset_is = refl; bytes_are = refl; stable_is = c.is_to_be_stable.ensures })
        _ c.has_written_room-has_room.ensures c.in-Ok-write.ensures.room.done)
        _ _ _ _ _ c.in-Ok-write.ensures.volume;
  };
}

-- If it is not

pub tell_fault-requires : goal.tell_fault-requires
unfolding in_progress_of
tell_fault-requires g c =
    let opens = opens_of c.args.engine.now.opens.now in
    let fs = fs_of c.args.engine.now.fs.now in
    let request = in_progress_of c.args.self.now in
    let arguments = write_view c.args.arguments.now in
    write_up c.args.engine.now.moment fs request arguments opens c.in-Err-write.fault c.requires.up
    (λ state there known. c.in-Err-write.ensures.step state arguments (is_on fs request _ state c.requires.run c.in-Ok.ensures.ok.0 c.in-Ok.ensures.ok.1 there)
    (record { verdict_is = c.verdict-verdict.ensures.is state known there.context_is; offset_is = refl; bytes_are = refl; stable_is = c.is_to_be_stable.ensures }))

pub returns-in-Err-write : goal.returns-in-Err-write
unfolding in_progress_of
returns-in-Err-write g c = record {
  same = record { fs = refl; table = refl; opens = refl };
  state = record {
    gives = λ keeps.
        let opens = opens_of c.args.engine.now.opens.now in
        let fs = fs_of c.args.engine.now.fs.now in
        let new = fs_of c.write.new.self in
        let request = in_progress_of c.args.self.now in
        let arguments = write_view c.args.arguments.now in
        let kind = Argument.Write arguments in
        changed_if c.args.engine.now.moment fs new (table_of c.args.engine.now.table.now) opens opens request kind c.tell_fault.result
        (subst (λ (r : Result Executed Fault). IfOk r (ChangesTreeAndOpens fs new opens opens c.args.engine.now.moment request kind)) (sym c.tell_fault.ensures)
        (told_gives c.args.engine.now.moment fs request kind (write_on_tree c.args.engine.now.moment fs request arguments) _ (write_sized c.args.engine.now.moment fs request arguments _ c.has_written_room-has_room.ensures)
        g.D.Device.keeps_word _ new _ _ c.requires.up _ opens opens c.in-Err-write.fault refl
        (λ state there known. c.in-Err-write.ensures.step state arguments (is_on fs request _ state c.requires.run c.in-Ok.ensures.ok.0 c.in-Ok.ensures.ok.1 there)
        (record { verdict_is = c.verdict-verdict.ensures.is state known there.context_is; offset_is = refl; bytes_are = refl; stable_is = c.is_to_be_stable.ensures }))
        c.in-Err-write.ensures.room.refused c.in-Err-write.ensures.volume));
    answered =
        let opens = opens_of c.args.engine.now.opens.now in
        let fs = fs_of c.args.engine.now.fs.now in
        let request = in_progress_of c.args.self.now in
        let arguments = write_view c.args.arguments.now in
        subst (λ (r : Result Executed Fault). IfOk r (HasResult request)) (sym c.tell_fault.ensures)
        (fault_is_encoded request 38 c.in-Err-write.fault (omega arith) (write_up c.args.engine.now.moment fs request arguments opens c.in-Err-write.fault c.requires.up
        (λ state there known. c.in-Err-write.ensures.step state arguments (is_on fs request _ state c.requires.run c.in-Ok.ensures.ok.0 c.in-Ok.ensures.ok.1 there)
        (record { verdict_is = c.verdict-verdict.ensures.is state known there.context_is; offset_is = refl; bytes_are = refl; stable_is = c.is_to_be_stable.ensures }))));
    table = refl;
    opens = on_err _ refl;
    volume =
        let table = table_of c.args.engine.now.table.now in
        let opens = opens_of c.args.engine.now.opens.now in
        let fs = fs_of c.args.engine.now.fs.now in
        let new = fs_of c.write.new.self in
        let request = in_progress_of c.args.self.now in
        let arguments = write_view c.args.arguments.now in
        let kind = Argument.Write arguments in
        let writing = λ (state : State) (there : IsHere fs request state) (known : state.opens ≡ opens). let is : IsWriting state _ _ arguments = record { verdict_is = c.verdict-verdict.ensures.is state known there.context_is; offset_is = refl; bytes_are = refl; stable_is = c.is_to_be_stable.ensures } in is in
        let step = λ (state : State) (there : IsHere fs request state) (known : state.opens ≡ opens). c.in-Err-write.ensures.step state arguments (is_on fs request _ state c.requires.run c.in-Ok.ensures.ok.0 c.in-Ok.ensures.ok.1 there) (writing state there known) in
        subst (λ (r : Result Executed Fault). FsChanges g.D.Device.keeps_word (OperationGives (shared fs table opens) request c.args.engine.now.moment kind) fs new (fs_failures c.args.engine.now.fs.now) (fs_failures c.write.new.self) (ending r))
        (sym c.tell_fault.ensures)
        (told_changes c.args.engine.now.moment fs request kind (write_on_tree c.args.engine.now.moment fs request arguments) _ (write_sized c.args.engine.now.moment fs request arguments _ c.has_written_room-has_room.ensures)
        g.D.Device.keeps_word _ new _ _ c.requires.up _ table opens c.in-Err-write.fault
        step
        (write_up c.args.engine.now.moment fs request arguments opens c.in-Err-write.fault c.requires.up step) c.in-Err-write.ensures.room.refused c.in-Err-write.ensures.room.device
        (write_makes c.args.engine.now.moment fs request arguments table opens _ _ _ c.requires.run c.in-Ok.ensures.ok.0 c.in-Ok.ensures.ok.1 writing _ c.has_written_room-has_room.ensures)
        c.in-Err-write.ensures.volume);
  };
}
