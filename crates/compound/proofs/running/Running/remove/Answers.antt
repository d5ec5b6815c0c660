use Rattle.std.proofs.Common.{true, Result, refl, sym, subst, ◌∙◌, arith, IfOk}
use Rattle.fs.specs.Views.{fs_of, fs_failures}
use Rattle.fs.proofs.ChangeLaws.{changes_by}
use Rattle.model.specs.Operations.Answer.{Outcome, Refused}
use Rattle.model.specs.Sessions.Opens.{Opens}
use Rattle.model.specs.Operations.Operation.{Argument}
use Rattle.model.specs.Sessions.StateIds.{without_number}
use Rattle.wire.specs.OutcomeView.{outcome_view}
use Rattle.model_tree.specs.declared.status.Status.{Status}
use Rattle.opens.specs.Views.{opens_of}
use Rattle.compound.specs.Operates.{GivesIn, HasRoom, ChangesTreeAndOpens, HasResult}
use Rattle.compound.specs.States.{shared}
use Rattle.compound.specs.Volumes.{OperationGives, ending}
use Rattle.compound.specs.Views.{in_progress_of}
use Rattle.compound.specs.declared.fault.Fault.{Fault}
use Rattle.compound.specs.declared.executed.Executed.{Executed}
use Rattle.fs.specs.Changes.{FsChanges}
use Rattle.compound.proofs.Changing.{done_runs, told_gives, told_changes, fault_is_encoded, is_short}
use Rattle.compound.proofs.Rooms.{gives_in_room, gives_refusal}
use Rattle.compound.specs.Trees.{removed_answer}
use Rattle.compound.proofs.RemoveLaws.{on_tree, sized, does_remove, removed_room, remove_makes, remove_up}
use Rattle.compound.proofs.Trees.{is_on, wants}
use Rattle.compound.proofs.VolumeLaws.{refusal_changes}
use Rattle.session.specs.Views.{table_of}
use Rattle.compound.proofs.Outcomes.{changed_if, on_err}
use Rattle.compound.proofs.running.Running.remove.Goals as goal

pub returns-in-Err : goal.returns-in-Err
returns-in-Err g c = record {
  same = record { fs = refl; table = refl; opens = refl };
  state = record {
    gives = λ keeps.
        let table = table_of c.args.engine.now.table.now in
        let opens = opens_of c.args.engine.now.opens.now in
        let fs = fs_of c.args.engine.now.fs.now in
        let request = in_progress_of c.args.self.now in
        let kind = Argument.Remove c.args.name.now in
        c.refuse.ensures.gives c.args.engine.now.moment (shared fs table opens) (shared fs table opens) kind
        (subst (λ (reason : Status). GivesIn c.args.engine.now.moment (shared fs table opens) (shared fs table opens) request request kind (Refused 28 reason)) (sym c.in-Err.ensures.err.0)
        (gives_refusal c.args.engine.now.moment (shared fs table opens) (shared fs table opens) request kind 28 _ (wants c.args.engine.now.moment fs table opens request kind refl c.in-Err.ensures.err.1)));
    answered = c.refuse.ensures.answered;
    table = refl;
    opens = tt;
    volume =
        let table = table_of c.args.engine.now.table.now in
        let opens = opens_of c.args.engine.now.opens.now in
        let fs = fs_of c.args.engine.now.fs.now in
        let request = in_progress_of c.args.self.now in
        let kind = Argument.Remove c.args.name.now in
        refusal_changes g.D.Device.keeps_word fs fs table opens (fs_failures c.args.engine.now.fs.now) (fs_failures c.args.engine.now.fs.now) request c.args.engine.now.moment kind 28 c.in-Err.status refl refl c.requires.up
        (subst (λ (reason : Status). GivesIn c.args.engine.now.moment (shared fs table opens) (shared fs table opens) request request kind (Refused 28 reason)) (sym c.in-Err.ensures.err.0)
        (gives_refusal c.args.engine.now.moment (shared fs table opens) (shared fs table opens) request kind 28 _ (wants c.args.engine.now.moment fs table opens request kind refl c.in-Err.ensures.err.1)));
  };
}

-- If it is done

pub returns-in-Ok-remove : goal.returns-in-Ok-remove
unfolding in_progress_of
returns-in-Ok-remove g c = record {
  same = record { fs = refl; table = refl; opens = refl };
  state = record {
    gives = λ keeps.
        let table = table_of c.args.engine.now.table.now in
        let opens = opens_of c.args.engine.now.opens.now in
        let fs = fs_of c.args.engine.now.fs.now in
        let new = fs_of c.remove.new.self in
        let request = in_progress_of c.args.self.now in
        let name = c.args.name.now in
        let made = c.in-Ok-remove.gone in
        let left = without_number made.number opens in
        subst (λ (after : Opens). GivesIn c.args.engine.now.moment (shared fs table opens) (shared new table after) request request (Argument.Remove name) (outcome_view c.removed.result)) (sym c.remove_file.ensures)
        (subst (λ (outcome : Outcome). GivesIn c.args.engine.now.moment (shared fs table opens) (shared new table left) request request (Argument.Remove name) outcome) (sym c.removed.ensures.is)
        (gives_in_room c.args.engine.now.moment (shared fs table opens) (shared new table left) request request (Argument.Remove name) (removed_answer made.before made.after)
        (removed_room request 0 0 made.before made.after true (sym c.in-Ok-remove.ensures.room.done ∙ c.has_removed_room-has_room.ensures))
        (done_runs c.args.engine.now.moment fs request (Argument.Remove name) (on_tree c.args.engine.now.moment fs request name) new table opens left request.context (removed_answer made.before made.after)
        (λ state there known. does_remove c.args.engine.now.moment fs request name new made opens state there known
        (c.in-Ok-remove.ensures.step state (is_on fs request _ _ c.requires.run c.in-Ok.ensures.ok.0 c.in-Ok.ensures.ok.1 there) keeps)))));
    answered =
        let request = in_progress_of c.args.self.now in
        let made = c.in-Ok-remove.gone in
        record {
          fits = c.removed.ensures.fits;
          small = c.removed.ensures.small;
          room = subst (HasRoom request) (sym c.removed.ensures.is)
              (is_short request (removed_answer made.before made.after)
              (removed_room request 0 0 made.before made.after true (sym c.in-Ok-remove.ensures.room.done ∙ c.has_removed_room-has_room.ensures)));
        };
    table = refl;
    opens = tt;
    volume =
        let table = table_of c.args.engine.now.table.now in
        let opens = opens_of c.args.engine.now.opens.now in
        let fs = fs_of c.args.engine.now.fs.now in
        let request = in_progress_of c.args.self.now in
        changes_by g.D.Device.keeps_word _ _
        (remove_makes c.args.engine.now.moment fs request c.args.name.now table opens _ c.requires.run c.in-Ok.ensures.ok.0 c.in-Ok.ensures.ok.1 _ c.has_removed_room-has_room.ensures c.in-Ok-remove.ensures.room.done)
        _ _ _ _ _ c.in-Ok-remove.ensures.volume;
  };
}

-- If it is not

pub tell_fault-requires : goal.tell_fault-requires
unfolding in_progress_of
tell_fault-requires g c =
    let fs = fs_of c.args.engine.now.fs.now in
    let request = in_progress_of c.args.self.now in
    remove_up c.args.engine.now.moment fs request c.args.name.now _ c.in-Err-remove.fault c.requires.up c.requires.run c.in-Ok.ensures.ok.0 c.in-Ok.ensures.ok.1 c.in-Err-remove.ensures.step

pub returns-in-Err-remove : goal.returns-in-Err-remove
unfolding in_progress_of
returns-in-Err-remove g c = record {
  same = record { fs = refl; table = refl; opens = refl };
  state = record {
    gives = λ keeps.
        let fs = fs_of c.args.engine.now.fs.now in
        let new = fs_of c.remove.new.self in
        let request = in_progress_of c.args.self.now in
        let name = c.args.name.now in
        changed_if c.args.engine.now.moment fs new (table_of c.args.engine.now.table.now) (opens_of c.args.engine.now.opens.now) (opens_of c.args.engine.now.opens.now) request (Argument.Remove name) c.tell_fault.result
        (subst (λ (r : Result Executed Fault). IfOk r (ChangesTreeAndOpens fs new (opens_of c.args.engine.now.opens.now) (opens_of c.args.engine.now.opens.now) c.args.engine.now.moment request (Argument.Remove name))) (sym c.tell_fault.ensures)
        (told_gives c.args.engine.now.moment fs request (Argument.Remove name) (on_tree c.args.engine.now.moment fs request name) _ (sized c.args.engine.now.moment fs request name _ c.has_removed_room-has_room.ensures)
        g.D.Device.keeps_word _ new _ _ c.requires.up _ (opens_of c.args.engine.now.opens.now) (opens_of c.args.engine.now.opens.now) c.in-Err-remove.fault refl
        (λ state there known. c.in-Err-remove.ensures.step state (is_on fs request _ _ c.requires.run c.in-Ok.ensures.ok.0 c.in-Ok.ensures.ok.1 there))
        c.in-Err-remove.ensures.room.refused c.in-Err-remove.ensures.volume));
    answered =
        let fs = fs_of c.args.engine.now.fs.now in
        let request = in_progress_of c.args.self.now in
        subst (λ (r : Result Executed Fault). IfOk r (HasResult request)) (sym c.tell_fault.ensures)
        (fault_is_encoded request 28 c.in-Err-remove.fault (omega arith) (remove_up c.args.engine.now.moment fs request c.args.name.now _ c.in-Err-remove.fault c.requires.up c.requires.run c.in-Ok.ensures.ok.0 c.in-Ok.ensures.ok.1 c.in-Err-remove.ensures.step));
    table = refl;
    opens = on_err _ refl;
    volume =
        let table = table_of c.args.engine.now.table.now in
        let opens = opens_of c.args.engine.now.opens.now in
        let fs = fs_of c.args.engine.now.fs.now in
        let new = fs_of c.remove.new.self in
        let request = in_progress_of c.args.self.now in
        let name = c.args.name.now in
        subst (λ (r : Result Executed Fault). FsChanges g.D.Device.keeps_word (OperationGives (shared fs table opens) request c.args.engine.now.moment (Argument.Remove name)) fs new (fs_failures c.args.engine.now.fs.now) (fs_failures c.remove.new.self) (ending r))
        (sym c.tell_fault.ensures)
        (told_changes c.args.engine.now.moment fs request (Argument.Remove name) (on_tree c.args.engine.now.moment fs request name) _ (sized c.args.engine.now.moment fs request name _ c.has_removed_room-has_room.ensures)
        g.D.Device.keeps_word _ new _ _ c.requires.up _ table opens c.in-Err-remove.fault
        (λ state there known. c.in-Err-remove.ensures.step state (is_on fs request _ _ c.requires.run c.in-Ok.ensures.ok.0 c.in-Ok.ensures.ok.1 there))
        (remove_up c.args.engine.now.moment fs request c.args.name.now _ c.in-Err-remove.fault c.requires.up c.requires.run c.in-Ok.ensures.ok.0 c.in-Ok.ensures.ok.1 c.in-Err-remove.ensures.step) c.in-Err-remove.ensures.room.refused c.in-Err-remove.ensures.room.device
        (remove_makes c.args.engine.now.moment fs request name table opens _ c.requires.run c.in-Ok.ensures.ok.0 c.in-Ok.ensures.ok.1 _ c.has_removed_room-has_room.ensures)
        c.in-Err-remove.ensures.volume);
  };
}
