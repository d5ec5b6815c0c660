use Rattle.std.proofs.Common.{true, Result, refl, sym, subst, ◌∙◌, arith, IfOk}
use Rattle.fs.specs.Views.{fs_of, fs_failures}
use Rattle.fs.proofs.ChangeLaws.{changes_by}
use Rattle.model.specs.Operations.Answer.{Outcome}
use Rattle.model.specs.Operations.Operation.{Argument}
use Rattle.opens.specs.Views.{opens_of}
use Rattle.compound.specs.Operates.{GivesIn, HasRoom, ChangesTreeAndOpens, HasResult}
use Rattle.compound.specs.States.{shared}
use Rattle.compound.specs.Volumes.{OperationGives, ending}
use Rattle.compound.specs.Views.{in_progress_of}
use Rattle.compound.specs.declared.fault.Fault.{Fault}
use Rattle.compound.specs.declared.executed.Executed.{Executed}
use Rattle.fs.specs.Changes.{FsChanges}
use Rattle.compound.proofs.Changing.{done_runs, told_gives, told_changes, fault_is_encoded, is_short, refused_gives}
use Rattle.compound.proofs.Rooms.{gives_in_room}
use Rattle.wire.specs.ArgumentViews.{rename_view}
use Rattle.compound.specs.Trees.{no_change, renamed_answer}
use Rattle.fs.specs.Renaming.{is_itself, opens_after}
use Rattle.model.specs.Sessions.Opens.{Opens}
use Rattle.wire.specs.OutcomeView.{outcome_view}
use Rattle.compound.proofs.RenameLaws.{same_name, on_tree, sized, does_rename, renamed_room, rename_makes, rename_up, is_on_both}
use Rattle.compound.proofs.VolumeLaws.{refusal_changes}
use Rattle.session.specs.Views.{table_of}
use Rattle.compound.proofs.Outcomes.{changed_if, on_err}
use Rattle.compound.proofs.running.Running.rename.Goals as goal

pub returns-in-Err : goal.returns-in-Err
returns-in-Err g c = record {
  same = record { fs = refl; table = refl; opens = refl };
  state = record {
    gives = λ keeps.
        let table = table_of c.args.engine.now.table.now in
        let opens = opens_of c.args.engine.now.opens.now in
        let fs = fs_of c.args.engine.now.fs.now in
        let request = in_progress_of c.args.self.now in
        let arguments = rename_view c.args.arguments.now in
        c.refuse.ensures.gives c.args.engine.now.moment (shared fs table opens) (shared fs table opens) (Argument.Rename arguments)
        (refused_gives c.args.engine.now.moment fs request (Argument.Rename arguments) (on_tree c.args.engine.now.moment fs request arguments) table opens c.in-Err.status
        (λ state there known. c.in-Err.ensures.err state c.args.engine.now.moment arguments there));
    answered = c.refuse.ensures.answered;
    table = refl;
    opens = tt;
    volume =
        let table = table_of c.args.engine.now.table.now in
        let opens = opens_of c.args.engine.now.opens.now in
        let fs = fs_of c.args.engine.now.fs.now in
        let request = in_progress_of c.args.self.now in
        let arguments = rename_view c.args.arguments.now in
        refusal_changes g.D.Device.keeps_word fs fs table opens (fs_failures c.args.engine.now.fs.now) (fs_failures c.args.engine.now.fs.now) request c.args.engine.now.moment (Argument.Rename arguments) 29 c.in-Err.status refl refl c.requires.up
        (refused_gives c.args.engine.now.moment fs request (Argument.Rename arguments) (on_tree c.args.engine.now.moment fs request arguments) table opens c.in-Err.status
        (λ state there known. c.in-Err.ensures.err state c.args.engine.now.moment arguments there));
  };
}

-- If it is done

pub returns-in-Ok-rename : goal.returns-in-Ok-rename
unfolding in_progress_of
returns-in-Ok-rename g c = record {
  same = record { fs = refl; table = refl; opens = refl };
  state = record {
    gives = λ keeps.
        let table = table_of c.args.engine.now.table.now in
        let opens = opens_of c.args.engine.now.opens.now in
        let fs = fs_of c.args.engine.now.fs.now in
        let new = fs_of c.rename.new.self in
        let request = in_progress_of c.args.self.now in
        let arguments = rename_view c.args.arguments.now in
        let made = c.in-Ok-rename.made in
        let same = is_itself c.in-Ok.numbers.0 c.in-Ok.numbers.1 arguments in
        let left = opens_after same made.replaced opens in
        subst (λ (after : Opens). GivesIn c.args.engine.now.moment (shared fs table opens) (shared new table after) request request (Argument.Rename arguments) (outcome_view c.renamed.result)) (sym c.end_replaced.ensures)
        (subst (λ (outcome : Outcome). GivesIn c.args.engine.now.moment (shared fs table opens) (shared new table left) request request (Argument.Rename arguments) outcome) (sym c.renamed.ensures.is)
        (gives_in_room c.args.engine.now.moment (shared fs table opens) (shared new table left) request request (Argument.Rename arguments) (renamed_answer made.source made.target)
        (renamed_room request no_change no_change made.source made.target true (sym c.in-Ok-rename.ensures.room.done ∙ c.has_renamed_room-has_room.ensures))
        (done_runs c.args.engine.now.moment fs request (Argument.Rename arguments) (on_tree c.args.engine.now.moment fs request arguments) new table opens left request.context (renamed_answer made.source made.target)
        (λ state there known. does_rename c.args.engine.now.moment fs request arguments new made opens same state there known (same_name c.args.engine.now.moment fs request arguments c.in-Ok.numbers c.in-Ok.ensures.ok state there)
        (c.in-Ok-rename.ensures.step state (is_on_both c.args.engine.now.moment fs request arguments c.in-Ok.numbers c.requires.run c.in-Ok.ensures.ok state there) keeps)))));
    answered =
        let request = in_progress_of c.args.self.now in
        let made = c.in-Ok-rename.made in
        record {
          fits = c.renamed.ensures.fits;
          small = c.renamed.ensures.small;
          room = subst (HasRoom request) (sym c.renamed.ensures.is)
              (is_short request (renamed_answer made.source made.target)
              (renamed_room request no_change no_change made.source made.target true (sym c.in-Ok-rename.ensures.room.done ∙ c.has_renamed_room-has_room.ensures)));
        };
    table = refl;
    opens = tt;
    volume =
        let table = table_of c.args.engine.now.table.now in
        let opens = opens_of c.args.engine.now.opens.now in
        let fs = fs_of c.args.engine.now.fs.now in
        let request = in_progress_of c.args.self.now in
        changes_by g.D.Device.keeps_word _ _
        (rename_makes c.args.engine.now.moment fs request (rename_view c.args.arguments.now) table opens c.in-Ok.numbers c.requires.run c.in-Ok.ensures.ok _ c.has_renamed_room-has_room.ensures c.in-Ok-rename.ensures.room.done)
        _ _ _ _ _ c.in-Ok-rename.ensures.volume;
  };
}

-- If it is not

pub tell_fault-requires : goal.tell_fault-requires
unfolding in_progress_of
tell_fault-requires g c =
    let fs = fs_of c.args.engine.now.fs.now in
    let request = in_progress_of c.args.self.now in
    rename_up c.args.engine.now.moment fs request (rename_view c.args.arguments.now) c.in-Ok.numbers c.in-Err-rename.fault c.requires.up c.requires.run c.in-Ok.ensures.ok c.in-Err-rename.ensures.step

pub returns-in-Err-rename : goal.returns-in-Err-rename
unfolding in_progress_of
returns-in-Err-rename g c = record {
  same = record { fs = refl; table = refl; opens = refl };
  state = record {
    gives = λ keeps.
        let fs = fs_of c.args.engine.now.fs.now in
        let new = fs_of c.rename.new.self in
        let request = in_progress_of c.args.self.now in
        let arguments = rename_view c.args.arguments.now in
        changed_if c.args.engine.now.moment fs new (table_of c.args.engine.now.table.now) (opens_of c.args.engine.now.opens.now) (opens_of c.args.engine.now.opens.now) request (Argument.Rename arguments) c.tell_fault.result
        (subst (λ (r : Result Executed Fault). IfOk r (ChangesTreeAndOpens fs new (opens_of c.args.engine.now.opens.now) (opens_of c.args.engine.now.opens.now) c.args.engine.now.moment request (Argument.Rename arguments))) (sym c.tell_fault.ensures)
        (told_gives c.args.engine.now.moment fs request (Argument.Rename arguments) (on_tree c.args.engine.now.moment fs request arguments) _ (sized c.args.engine.now.moment fs request arguments _ c.has_renamed_room-has_room.ensures)
        g.D.Device.keeps_word _ new _ _ c.requires.up _ (opens_of c.args.engine.now.opens.now) (opens_of c.args.engine.now.opens.now) c.in-Err-rename.fault refl
        (λ state there known. c.in-Err-rename.ensures.step state (is_on_both c.args.engine.now.moment fs request arguments c.in-Ok.numbers c.requires.run c.in-Ok.ensures.ok state there))
        c.in-Err-rename.ensures.room.refused c.in-Err-rename.ensures.volume));
    answered =
        let fs = fs_of c.args.engine.now.fs.now in
        let request = in_progress_of c.args.self.now in
        subst (λ (r : Result Executed Fault). IfOk r (HasResult request)) (sym c.tell_fault.ensures)
        (fault_is_encoded request 29 c.in-Err-rename.fault (omega arith) (rename_up c.args.engine.now.moment fs request (rename_view c.args.arguments.now) c.in-Ok.numbers c.in-Err-rename.fault c.requires.up c.requires.run c.in-Ok.ensures.ok c.in-Err-rename.ensures.step));
    table = refl;
    opens = on_err _ refl;
    volume =
        let table = table_of c.args.engine.now.table.now in
        let opens = opens_of c.args.engine.now.opens.now in
        let fs = fs_of c.args.engine.now.fs.now in
        let new = fs_of c.rename.new.self in
        let request = in_progress_of c.args.self.now in
        let arguments = rename_view c.args.arguments.now in
        subst (λ (r : Result Executed Fault). FsChanges g.D.Device.keeps_word (OperationGives (shared fs table opens) request c.args.engine.now.moment (Argument.Rename arguments)) fs new (fs_failures c.args.engine.now.fs.now) (fs_failures c.rename.new.self) (ending r))
        (sym c.tell_fault.ensures)
        (told_changes c.args.engine.now.moment fs request (Argument.Rename arguments) (on_tree c.args.engine.now.moment fs request arguments) _ (sized c.args.engine.now.moment fs request arguments _ c.has_renamed_room-has_room.ensures)
        g.D.Device.keeps_word _ new _ _ c.requires.up _ table opens c.in-Err-rename.fault
        (λ state there known. c.in-Err-rename.ensures.step state (is_on_both c.args.engine.now.moment fs request arguments c.in-Ok.numbers c.requires.run c.in-Ok.ensures.ok state there))
        (rename_up c.args.engine.now.moment fs request (rename_view c.args.arguments.now) c.in-Ok.numbers c.in-Err-rename.fault c.requires.up c.requires.run c.in-Ok.ensures.ok c.in-Err-rename.ensures.step) c.in-Err-rename.ensures.room.refused c.in-Err-rename.ensures.room.device
        (rename_makes c.args.engine.now.moment fs request arguments table opens c.in-Ok.numbers c.requires.run c.in-Ok.ensures.ok _ c.has_renamed_room-has_room.ensures)
        c.in-Err-rename.ensures.volume);
  };
}
