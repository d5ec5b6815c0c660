use Rattle.std.proofs.Common.{◌≡◌, true, Result, refl, sym, subst, ◌∙◌, arith, IfOk}
use Rattle.fs.proofs.ChangeLaws.{changes_by}
use Rattle.fs.specs.Changes.{FsChanges}
use Rattle.fs.specs.Views.{fs_of, fs_failures}
use Rattle.model.specs.Operations.Answer.{Outcome, Refused}
use Rattle.model.specs.Operations.Operation.{Argument, CommitArguments}
use Rattle.model.specs.Sessions.Opens.{no_opens}
use Rattle.model.specs.Operations.Step.{State}
use Rattle.model_tree.specs.declared.status.Status.{Status}
use Rattle.compound.specs.Files.{committed_answer}
use Rattle.compound.specs.Operates.{GivesIn, HasRoom, ChangesTreeAndOpens, HasResult}
use Rattle.compound.specs.States.{shared}
use Rattle.compound.specs.Trees.{IsHere}
use Rattle.compound.specs.Volumes.{OperationGives, ending}
use Rattle.compound.specs.Views.{in_progress_of}
use Rattle.compound.specs.declared.fault.Fault.{Fault}
use Rattle.compound.specs.declared.executed.Executed.{Executed}
use Rattle.compound.proofs.Changing.{done_runs, told_gives, told_changes, fault_is_encoded, is_short}
use Rattle.compound.proofs.Rooms.{gives_in_room, gives_refusal}
use Rattle.compound.proofs.Trees.{is_on, wants}
use Rattle.compound.proofs.VolumeLaws.{refusal_changes}
use Rattle.compound.proofs.WriteLaws.{commit_not_done, commit_on_tree, commit_sized, does_commit, commit_makes, commit_up, committed_room}
use Rattle.session.specs.Views.{table_of}
use Rattle.opens.specs.Views.{opens_of}
use Rattle.compound.proofs.Outcomes.{changed_if, on_err}
use Rattle.compound.proofs.running.Running.commit.Goals as goal

pub returns-in-Err : goal.returns-in-Err
returns-in-Err g c = λ arguments. record {
  same = record { fs = refl; table = refl; opens = refl };
  state = record {
    gives = λ keeps.
        let now = c.args.engine.now.moment in
        let opens = opens_of c.args.engine.now.opens.now in
        let table = table_of c.args.engine.now.table.now in
        let fs = fs_of c.args.engine.now.fs.now in
        let request = in_progress_of c.args.self.now in
        let kind = Argument.Commit arguments in
        c.refuse.ensures.gives now (shared fs table opens) (shared fs table opens) kind
        (subst (λ (reason : Status). GivesIn now (shared fs table opens) (shared fs table opens) request request kind (Refused 5 reason)) (sym c.in-Err.ensures.err.0)
        (gives_refusal now (shared fs table opens) (shared fs table opens) request kind 5 _ (wants now fs table opens request kind refl c.in-Err.ensures.err.1)));
    answered = c.refuse.ensures.answered;
    table = refl;
    opens = tt;
    volume =
        let now = c.args.engine.now.moment in
        let table = table_of c.args.engine.now.table.now in
        let opens = opens_of c.args.engine.now.opens.now in
        let fs = fs_of c.args.engine.now.fs.now in
        let request = in_progress_of c.args.self.now in
        let kind = Argument.Commit arguments in
        refusal_changes g.D.Device.keeps_word fs fs table opens (fs_failures c.args.engine.now.fs.now) (fs_failures c.args.engine.now.fs.now) request now kind 5 c.in-Err.status refl refl c.requires.up
        (subst (λ (reason : Status). GivesIn now (shared fs table opens) (shared fs table opens) request request kind (Refused 5 reason)) (sym c.in-Err.ensures.err.0)
        (gives_refusal now (shared fs table opens) (shared fs table opens) request kind 5 _ (wants now fs table opens request kind refl c.in-Err.ensures.err.1)));
  };
}

-- If it is done

pub returns-in-Ok-commit : goal.returns-in-Ok-commit
unfolding in_progress_of
returns-in-Ok-commit g c = λ arguments. record {
  same = record { fs = refl; table = refl; opens = refl };
  state = record {
    gives = λ keeps.
        let now = c.args.engine.now.moment in
        let opens = opens_of c.args.engine.now.opens.now in
        let table = table_of c.args.engine.now.table.now in
        let fs = fs_of c.args.engine.now.fs.now in
        let new = fs_of c.commit.new.self in
        let request = in_progress_of c.args.self.now in
        let kind = Argument.Commit arguments in
        subst (λ (outcome : Outcome). GivesIn now (shared fs table opens) (shared new table opens) request request kind outcome) (sym c.committed.ensures.is)
        (gives_in_room now (shared fs table opens) (shared new table opens) request request kind (committed_answer request.context.run)
        (committed_room request request.context.run true (sym c.in-Ok-commit.ensures.room.done ∙ c.has_committed_room-has_room.ensures))
        (done_runs now fs request kind (commit_on_tree now fs request arguments) new table opens opens request.context (committed_answer request.context.run)
        (λ state there known. does_commit now fs request arguments new opens state there known
        (c.in-Ok-commit.ensures.step state now arguments (is_on fs request _ state c.requires.run c.in-Ok.ensures.ok.0 c.in-Ok.ensures.ok.1 there) keeps))));
    answered =
        let request = in_progress_of c.args.self.now in
        record {
          fits = c.committed.ensures.fits;
          small = c.committed.ensures.small;
          room = subst (HasRoom request) (sym c.committed.ensures.is)
              (is_short request (committed_answer request.context.run)
              (committed_room request request.context.run true (sym c.in-Ok-commit.ensures.room.done ∙ c.has_committed_room-has_room.ensures)));
        };
    table = refl;
    opens = tt;
    volume =
        let now = c.args.engine.now.moment in
        let table = table_of c.args.engine.now.table.now in
        let opens = opens_of c.args.engine.now.opens.now in
        let fs = fs_of c.args.engine.now.fs.now in
        let request = in_progress_of c.args.self.now in
        changes_by g.D.Device.keeps_word _ _
        (commit_makes now fs request arguments table opens _ c.has_committed_room-has_room.ensures c.in-Ok-commit.ensures.room.done)
        _ _ _ _ _ c.in-Ok-commit.ensures.volume;
  };
}

-- If it is not

pub tell_fault-requires : goal.tell_fault-requires
unfolding in_progress_of
tell_fault-requires g c =
    let fs = fs_of c.args.engine.now.fs.now in
    let request = in_progress_of c.args.self.now in
    let none : CommitArguments = record { offset = 0; count = 0 } in
    commit_up 0 fs request none no_opens c.in-Err-commit.fault c.requires.up
    (λ state there known. commit_not_done g.D.Device.keeps_word fs (fs_of c.commit.new.self) state 0 none c.in-Err-commit.fault (c.in-Err-commit.ensures.step state 0 none (is_on fs request _ state c.requires.run c.in-Ok.ensures.ok.0 c.in-Ok.ensures.ok.1 there)))

pub returns-in-Err-commit : goal.returns-in-Err-commit
unfolding in_progress_of
returns-in-Err-commit g c = λ arguments. record {
  same = record { fs = refl; table = refl; opens = refl };
  state = record {
    gives = λ keeps.
        let now = c.args.engine.now.moment in
        let opens = opens_of c.args.engine.now.opens.now in
        let fs = fs_of c.args.engine.now.fs.now in
        let new = fs_of c.commit.new.self in
        let request = in_progress_of c.args.self.now in
        let kind = Argument.Commit arguments in
        changed_if now fs new (table_of c.args.engine.now.table.now) opens opens request kind c.tell_fault.result
        (subst (λ (r : Result Executed Fault). IfOk r (ChangesTreeAndOpens fs new opens opens now request kind)) (sym c.tell_fault.ensures)
        (told_gives now fs request kind (commit_on_tree now fs request arguments) _ (commit_sized now fs request arguments _ c.has_committed_room-has_room.ensures)
        g.D.Device.keeps_word _ new _ _ c.requires.up _ opens opens c.in-Err-commit.fault refl
        (λ state there known. commit_not_done g.D.Device.keeps_word fs (fs_of c.commit.new.self) state now arguments c.in-Err-commit.fault (c.in-Err-commit.ensures.step state now arguments (is_on fs request _ state c.requires.run c.in-Ok.ensures.ok.0 c.in-Ok.ensures.ok.1 there)))
        c.in-Err-commit.ensures.room.refused c.in-Err-commit.ensures.volume));
    answered =
        let fs = fs_of c.args.engine.now.fs.now in
        let request = in_progress_of c.args.self.now in
        let none : CommitArguments = record { offset = 0; count = 0 } in
        subst (λ (r : Result Executed Fault). IfOk r (HasResult request)) (sym c.tell_fault.ensures)
        (fault_is_encoded request 5 c.in-Err-commit.fault (omega arith) (commit_up 0 fs request none no_opens c.in-Err-commit.fault c.requires.up
        (λ state there known. commit_not_done g.D.Device.keeps_word fs (fs_of c.commit.new.self) state 0 none c.in-Err-commit.fault (c.in-Err-commit.ensures.step state 0 none (is_on fs request _ state c.requires.run c.in-Ok.ensures.ok.0 c.in-Ok.ensures.ok.1 there)))));
    table = refl;
    opens = on_err _ refl;
    volume =
        let now = c.args.engine.now.moment in
        let table = table_of c.args.engine.now.table.now in
        let opens = opens_of c.args.engine.now.opens.now in
        let fs = fs_of c.args.engine.now.fs.now in
        let new = fs_of c.commit.new.self in
        let request = in_progress_of c.args.self.now in
        let kind = Argument.Commit arguments in
        let step = λ (state : State) (there : IsHere fs request state) (known : state.opens ≡ opens). commit_not_done g.D.Device.keeps_word fs (fs_of c.commit.new.self) state now arguments c.in-Err-commit.fault (c.in-Err-commit.ensures.step state now arguments (is_on fs request _ state c.requires.run c.in-Ok.ensures.ok.0 c.in-Ok.ensures.ok.1 there)) in
        subst (λ (r : Result Executed Fault). FsChanges g.D.Device.keeps_word (OperationGives (shared fs table opens) request now kind) fs new (fs_failures c.args.engine.now.fs.now) (fs_failures c.commit.new.self) (ending r))
        (sym c.tell_fault.ensures)
        (told_changes now fs request kind (commit_on_tree now fs request arguments) _ (commit_sized now fs request arguments _ c.has_committed_room-has_room.ensures)
        g.D.Device.keeps_word _ new _ _ c.requires.up _ table opens c.in-Err-commit.fault
        step
        (commit_up now fs request arguments opens c.in-Err-commit.fault c.requires.up step) c.in-Err-commit.ensures.room.refused c.in-Err-commit.ensures.room.device
        (commit_makes now fs request arguments table opens _ c.has_committed_room-has_room.ensures)
        c.in-Err-commit.ensures.volume);
  };
}
