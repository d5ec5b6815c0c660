use Rattle.std.proofs.Common.{◌≡◌, ℕ, List, Result, refl, sym, ap, subst, ◌∙◌, arith, IfOk}
use Rattle.fs.specs.Changes.{FsChanges}
use Rattle.fs.specs.Views.{fs_of, fs_failures}
use Rattle.fs.specs.Setting.{IsSetting}
use Rattle.fs.proofs.ChangeLaws.{changes_by}
use Rattle.model.specs.Operations.Answer.{Outcome, Refused}
use Rattle.model.specs.Operations.Operation.{Argument, Attributes}
use Rattle.model.specs.Operations.SetAttr.{was_set}
use Rattle.model.specs.Operations.Step.{State}
use Rattle.model_tree.specs.declared.status.Status.{Status}
use Rattle.opens.specs.Views.{opens_of}
use Rattle.wire.specs.ArgumentViews.{set_attr_view}
use Rattle.compound.specs.Operates.{GivesIn, HasRoom, ChangesTreeAndOpens, HasResult}
use Rattle.compound.specs.States.{shared}
use Rattle.compound.specs.Trees.{IsHere}
use Rattle.compound.specs.Volumes.{OperationGives, ending}
use Rattle.compound.specs.Views.{in_progress_of}
use Rattle.compound.specs.declared.fault.Fault.{Fault}
use Rattle.compound.specs.declared.executed.Executed.{Executed}
use Rattle.compound.proofs.Changing.{done_runs, told_gives, told_changes, fault_is_encoded, is_short}
use Rattle.compound.proofs.Rooms.{gives_in_room, gives_refusal}
use Rattle.compound.proofs.SettingLaws.{on_tree, sized, does_set, set_makes, set_up}
use Rattle.compound.proofs.Trees.{is_on, wants}
use Rattle.compound.proofs.VolumeLaws.{refusal_changes}
use Rattle.session.specs.Views.{table_of}
use Rattle.compound.proofs.Outcomes.{changed_if, on_err}
use Rattle.compound.proofs.running.Running.set_attributes.Goals as goal

given_is : (words : List ℕ) (values : List ℕ) {of : List ℕ} → words ≡ of → (let one : Attributes = record { bitmap = words; values = values } in one) ≡ record { bitmap = of; values = values }
given_is words values is = ap (λ (bitmap : List ℕ). let one : Attributes = record { bitmap = bitmap; values = values } in one) is

pub returns-in-Err : goal.returns-in-Err
returns-in-Err g c = record {
  same = record { fs = refl; table = refl; opens = refl };
  state = record {
    gives = λ keeps.
        let table = table_of c.args.engine.now.table.now in
        let opens = opens_of c.args.engine.now.opens.now in
        let fs = fs_of c.args.engine.now.fs.now in
        let request = in_progress_of c.args.self.now in
        let kind = Argument.SetAttr (set_attr_view c.args.arguments.now) in
        c.refuse.ensures.gives c.args.engine.now.moment (shared fs table opens) (shared fs table opens) kind
        (subst (λ (reason : Status). GivesIn c.args.engine.now.moment (shared fs table opens) (shared fs table opens) request request kind (Refused 34 reason)) (sym c.in-Err.ensures.err.0)
        (gives_refusal c.args.engine.now.moment (shared fs table opens) (shared fs table opens) request kind 34 _ (wants c.args.engine.now.moment fs table opens request kind refl c.in-Err.ensures.err.1)));
    answered = c.refuse.ensures.answered;
    table = refl;
    opens = tt;
    volume =
        let table = table_of c.args.engine.now.table.now in
        let opens = opens_of c.args.engine.now.opens.now in
        let fs = fs_of c.args.engine.now.fs.now in
        let request = in_progress_of c.args.self.now in
        let kind = Argument.SetAttr (set_attr_view c.args.arguments.now) in
        refusal_changes g.D.Device.keeps_word fs fs table opens (fs_failures c.args.engine.now.fs.now) (fs_failures c.args.engine.now.fs.now) request c.args.engine.now.moment kind 34 c.in-Err.status refl refl c.requires.up
        (subst (λ (reason : Status). GivesIn c.args.engine.now.moment (shared fs table opens) (shared fs table opens) request request kind (Refused 34 reason)) (sym c.in-Err.ensures.err.0)
        (gives_refusal c.args.engine.now.moment (shared fs table opens) (shared fs table opens) request kind 34 _ (wants c.args.engine.now.moment fs table opens request kind refl c.in-Err.ensures.err.1)));
  };
}

-- If they are set

pub returns-in-Ok-set_attributes : goal.returns-in-Ok-set_attributes
unfolding in_progress_of
returns-in-Ok-set_attributes g c = record {
  same = record { fs = refl; table = refl; opens = refl };
  state = record {
    gives = λ keeps.
        let table = table_of c.args.engine.now.table.now in
        let opens = opens_of c.args.engine.now.opens.now in
        let fs = fs_of c.args.engine.now.fs.now in
        let new = fs_of c.set_attributes.new.self in
        let request = in_progress_of c.args.self.now in
        let arguments = set_attr_view c.args.arguments.now in
        let kind = Argument.SetAttr arguments in
        subst (λ (outcome : Outcome). GivesIn c.args.engine.now.moment (shared fs table opens) (shared new table opens) request request kind outcome) (sym c.attributes_set.ensures.is)
        (gives_in_room c.args.engine.now.moment (shared fs table opens) (shared new table opens) request request kind (was_set arguments)
        (sym c.in-Ok-set_attributes.ensures.room.done ∙ c.has_set_room-has_room.ensures)
        (done_runs c.args.engine.now.moment fs request kind (on_tree c.args.engine.now.moment fs request arguments) new table opens opens request.context (was_set arguments)
        (λ state there known. does_set c.args.engine.now.moment fs request arguments new opens state there known
        (c.in-Ok-set_attributes.ensures.step state arguments (is_on fs request _ state c.requires.run c.in-Ok.ensures.ok.0 c.in-Ok.ensures.ok.1 there)
        (record { verdict_is = c.verdict-verdict.ensures.is state known there.context_is; attributes_are = given_is _ _ (sym c.as_slice.ensures.numbers) }) keeps))));
    answered =
        let request = in_progress_of c.args.self.now in
        record {
          fits = c.attributes_set.ensures.fits;
          small = c.attributes_set.ensures.small;
          room = subst (HasRoom request) (sym c.attributes_set.ensures.is)
              (is_short request (was_set (set_attr_view c.args.arguments.now)) (sym c.in-Ok-set_attributes.ensures.room.done ∙ c.has_set_room-has_room.ensures));
        };
    table = refl;
    opens = tt;
    volume =
        let table = table_of c.args.engine.now.table.now in
        let opens = opens_of c.args.engine.now.opens.now in
        let fs = fs_of c.args.engine.now.fs.now in
        let request = in_progress_of c.args.self.now in
        let arguments = set_attr_view c.args.arguments.now in
        changes_by g.D.Device.keeps_word _ _
        (set_makes c.args.engine.now.moment fs request arguments table opens _ c.requires.run c.in-Ok.ensures.ok.0 c.in-Ok.ensures.ok.1
        (λ state there known. record { verdict_is = c.verdict-verdict.ensures.is state known there.context_is; attributes_are = given_is _ _ (sym c.as_slice.ensures.numbers) })
        _ c.has_set_room-has_room.ensures c.in-Ok-set_attributes.ensures.room.done)
        _ _ _ _ _ c.in-Ok-set_attributes.ensures.volume;
  };
}

-- If they are not

pub tell_fault-requires : goal.tell_fault-requires
unfolding in_progress_of
tell_fault-requires g c =
    let opens = opens_of c.args.engine.now.opens.now in
    let fs = fs_of c.args.engine.now.fs.now in
    let request = in_progress_of c.args.self.now in
    let arguments = set_attr_view c.args.arguments.now in
    set_up c.args.engine.now.moment fs request arguments opens c.in-Err-set_attributes.fault c.requires.up
    (λ state there known. c.in-Err-set_attributes.ensures.step state arguments (is_on fs request _ state c.requires.run c.in-Ok.ensures.ok.0 c.in-Ok.ensures.ok.1 there)
    (record { verdict_is = c.verdict-verdict.ensures.is state known there.context_is; attributes_are = given_is _ _ (sym c.as_slice.ensures.numbers) }))

pub returns-in-Err-set_attributes : goal.returns-in-Err-set_attributes
unfolding in_progress_of
returns-in-Err-set_attributes g c = record {
  same = record { fs = refl; table = refl; opens = refl };
  state = record {
    gives = λ keeps.
        let opens = opens_of c.args.engine.now.opens.now in
        let fs = fs_of c.args.engine.now.fs.now in
        let new = fs_of c.set_attributes.new.self in
        let request = in_progress_of c.args.self.now in
        let arguments = set_attr_view c.args.arguments.now in
        let kind = Argument.SetAttr arguments in
        changed_if c.args.engine.now.moment fs new (table_of c.args.engine.now.table.now) opens opens request kind c.tell_fault.result
        (subst (λ (r : Result Executed Fault). IfOk r (ChangesTreeAndOpens fs new opens opens c.args.engine.now.moment request kind)) (sym c.tell_fault.ensures)
        (told_gives c.args.engine.now.moment fs request kind (on_tree c.args.engine.now.moment fs request arguments) _ (sized c.args.engine.now.moment fs request arguments _ c.has_set_room-has_room.ensures)
        g.D.Device.keeps_word _ new _ _ c.requires.up _ opens opens c.in-Err-set_attributes.fault refl
        (λ state there known. c.in-Err-set_attributes.ensures.step state arguments (is_on fs request _ state c.requires.run c.in-Ok.ensures.ok.0 c.in-Ok.ensures.ok.1 there)
        (record { verdict_is = c.verdict-verdict.ensures.is state known there.context_is; attributes_are = given_is _ _ (sym c.as_slice.ensures.numbers) }))
        c.in-Err-set_attributes.ensures.room.refused c.in-Err-set_attributes.ensures.volume));
    answered =
        let opens = opens_of c.args.engine.now.opens.now in
        let fs = fs_of c.args.engine.now.fs.now in
        let request = in_progress_of c.args.self.now in
        let arguments = set_attr_view c.args.arguments.now in
        subst (λ (r : Result Executed Fault). IfOk r (HasResult request)) (sym c.tell_fault.ensures)
        (fault_is_encoded request 34 c.in-Err-set_attributes.fault (omega arith) (set_up c.args.engine.now.moment fs request arguments opens c.in-Err-set_attributes.fault c.requires.up
        (λ state there known. c.in-Err-set_attributes.ensures.step state arguments (is_on fs request _ state c.requires.run c.in-Ok.ensures.ok.0 c.in-Ok.ensures.ok.1 there)
        (record { verdict_is = c.verdict-verdict.ensures.is state known there.context_is; attributes_are = given_is _ _ (sym c.as_slice.ensures.numbers) }))));
    table = refl;
    opens = on_err _ refl;
    volume =
        let table = table_of c.args.engine.now.table.now in
        let opens = opens_of c.args.engine.now.opens.now in
        let fs = fs_of c.args.engine.now.fs.now in
        let new = fs_of c.set_attributes.new.self in
        let request = in_progress_of c.args.self.now in
        let arguments = set_attr_view c.args.arguments.now in
        let kind = Argument.SetAttr arguments in
        let setting = λ (state : State) (there : IsHere fs request state) (known : state.opens ≡ opens). let is : IsSetting state _ arguments = record { verdict_is = c.verdict-verdict.ensures.is state known there.context_is; attributes_are = given_is _ _ (sym c.as_slice.ensures.numbers) } in is in
        let step = λ (state : State) (there : IsHere fs request state) (known : state.opens ≡ opens). c.in-Err-set_attributes.ensures.step state arguments (is_on fs request _ state c.requires.run c.in-Ok.ensures.ok.0 c.in-Ok.ensures.ok.1 there) (setting state there known) in
        subst (λ (r : Result Executed Fault). FsChanges g.D.Device.keeps_word (OperationGives (shared fs table opens) request c.args.engine.now.moment kind) fs new (fs_failures c.args.engine.now.fs.now) (fs_failures c.set_attributes.new.self) (ending r))
        (sym c.tell_fault.ensures)
        (told_changes c.args.engine.now.moment fs request kind (on_tree c.args.engine.now.moment fs request arguments) _ (sized c.args.engine.now.moment fs request arguments _ c.has_set_room-has_room.ensures)
        g.D.Device.keeps_word _ new _ _ c.requires.up _ table opens c.in-Err-set_attributes.fault
        step
        (set_up c.args.engine.now.moment fs request arguments opens c.in-Err-set_attributes.fault c.requires.up step) c.in-Err-set_attributes.ensures.room.refused c.in-Err-set_attributes.ensures.room.device
        (set_makes c.args.engine.now.moment fs request arguments table opens _ c.requires.run c.in-Ok.ensures.ok.0 c.in-Ok.ensures.ok.1 setting _ c.has_set_room-has_room.ensures)
        c.in-Err-set_attributes.ensures.volume);
  };
}
