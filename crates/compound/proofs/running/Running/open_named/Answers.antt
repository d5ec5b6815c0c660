use Rattle.std.proofs.Common.{◌≡◌, ◌<◌, ℕ, List, Result, refl, sym, ap, subst, ◌∙◌, arith, IfOk}
use Rattle.fs.proofs.ChangeLaws.{changes_by}
use Rattle.fs.specs.Changes.{FsChanges}
use Rattle.fs.specs.Views.{fs_of, fs_failures}
use Rattle.fs.specs.Opening.{after_open, open_effect, has_open_room, set_by, type_of}
use Rattle.fs.specs.Operations.{does_on}
use Rattle.fs.specs.Renaming.{info_of}
use Rattle.model_tree.specs.declared.limits.Limits.{Limits}
use Rattle.model.specs.Operations.Answer.{Refused}
use Rattle.model.specs.Sessions.Opens.{Open, Opens}
use Rattle.model.specs.Operations.Operation.{Argument, ChangeInfo, OpenType, ByName, Opens as Opens_as}
use Rattle.model.specs.Sessions.StateIds.{new_open, opened}
use Rattle.model_tree.specs.declared.status.Status.{Status}
use Rattle.opens.specs.Views.{open_of, opens_of}
use Rattle.wire.specs.ArgumentViews.{open_type_view, open_view}
use Rattle.wire.specs.SmallViews.{change_view}
use Rattle.compound.specs.Beside.{has_opened_room, ComesToOpen}
use Rattle.compound.specs.Operates.{GivesIn, Operates, ChangesTreeAndOpens, HasResult}
use Rattle.compound.specs.States.{shared}
use Rattle.compound.specs.Volumes.{OperationGives, ending}
use Rattle.compound.specs.Views.{in_progress_of}
use Rattle.compound.specs.declared.fault.Fault.{Fault}
use Rattle.compound.specs.declared.fault.Fault.TheVariants as fault
use Rattle.compound.specs.declared.executed.Executed.{Executed}
use Rattle.compound.proofs.Changing.{told_gives, told_changes, fault_is_encoded}
use Rattle.compound.proofs.OpenLaws.{on_tree}
use Rattle.compound.proofs.OpenNamedLaws.{named_opening, open_makes, open_up, opened_short, opens_to, sized}
use Rattle.compound.proofs.Rooms.{gives_refusal}
use Rattle.compound.proofs.Trees.{is_on, wants}
use Rattle.compound.proofs.VolumeLaws.{memory_changes, refusal_changes}
use Rattle.compound.proofs.WriteLaws.{beside, is_beside}
use Rattle.session.specs.Views.{table_of}
use Rattle.compound.proofs.Outcomes.{changed_if, on_err, if_not}
use Rattle.compound.proofs.running.Running.open_named.Goals as goal

pub returns-in-Err : goal.returns-in-Err
returns-in-Err g c = record {
  same = record { fs = refl; table = refl; opens = refl };
  state = record {
    gives = λ keeps.
        let table = table_of c.args.engine.now.table.now in
        let opens = opens_of c.args.engine.now.opens.now in
        let fs = fs_of c.args.engine.now.fs.now in
        let request = in_progress_of c.args.self.now in
        let arguments = open_view c.args.named.arguments.now in
        let kind = Argument.Open arguments in
        c.refuse.ensures.gives c.args.engine.now.moment (shared fs table opens) (shared fs table opens) kind
        (subst (λ (reason : Status). GivesIn c.args.engine.now.moment (shared fs table opens) (shared fs table opens) request request kind (Refused 18 reason)) (sym c.in-Err.ensures.err.0)
        (gives_refusal c.args.engine.now.moment (shared fs table opens) (shared fs table opens) request kind 18 _ (wants c.args.engine.now.moment fs table opens request kind refl c.in-Err.ensures.err.1)));
    answered = c.refuse.ensures.answered;
    table = refl;
    opens = tt;
    volume =
        let table = table_of c.args.engine.now.table.now in
        let opens = opens_of c.args.engine.now.opens.now in
        let fs = fs_of c.args.engine.now.fs.now in
        let request = in_progress_of c.args.self.now in
        let arguments = open_view c.args.named.arguments.now in
        let kind = Argument.Open arguments in
        refusal_changes g.D.Device.keeps_word fs fs table opens (fs_failures c.args.engine.now.fs.now) (fs_failures c.args.engine.now.fs.now) request c.args.engine.now.moment kind 18 c.in-Err.status refl refl c.requires.up
        (subst (λ (reason : Status). GivesIn c.args.engine.now.moment (shared fs table opens) (shared fs table opens) request request kind (Refused 18 reason)) (sym c.in-Err.ensures.err.0)
        (gives_refusal c.args.engine.now.moment (shared fs table opens) (shared fs table opens) request kind 18 _ (wants c.args.engine.now.moment fs table opens request kind refl c.in-Err.ensures.err.1)));
  };
}

-- If there is no memory

pub returns-in_err-asked : goal.returns-in_err-asked
returns-in_err-asked g c = record {
  same = record { fs = refl; table = refl; opens = refl };
  state = record {
    gives = λ keeps. if_not _ _ _ c.from_residual.ensures.1;
    answered = if_not _ _ _ c.from_residual.ensures.1;
    table = refl;
    opens = on_err _ refl;
    volume =
        let table = table_of c.args.engine.now.table.now in
        memory_changes g.D.Device.keeps_word _ (fs_of c.args.engine.now.fs.now) (fs_failures c.args.engine.now.fs.now) c.from_residual.result c.in_err-asked.field-0.0
        c.from_residual.ensures.1 (rw c.in_err-asked.was at c.asked_open.ensures);
  };
}

pub returns-in_err-reserve : goal.returns-in_err-reserve
returns-in_err-reserve g c = record {
  same = record { fs = refl; table = refl; opens = refl };
  state = record {
    gives = λ keeps. if_not _ _ _ c.from_residual-in_err-reserve.ensures.1;
    answered = if_not _ _ _ c.from_residual-in_err-reserve.ensures.1;
    table = refl;
    opens = on_err _ c.in_err-reserve.ensures.same;
    volume =
        let table = table_of c.args.engine.now.table.now in
        memory_changes g.D.Device.keeps_word _ (fs_of c.args.engine.now.fs.now) (fs_failures c.args.engine.now.fs.now) c.from_residual-in_err-reserve.result fault.Memory
        c.from_residual-in_err-reserve.ensures.1 refl;
  };
}

-- If it is done

pub give_open-requires-clause-serial : goal.give_open-requires-clause-serial
give_open-requires-clause-serial g c = (c.limits.result.now.opens, sym c.is_full-is_full.ensures.is ∙ c.in-Ok-open_file.ensures.full)

pub give_open-requires-clause-number : goal.give_open-requires-clause-number
unfolding in_progress_of
give_open-requires-clause-number g c =
    let opens = opens_of c.args.engine.now.opens.now in
    let fs = fs_of c.args.engine.now.fs.now in
    let request = in_progress_of c.args.self.now in
    let state = beside fs request opens in
    let on = is_on fs request c.in-Ok.number state c.requires.run c.in-Ok.ensures.ok.0 c.in-Ok.ensures.ok.1 (is_beside fs request opens) in
    let number = c.file_to_open-number.result in
    let made = c.in-Ok-open_file.made in
    let short = opened_short c.file_to_open-number.ensures.0 number made.number c.file_to_open-number.ensures.2
    (sym (c.file_to_open-number.ensures.1 state request.context.cred on) ∙ c.in-Ok-open_file.ensures.opened.number_is state request.context.cred on) (omega arith) in
    subst (λ (n : ℕ). 0 < n) (sym (ap (λ (it : Open). it.number) c.in_ok-asked.ensures)) short.1

pub returns-in-Ok-open_file : goal.returns-in-Ok-open_file
unfolding in_progress_of
returns-in-Ok-open_file g c = record {
  same = record { fs = refl; table = refl; opens = refl };
  state = record {
    gives = λ keeps.
        let table = table_of c.args.engine.now.table.now in
        let opens = opens_of c.args.engine.now.opens.now in
        let fs = fs_of c.args.engine.now.fs.now in
        let request = in_progress_of c.args.self.now in
        let arguments = open_view c.args.named.arguments.now in
        let kind = Argument.Open arguments in
        let new = fs_of c.open_file.new.self in
        let how = open_type_view c.args.named.how.now in
        let made = c.in-Ok-open_file.made in
        let state = beside fs request opens in
        let on = is_on fs request c.in-Ok.number state c.requires.run c.in-Ok.ensures.ok.0 c.in-Ok.ensures.ok.1 (is_beside fs request opens) in
        let number = c.file_to_open-number.result in
        let asked = new_open request.context.client arguments.owner number arguments.access in
        let one = open_of c.in_ok-asked.asked in
        let same = c.in_ok-reserve.ensures.same in
        let given = ap (λ (held : Opens). (opened held one).opens) same ∙ ap (λ (it : Open). (opened opens it).opens) c.in_ok-asked.ensures in
        let to = opens_to c.args.engine.now.moment fs request arguments new table opens how number made
        (opened_short c.file_to_open-number.ensures.0 number made.number c.file_to_open-number.ensures.2
        (sym (c.file_to_open-number.ensures.1 state request.context.cred on) ∙ c.in-Ok-open_file.ensures.opened.number_is state request.context.cred on) (omega arith)).0
        (λ state there known. subst (λ (of : OpenType). does_on fs state c.args.engine.now.moment kind ≡ after_open new.volume.tree new.changes state arguments of made) c.how_of.ensures.is
        (c.in-Ok-open_file.ensures.step state arguments (is_on fs request c.in-Ok.number state c.requires.run c.in-Ok.ensures.ok.0 c.in-Ok.ensures.ok.1 there)
        ((named_opening c.args.engine.now.moment fs request arguments opens _ c.requires.run c.in-Ok.ensures.ok.0 c.file_to_open-number.ensures.0 c.file_to_open-number.result c.limits.result.now.opens c.is_full-is_full.result (open_of c.in_ok-asked.asked)
        (ap (λ (limits : Limits). limits.opens) c.limits.ensures) c.in_ok-asked.ensures c.in_ok-reserve.ensures.same c.file_to_open-number.ensures.2 c.is_full-is_full.ensures.is c.is_full-is_full.ensures.high
        (record { directory = c.in-Ok.number; name = c.args.named.name; share = c.share_of.result; how = c.how_of.result }) c.in-Ok.ensures.ok.1 (sym c.share_of.ensures.access) (sym c.share_of.ensures.deny)
        (c.args.named.opening ∙ ap (λ (of : OpenType). Opens_as of (ByName c.args.named.name.now)) (sym c.how_of.ensures.is))
        c.file_to_open-number.ensures.1) state there known) keeps)) in
        subst (λ (after : Opens). Operates c.args.engine.now.moment (shared fs table opens) (shared new table after) request kind c.give_open.result) (sym (c.give_open.ensures.opens ∙ given))
        (c.give_open.ensures.gives c.args.engine.now.moment (shared fs table opens) (shared new table (opened opens asked).opens) kind (sym same)
        (subst (λ (it : Open). ComesToOpen c.args.engine.now.moment (shared fs table opens) (shared new table (opened opens asked).opens) request it (change_view c.change_info.result) c.set_by.result kind) (sym c.in_ok-asked.ensures)
        (subst (λ (change : ChangeInfo). ComesToOpen c.args.engine.now.moment (shared fs table opens) (shared new table (opened opens asked).opens) request asked change c.set_by.result kind) (sym c.change_info.ensures)
        (subst (λ (words : List ℕ). ComesToOpen c.args.engine.now.moment (shared fs table opens) (shared new table (opened opens asked).opens) request asked (info_of made.directory) words kind) (sym c.set_by.ensures.is)
        to))));
    answered = c.give_open.ensures.answered;
    table = refl;
    opens = tt;
    volume =
        let table = table_of c.args.engine.now.table.now in
        let opens = opens_of c.args.engine.now.opens.now in
        let fs = fs_of c.args.engine.now.fs.now in
        let request = in_progress_of c.args.self.now in
        let arguments = open_view c.args.named.arguments.now in
        let kind = Argument.Open arguments in
        let how = open_type_view c.args.named.how.now in
        changes_by g.D.Device.keeps_word _ _
        (open_makes c.args.engine.now.moment fs request arguments table opens (record { directory = c.in-Ok.number; name = c.args.named.name; share = c.share_of.result; how = c.how_of.result }) c.is_full-is_full.result c.requires.run c.in-Ok.ensures.ok.0 c.in-Ok.ensures.ok.1
        (named_opening c.args.engine.now.moment fs request arguments opens _ c.requires.run c.in-Ok.ensures.ok.0 c.file_to_open-number.ensures.0 c.file_to_open-number.result c.limits.result.now.opens c.is_full-is_full.result (open_of c.in_ok-asked.asked)
        (ap (λ (limits : Limits). limits.opens) c.limits.ensures) c.in_ok-asked.ensures c.in_ok-reserve.ensures.same c.file_to_open-number.ensures.2 c.is_full-is_full.ensures.is c.is_full-is_full.ensures.high
        (record { directory = c.in-Ok.number; name = c.args.named.name; share = c.share_of.result; how = c.how_of.result }) c.in-Ok.ensures.ok.1 (sym c.share_of.ensures.access) (sym c.share_of.ensures.deny)
        (c.args.named.opening ∙ ap (λ (of : OpenType). Opens_as of (ByName c.args.named.name.now)) (sym c.how_of.ensures.is))
        c.file_to_open-number.ensures.1)
        (has_open_room fs (record { directory = c.in-Ok.number; name = c.args.named.name; share = c.share_of.result; how = c.how_of.result }) c.open_room-room.result) (sized c.args.engine.now.moment fs request arguments how c.args.named.name.now c.in-Ok.number c.args.named.opening c.in-Ok.ensures.ok.1 (has_open_room fs (record { directory = c.in-Ok.number; name = c.args.named.name; share = c.share_of.result; how = c.how_of.result }) c.open_room-room.result)
        (c.open_room-room.ensures (open_effect fs.volume.tree c.in-Ok.number c.args.named.name.now (type_of c.how_of.result))
        ∙ ap (λ (of : OpenType). has_opened_room request (set_by (open_effect fs.volume.tree c.in-Ok.number c.args.named.name.now of) how)) c.how_of.ensures.is)) c.in-Ok-open_file.ensures.room.done)
        _ _ _ _ _ c.in-Ok-open_file.ensures.volume;
  };
}

-- If it is not

pub tell_fault-requires : goal.tell_fault-requires
unfolding in_progress_of
tell_fault-requires g c =
    let opens = opens_of c.args.engine.now.opens.now in
    let fs = fs_of c.args.engine.now.fs.now in
    let request = in_progress_of c.args.self.now in
    let arguments = open_view c.args.named.arguments.now in
    let kind = Argument.Open arguments in
    open_up c.args.engine.now.moment fs request arguments opens c.in-Err-open_file.fault c.requires.up
    (λ state there known. c.in-Err-open_file.ensures.step state arguments (is_on fs request c.in-Ok.number state c.requires.run c.in-Ok.ensures.ok.0 c.in-Ok.ensures.ok.1 there)
    ((named_opening c.args.engine.now.moment fs request arguments opens _ c.requires.run c.in-Ok.ensures.ok.0 c.file_to_open-number.ensures.0 c.file_to_open-number.result c.limits.result.now.opens c.is_full-is_full.result (open_of c.in_ok-asked.asked)
    (ap (λ (limits : Limits). limits.opens) c.limits.ensures) c.in_ok-asked.ensures c.in_ok-reserve.ensures.same c.file_to_open-number.ensures.2 c.is_full-is_full.ensures.is c.is_full-is_full.ensures.high
    (record { directory = c.in-Ok.number; name = c.args.named.name; share = c.share_of.result; how = c.how_of.result }) c.in-Ok.ensures.ok.1 (sym c.share_of.ensures.access) (sym c.share_of.ensures.deny)
    (c.args.named.opening ∙ ap (λ (of : OpenType). Opens_as of (ByName c.args.named.name.now)) (sym c.how_of.ensures.is))
    c.file_to_open-number.ensures.1) state there known))

pub returns-in-Err-open_file : goal.returns-in-Err-open_file
unfolding in_progress_of
returns-in-Err-open_file g c = record {
  same = record { fs = refl; table = refl; opens = refl };
  state = record {
    gives = λ keeps.
        let opens = opens_of c.args.engine.now.opens.now in
        let fs = fs_of c.args.engine.now.fs.now in
        let request = in_progress_of c.args.self.now in
        let arguments = open_view c.args.named.arguments.now in
        let kind = Argument.Open arguments in
        let new = fs_of c.open_file.new.self in
        let how = open_type_view c.args.named.how.now in
        let left = opens_of c.reserve.new.self in
        changed_if c.args.engine.now.moment fs new (table_of c.args.engine.now.table.now) opens left request kind c.tell_fault.result
        (subst (λ (r : Result Executed Fault). IfOk r (ChangesTreeAndOpens fs new opens left c.args.engine.now.moment request kind)) (sym c.tell_fault.ensures)
        (told_gives c.args.engine.now.moment fs request kind (on_tree c.args.engine.now.moment request arguments) _ (sized c.args.engine.now.moment fs request arguments how c.args.named.name.now c.in-Ok.number c.args.named.opening c.in-Ok.ensures.ok.1 (has_open_room fs (record { directory = c.in-Ok.number; name = c.args.named.name; share = c.share_of.result; how = c.how_of.result }) c.open_room-room.result)
        (c.open_room-room.ensures (open_effect fs.volume.tree c.in-Ok.number c.args.named.name.now (type_of c.how_of.result))
        ∙ ap (λ (of : OpenType). has_opened_room request (set_by (open_effect fs.volume.tree c.in-Ok.number c.args.named.name.now of) how)) c.how_of.ensures.is))
        g.D.Device.keeps_word _ new _ _ c.requires.up _ opens left c.in-Err-open_file.fault c.in_ok-reserve.ensures.same
        (λ state there known. c.in-Err-open_file.ensures.step state arguments (is_on fs request c.in-Ok.number state c.requires.run c.in-Ok.ensures.ok.0 c.in-Ok.ensures.ok.1 there)
        ((named_opening c.args.engine.now.moment fs request arguments opens _ c.requires.run c.in-Ok.ensures.ok.0 c.file_to_open-number.ensures.0 c.file_to_open-number.result c.limits.result.now.opens c.is_full-is_full.result (open_of c.in_ok-asked.asked)
        (ap (λ (limits : Limits). limits.opens) c.limits.ensures) c.in_ok-asked.ensures c.in_ok-reserve.ensures.same c.file_to_open-number.ensures.2 c.is_full-is_full.ensures.is c.is_full-is_full.ensures.high
        (record { directory = c.in-Ok.number; name = c.args.named.name; share = c.share_of.result; how = c.how_of.result }) c.in-Ok.ensures.ok.1 (sym c.share_of.ensures.access) (sym c.share_of.ensures.deny)
        (c.args.named.opening ∙ ap (λ (of : OpenType). Opens_as of (ByName c.args.named.name.now)) (sym c.how_of.ensures.is))
        c.file_to_open-number.ensures.1) state there known))
        c.in-Err-open_file.ensures.room.refused c.in-Err-open_file.ensures.volume));
    answered =
        let opens = opens_of c.args.engine.now.opens.now in
        let fs = fs_of c.args.engine.now.fs.now in
        let request = in_progress_of c.args.self.now in
        let arguments = open_view c.args.named.arguments.now in
        let kind = Argument.Open arguments in
        subst (λ (r : Result Executed Fault). IfOk r (HasResult request)) (sym c.tell_fault.ensures)
        (fault_is_encoded request 18 c.in-Err-open_file.fault (omega arith) (open_up c.args.engine.now.moment fs request arguments opens c.in-Err-open_file.fault c.requires.up
        (λ state there known. c.in-Err-open_file.ensures.step state arguments (is_on fs request c.in-Ok.number state c.requires.run c.in-Ok.ensures.ok.0 c.in-Ok.ensures.ok.1 there)
        ((named_opening c.args.engine.now.moment fs request arguments opens _ c.requires.run c.in-Ok.ensures.ok.0 c.file_to_open-number.ensures.0 c.file_to_open-number.result c.limits.result.now.opens c.is_full-is_full.result (open_of c.in_ok-asked.asked)
        (ap (λ (limits : Limits). limits.opens) c.limits.ensures) c.in_ok-asked.ensures c.in_ok-reserve.ensures.same c.file_to_open-number.ensures.2 c.is_full-is_full.ensures.is c.is_full-is_full.ensures.high
        (record { directory = c.in-Ok.number; name = c.args.named.name; share = c.share_of.result; how = c.how_of.result }) c.in-Ok.ensures.ok.1 (sym c.share_of.ensures.access) (sym c.share_of.ensures.deny)
        (c.args.named.opening ∙ ap (λ (of : OpenType). Opens_as of (ByName c.args.named.name.now)) (sym c.how_of.ensures.is))
        c.file_to_open-number.ensures.1) state there known))));
    table = refl;
    opens = on_err _ c.in_ok-reserve.ensures.same;
    volume =
        let table = table_of c.args.engine.now.table.now in
        let opens = opens_of c.args.engine.now.opens.now in
        let fs = fs_of c.args.engine.now.fs.now in
        let request = in_progress_of c.args.self.now in
        let arguments = open_view c.args.named.arguments.now in
        let kind = Argument.Open arguments in
        let new = fs_of c.open_file.new.self in
        let how = open_type_view c.args.named.how.now in
        subst (λ (r : Result Executed Fault). FsChanges g.D.Device.keeps_word (OperationGives (shared fs table opens) request c.args.engine.now.moment kind) fs new (fs_failures c.args.engine.now.fs.now) (fs_failures c.open_file.new.self) (ending r)) (sym c.tell_fault.ensures)
        (told_changes c.args.engine.now.moment fs request kind (on_tree c.args.engine.now.moment request arguments) _ (sized c.args.engine.now.moment fs request arguments how c.args.named.name.now c.in-Ok.number c.args.named.opening c.in-Ok.ensures.ok.1 (has_open_room fs (record { directory = c.in-Ok.number; name = c.args.named.name; share = c.share_of.result; how = c.how_of.result }) c.open_room-room.result)
        (c.open_room-room.ensures (open_effect fs.volume.tree c.in-Ok.number c.args.named.name.now (type_of c.how_of.result))
        ∙ ap (λ (of : OpenType). has_opened_room request (set_by (open_effect fs.volume.tree c.in-Ok.number c.args.named.name.now of) how)) c.how_of.ensures.is))
        g.D.Device.keeps_word _ new _ _ c.requires.up _ table opens c.in-Err-open_file.fault
        (λ state there known. c.in-Err-open_file.ensures.step state arguments (is_on fs request c.in-Ok.number state c.requires.run c.in-Ok.ensures.ok.0 c.in-Ok.ensures.ok.1 there)
        ((named_opening c.args.engine.now.moment fs request arguments opens _ c.requires.run c.in-Ok.ensures.ok.0 c.file_to_open-number.ensures.0 c.file_to_open-number.result c.limits.result.now.opens c.is_full-is_full.result (open_of c.in_ok-asked.asked)
        (ap (λ (limits : Limits). limits.opens) c.limits.ensures) c.in_ok-asked.ensures c.in_ok-reserve.ensures.same c.file_to_open-number.ensures.2 c.is_full-is_full.ensures.is c.is_full-is_full.ensures.high
        (record { directory = c.in-Ok.number; name = c.args.named.name; share = c.share_of.result; how = c.how_of.result }) c.in-Ok.ensures.ok.1 (sym c.share_of.ensures.access) (sym c.share_of.ensures.deny)
        (c.args.named.opening ∙ ap (λ (of : OpenType). Opens_as of (ByName c.args.named.name.now)) (sym c.how_of.ensures.is))
        c.file_to_open-number.ensures.1) state there known))
        (open_up c.args.engine.now.moment fs request arguments opens c.in-Err-open_file.fault c.requires.up
        (λ state there known. c.in-Err-open_file.ensures.step state arguments (is_on fs request c.in-Ok.number state c.requires.run c.in-Ok.ensures.ok.0 c.in-Ok.ensures.ok.1 there)
        ((named_opening c.args.engine.now.moment fs request arguments opens _ c.requires.run c.in-Ok.ensures.ok.0 c.file_to_open-number.ensures.0 c.file_to_open-number.result c.limits.result.now.opens c.is_full-is_full.result (open_of c.in_ok-asked.asked)
        (ap (λ (limits : Limits). limits.opens) c.limits.ensures) c.in_ok-asked.ensures c.in_ok-reserve.ensures.same c.file_to_open-number.ensures.2 c.is_full-is_full.ensures.is c.is_full-is_full.ensures.high
        (record { directory = c.in-Ok.number; name = c.args.named.name; share = c.share_of.result; how = c.how_of.result }) c.in-Ok.ensures.ok.1 (sym c.share_of.ensures.access) (sym c.share_of.ensures.deny)
        (c.args.named.opening ∙ ap (λ (of : OpenType). Opens_as of (ByName c.args.named.name.now)) (sym c.how_of.ensures.is))
        c.file_to_open-number.ensures.1) state there known)))
        c.in-Err-open_file.ensures.room.refused c.in-Err-open_file.ensures.room.device
        (open_makes c.args.engine.now.moment fs request arguments table opens (record { directory = c.in-Ok.number; name = c.args.named.name; share = c.share_of.result; how = c.how_of.result }) c.is_full-is_full.result c.requires.run c.in-Ok.ensures.ok.0 c.in-Ok.ensures.ok.1
        (named_opening c.args.engine.now.moment fs request arguments opens _ c.requires.run c.in-Ok.ensures.ok.0 c.file_to_open-number.ensures.0 c.file_to_open-number.result c.limits.result.now.opens c.is_full-is_full.result (open_of c.in_ok-asked.asked)
        (ap (λ (limits : Limits). limits.opens) c.limits.ensures) c.in_ok-asked.ensures c.in_ok-reserve.ensures.same c.file_to_open-number.ensures.2 c.is_full-is_full.ensures.is c.is_full-is_full.ensures.high
        (record { directory = c.in-Ok.number; name = c.args.named.name; share = c.share_of.result; how = c.how_of.result }) c.in-Ok.ensures.ok.1 (sym c.share_of.ensures.access) (sym c.share_of.ensures.deny)
        (c.args.named.opening ∙ ap (λ (of : OpenType). Opens_as of (ByName c.args.named.name.now)) (sym c.how_of.ensures.is))
        c.file_to_open-number.ensures.1)
        (has_open_room fs (record { directory = c.in-Ok.number; name = c.args.named.name; share = c.share_of.result; how = c.how_of.result }) c.open_room-room.result) (sized c.args.engine.now.moment fs request arguments how c.args.named.name.now c.in-Ok.number c.args.named.opening c.in-Ok.ensures.ok.1 (has_open_room fs (record { directory = c.in-Ok.number; name = c.args.named.name; share = c.share_of.result; how = c.how_of.result }) c.open_room-room.result)
        (c.open_room-room.ensures (open_effect fs.volume.tree c.in-Ok.number c.args.named.name.now (type_of c.how_of.result))
        ∙ ap (λ (of : OpenType). has_opened_room request (set_by (open_effect fs.volume.tree c.in-Ok.number c.args.named.name.now of) how)) c.how_of.ensures.is)))
        c.in-Err-open_file.ensures.volume);
  };
}
