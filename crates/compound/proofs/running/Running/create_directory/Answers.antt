use Rattle.std.proofs.Common.{◌≡◌, true, sym, subst, ◌∙◌, refl}
use Rattle.fs.specs.FileSystem.{FileSystem}
use Rattle.fs.specs.Views.{fs_of, fs_failures}
use Rattle.fs.specs.Operations.{new_directory}
use Rattle.model.specs.Operations.Answer.{Outcome, Refused}
use Rattle.model.specs.Operations.Context.{at_node}
use Rattle.model_tree.specs.declared.status.Status.{Status}
use Rattle.model_tree.specs.declared.status.Status.TheVariants as status
use Rattle.wire.specs.SmallViews.{attributes_view}
use Rattle.compound.specs.Operates.{GivesIn, RunsTo, HasRoom}
use Rattle.compound.specs.States.{shared}
use Rattle.compound.specs.Views.{in_progress_of}
use Rattle.compound.proofs.Creating.{made_runs, made_room, create_err, full, made_short, up_or_down}
use Rattle.fs.proofs.ChangeLaws.{changes_by}
use Rattle.compound.proofs.QuietLaws.{leaves_all, left_all}
use Rattle.compound.proofs.VolumeLaws.{refusal_changes, made_gives}
use Rattle.compound.proofs.Rooms.{gives_in_room, gives_refusal}
use Rattle.compound.proofs.Trees.{is_on, is_there, of_request, create_bad, wants}
use Rattle.session.specs.Views.{table_of}
use Rattle.opens.specs.Views.{opens_of}
use Rattle.compound.proofs.Outcomes.{on_err}
use Rattle.compound.proofs.running.Running.create_directory.Goals as goal

pub returns-in-Err : goal.returns-in-Err
returns-in-Err g c = record {
  same = record { fs = refl; table = refl; opens = refl };
  state = record {
    gives = λ keeps.
        let table = table_of c.args.engine.now.table.now in
        let opens = opens_of c.args.engine.now.opens.now in
        let fs = fs_of c.args.engine.now.fs.now in
        let request = in_progress_of c.args.self.now in
        let kind = new_directory c.args.name.now (attributes_view c.args.attributes.now) in
        c.refuse.ensures.gives c.args.engine.now.moment (shared fs table opens) (shared fs table opens) kind
        (subst (λ (reason : Status). GivesIn c.args.engine.now.moment (shared fs table opens) (shared fs table opens) request request kind (Refused 6 reason)) (sym c.in-Err.ensures.err.0)
        (gives_refusal c.args.engine.now.moment (shared fs table opens) (shared fs table opens) request kind 6 _ (wants c.args.engine.now.moment fs table opens request kind refl c.in-Err.ensures.err.1)));
    answered = c.refuse.ensures.answered;
    table = refl;
    opens = tt;
    volume =
        let table = table_of c.args.engine.now.table.now in
        let opens = opens_of c.args.engine.now.opens.now in
        let fs = fs_of c.args.engine.now.fs.now in
        let request = in_progress_of c.args.self.now in
        let kind = new_directory c.args.name.now (attributes_view c.args.attributes.now) in
        refusal_changes g.D.Device.keeps_word fs fs table opens (fs_failures c.args.engine.now.fs.now) (fs_failures c.args.engine.now.fs.now) request c.args.engine.now.moment kind 6 c.in-Err.status refl refl c.requires.up
        (subst (λ (reason : Status). GivesIn c.args.engine.now.moment (shared fs table opens) (shared fs table opens) request request kind (Refused 6 reason)) (sym c.in-Err.ensures.err.0)
        (gives_refusal c.args.engine.now.moment (shared fs table opens) (shared fs table opens) request kind 6 _ (wants c.args.engine.now.moment fs table opens request kind refl c.in-Err.ensures.err.1)));
  };
}

pub refuse-requires-in-Err-Status : goal.refuse-requires-in-Err-Status
unfolding in_progress_of
refuse-requires-in-Err-Status g c =
    let fs = fs_of c.args.engine.now.fs.now in
    let request = in_progress_of c.args.self.now in
    let step = rw (c.in-Err-Status.field-0-is, c.as_slice.ensures.numbers) at c.in-Err-Status.ensures.step in
    create_bad fs.volume.limits (of_request fs request) c.args.engine.now.moment c.args.name.now (attributes_view c.args.attributes.now) c.in-Err-Status.status
    (step (of_request fs request) (is_on fs request _ _ c.requires.run c.in-Ok.ensures.ok.0 c.in-Ok.ensures.ok.1 (is_there fs request)))

pub unreachable-requires : goal.unreachable-requires
unfolding in_progress_of
unreachable-requires g c =
    let fs = fs_of c.args.engine.now.fs.now in
    let request = in_progress_of c.args.self.now in
    let step = rw c.in-Err-Down.field-0-is at c.in-Err-Down.ensures.step in
    let down : fs.volume.is_down ≡ true = step (of_request fs request) (is_on fs request _ _ c.requires.run c.in-Ok.ensures.ok.0 c.in-Ok.ensures.ok.1 (is_there fs request)) in
    up_or_down fs.volume.is_down c.requires.up down

pub returns-in-Ok-make_dir : goal.returns-in-Ok-make_dir
unfolding in_progress_of
returns-in-Ok-make_dir g c = record {
  same = record { fs = refl; table = refl; opens = refl };
  state = record {
    gives = λ keeps.
        let table = table_of c.args.engine.now.table.now in
        let opens = opens_of c.args.engine.now.opens.now in
        let fs = fs_of c.args.engine.now.fs.now in
        let new = fs_of c.make_dir.new.self in
        let request = in_progress_of c.args.self.now in
        let given = attributes_view c.args.attributes.now in
        let kind = new_directory c.args.name.now given in
        let made = c.in-Ok-make_dir.made in
        let step = rw c.as_slice.ensures.numbers at c.in-Ok-make_dir.ensures.step in
        subst (λ (outcome : Outcome). GivesIn c.args.engine.now.moment (shared fs table opens) (shared new table opens) request (record request { context = at_node request.context made.number }) kind outcome) (sym c.created.ensures.is)
        (gives_in_room c.args.engine.now.moment (shared fs table opens) (shared new table opens) request (record request { context = at_node request.context made.number }) kind _
        (made_room request made.before made.number _ (sym c.in-Ok-make_dir.ensures.room.done ∙ c.has_created_room-has_room.ensures))
        (made_runs c.args.engine.now.moment fs table opens request c.args.name.now given new made
        (λ state there. step state (is_on fs request _ _ c.requires.run c.in-Ok.ensures.ok.0 c.in-Ok.ensures.ok.1 there) keeps)));
    answered =
        let request = in_progress_of c.args.self.now in
        let made = c.in-Ok-make_dir.made in
        record {
          fits = c.created.ensures.fits;
          small = c.created.ensures.small;
          room = subst (HasRoom request) (sym c.created.ensures.is)
              (made_short request made.before made.number _ (sym c.in-Ok-make_dir.ensures.room.done ∙ c.has_created_room-has_room.ensures));
        };
    table = refl;
    opens = tt;
    volume =
        let table = table_of c.args.engine.now.table.now in
        let opens = opens_of c.args.engine.now.opens.now in
        let fs = fs_of c.args.engine.now.fs.now in
        let request = in_progress_of c.args.self.now in
        let volume = rw c.as_slice.ensures.numbers at c.in-Ok-make_dir.ensures.volume in
        changes_by g.D.Device.keeps_word _ _
        (made_gives fs table opens request c.args.engine.now.moment _ c.args.name.now (attributes_view c.args.attributes.now) c.requires.run c.in-Ok.ensures.ok.0 c.in-Ok.ensures.ok.1
        (sym c.in-Ok-make_dir.ensures.room.done ∙ c.has_created_room-has_room.ensures))
        _ _ _ _ _ volume;
  };
}

pub returns-in-Err-Status : goal.returns-in-Err-Status
unfolding in_progress_of
returns-in-Err-Status g c = record {
  same = record { fs = refl; table = refl; opens = refl };
  state = record {
    gives = λ keeps.
        let table = table_of c.args.engine.now.table.now in
        let opens = opens_of c.args.engine.now.opens.now in
        let fs = fs_of c.args.engine.now.fs.now in
        let new = fs_of c.make_dir.new.self in
        let request = in_progress_of c.args.self.now in
        let given = attributes_view c.args.attributes.now in
        let kind = new_directory c.args.name.now given in
        let step = rw (c.in-Err-Status.field-0-is, c.as_slice.ensures.numbers) at c.in-Err-Status.ensures.step in
        let same = left_all _ _ _ _ _ _ (rw c.in-Err-Status.field-0-is at c.in-Err-Status.ensures.volume) in
        c.refuse-in-Err-Status.ensures.gives c.args.engine.now.moment (shared fs table opens) (shared new table opens) kind
        (gives_refusal c.args.engine.now.moment (shared fs table opens) (shared new table opens) request kind 6 c.in-Err-Status.status
        (subst (λ (after : FileSystem). RunsTo c.args.engine.now.moment (shared fs table opens) (shared after table opens) request request kind (Refused 6 c.in-Err-Status.status)) (sym same)
        (create_err c.args.engine.now.moment fs table opens request c.args.name.now given c.in-Err-Status.status
        (λ state there. step state (is_on fs request _ _ c.requires.run c.in-Ok.ensures.ok.0 c.in-Ok.ensures.ok.1 there)))));
    answered = c.refuse-in-Err-Status.ensures.answered;
    table = refl;
    opens = tt;
    volume =
        let table = table_of c.args.engine.now.table.now in
        let opens = opens_of c.args.engine.now.opens.now in
        let fs = fs_of c.args.engine.now.fs.now in
        let new = fs_of c.make_dir.new.self in
        let request = in_progress_of c.args.self.now in
        let given = attributes_view c.args.attributes.now in
        let kind = new_directory c.args.name.now given in
        let step = rw (c.in-Err-Status.field-0-is, c.as_slice.ensures.numbers) at c.in-Err-Status.ensures.step in
        let volume = rw c.in-Err-Status.field-0-is at c.in-Err-Status.ensures.volume in
        let same = left_all _ _ _ _ _ _ volume in
        refusal_changes g.D.Device.keeps_word fs new table opens _ _ request c.args.engine.now.moment kind 6 c.in-Err-Status.status same (volume.volume_changes.none (λ broken. cc)) c.requires.up
        (gives_refusal c.args.engine.now.moment (shared fs table opens) (shared new table opens) request kind 6 c.in-Err-Status.status
        (subst (λ (after : FileSystem). RunsTo c.args.engine.now.moment (shared fs table opens) (shared after table opens) request request kind (Refused 6 c.in-Err-Status.status)) (sym same)
        (create_err c.args.engine.now.moment fs table opens request c.args.name.now given c.in-Err-Status.status
        (λ state there. step state (is_on fs request _ _ c.requires.run c.in-Ok.ensures.ok.0 c.in-Ok.ensures.ok.1 there)))));
  };
}

pub returns-in-Err-NoRoom : goal.returns-in-Err-NoRoom
unfolding in_progress_of
returns-in-Err-NoRoom g c = record {
  same = record { fs = refl; table = refl; opens = refl };
  state = record {
    gives = λ keeps.
        let table = table_of c.args.engine.now.table.now in
        let opens = opens_of c.args.engine.now.opens.now in
        let fs = fs_of c.args.engine.now.fs.now in
        let new = fs_of c.make_dir.new.self in
        let request = in_progress_of c.args.self.now in
        let given = attributes_view c.args.attributes.now in
        let kind = new_directory c.args.name.now given in
        let step = rw (c.in-Err-NoRoom.field-0-is, c.as_slice.ensures.numbers) at c.in-Err-NoRoom.ensures.step in
        let same = left_all _ _ _ _ _ _ (rw c.in-Err-NoRoom.field-0-is at c.in-Err-NoRoom.ensures.volume) in
        let no_room = rw c.in-Err-NoRoom.field-0-is at c.in-Err-NoRoom.ensures.room.refused in
        c.refuse-in-Err-NoRoom.ensures.gives c.args.engine.now.moment (shared fs table opens) (shared new table opens) kind
        (subst (λ (after : FileSystem). GivesIn c.args.engine.now.moment (shared fs table opens) (shared after table opens) request request kind (Refused 6 status.RepTooBig)) (sym same)
        (full c.args.engine.now.moment fs table opens request c.args.name.now given (sym (no_room refl) ∙ c.has_created_room-has_room.ensures)
        (λ state there. step state (is_on fs request _ _ c.requires.run c.in-Ok.ensures.ok.0 c.in-Ok.ensures.ok.1 there))));
    answered = c.refuse-in-Err-NoRoom.ensures.answered;
    table = refl;
    opens = tt;
    volume =
        let table = table_of c.args.engine.now.table.now in
        let opens = opens_of c.args.engine.now.opens.now in
        let fs = fs_of c.args.engine.now.fs.now in
        let new = fs_of c.make_dir.new.self in
        let request = in_progress_of c.args.self.now in
        let given = attributes_view c.args.attributes.now in
        let kind = new_directory c.args.name.now given in
        let step = rw (c.in-Err-NoRoom.field-0-is, c.as_slice.ensures.numbers) at c.in-Err-NoRoom.ensures.step in
        let volume = rw c.in-Err-NoRoom.field-0-is at c.in-Err-NoRoom.ensures.volume in
        let same = left_all _ _ _ _ _ _ volume in
        let no_room = rw c.in-Err-NoRoom.field-0-is at c.in-Err-NoRoom.ensures.room.refused in
        refusal_changes g.D.Device.keeps_word fs new table opens _ _ request c.args.engine.now.moment kind 6 status.RepTooBig same (volume.volume_changes.none (λ broken. cc)) c.requires.up
        (subst (λ (after : FileSystem). GivesIn c.args.engine.now.moment (shared fs table opens) (shared after table opens) request request kind (Refused 6 status.RepTooBig)) (sym same)
        (full c.args.engine.now.moment fs table opens request c.args.name.now given (sym (no_room refl) ∙ c.has_created_room-has_room.ensures)
        (λ state there. step state (is_on fs request _ _ c.requires.run c.in-Ok.ensures.ok.0 c.in-Ok.ensures.ok.1 there))));
  };
}

pub returns-in-Err-Memory : goal.returns-in-Err-Memory
returns-in-Err-Memory g c = record {
  same = record { fs = refl; table = refl; opens = refl };
  state = record {
    gives = λ keeps. tt;
    answered = tt;
    table = refl;
    opens = refl;
    volume =
        let table = table_of c.args.engine.now.table.now in
        let opens = opens_of c.args.engine.now.opens.now in
        let volume = rw c.in-Err-Memory.field-0-is at c.in-Err-Memory.ensures.volume in
        leaves_all g.D.Device.keeps_word _ _ _ _ _ (left_all _ _ _ _ _ _ volume) (volume.volume_changes.none (λ broken. cc));
  };
}

pub returns-in-Err-Device : goal.returns-in-Err-Device
unfolding in_progress_of
returns-in-Err-Device g c = record {
  same = record { fs = refl; table = refl; opens = refl };
  state = record {
    gives = λ keeps. tt;
    answered = tt;
    table = refl;
    opens = refl;
    volume =
        let table = table_of c.args.engine.now.table.now in
        let opens = opens_of c.args.engine.now.opens.now in
        let fs = fs_of c.args.engine.now.fs.now in
        let request = in_progress_of c.args.self.now in
        let volume = rw (c.in-Err-Device.field-0-is, c.as_slice.ensures.numbers) at c.in-Err-Device.ensures.volume in
        let device_room = rw c.in-Err-Device.field-0-is at c.in-Err-Device.ensures.room.device in
        changes_by g.D.Device.keeps_word _ _
        (made_gives fs table opens request c.args.engine.now.moment _ c.args.name.now (attributes_view c.args.attributes.now) c.requires.run c.in-Ok.ensures.ok.0 c.in-Ok.ensures.ok.1
        (sym (device_room refl) ∙ c.has_created_room-has_room.ensures))
        _ _ _ _ _ volume;
  };
}
