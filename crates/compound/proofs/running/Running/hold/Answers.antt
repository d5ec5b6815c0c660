use Rattle.std.proofs.Common.{Option, is_some, true, length, refl, sym, ap, ◌∙◌, arith}
use Rattle.std.specs.Option.{option_map}
use Rattle.fs.specs.Views.{fs_of, fs_failures}
use Rattle.model_tree.specs.Seats.SeatEdits.{edited_all, edits_view}
use Rattle.model.specs.Server.World.{kept_by, result_of}
use Rattle.session.specs.Views.{table_of}
use Rattle.volume.proofs.ServeLaws.{is_err_of}
use Rattle.volume.specs.Changes.{Done}
use Rattle.volume.specs.SeatUpdates.{slots_by}
use Rattle.compound.specs.Views.{in_progress_of, slot_of}
use Rattle.compound.specs.declared.progress.SlotId.{SlotId}
use Rattle.compound.proofs.Replies.{result_length}
use Rattle.compound.proofs.Storing.{seated_still, seated_as, kept_held}
use Rattle.compound.proofs.Tables.{edits_fit}
use Rattle.compound.proofs.running.Running.hold.Goals as goal

pub returns-in_default-clause-some : goal.returns-in_default-clause-some
unfolding in_progress_of
returns-in_default-clause-some g c = sym (ap (λ (slot : Option SlotId). is_some (option_map slot_of slot)) c.in_default.is)

pub returns-in_default-clause-volume : goal.returns-in_default-clause-volume
unfolding in_progress_of
returns-in_default-clause-volume g c =
    let request = in_progress_of c.args.self.now in
    let table = table_of c.args.table.now in
    let result = result_of request c.args.last in
    seated_still g.D.Device.keeps_word (fs_of c.args.fs.now) (fs_failures c.args.fs.now) (kept_by request.slot true result table).seats c.requires.up
    (λ keeps. ap (λ (slot : Option SlotId). (kept_by (option_map slot_of slot) true result table).seats) c.in_default.is ∙ (c.requires.agrees keeps).seats)

pub plan_hold-requires : goal.plan_hold-requires
unfolding in_progress_of
plan_hold-requires g c =
    omega (
      arith,
      c.args.self.now.brief,
      result_length (in_progress_of c.args.self.now) c.args.last,
      ap length (c.as_slice.ensures.value ∙ c.in_ok-result.ensures),
    )

pub put_seats-requires-clause-edits : goal.put_seats-requires-clause-edits
unfolding in_progress_of
put_seats-requires-clause-edits g c keeps =
    let fs = fs_of c.args.fs.now in
    edits_fit _ _ fs (table_of c.args.table.now) (edits_view c.in_ok-edits.edits) refl (c.requires.agrees keeps) (c.in_ok-edits.ensures.edits (slots_by fs.volume.version))

pub returns-in_err-put_seats-clause-volume : goal.returns-in_err-put_seats-clause-volume
unfolding in_progress_of
returns-in_err-put_seats-clause-volume g c =
    let fs = fs_of c.args.fs.now in
    let request = in_progress_of c.args.self.now in
    let table = table_of c.args.table.now in
    let result = result_of request c.args.last in
    let edits = edits_view c.in_ok-edits.edits in
    let held = kept_held request.slot c.in-Some.id.session c.in-Some.id.slot c.as_slice.result.now result table edits (ap (option_map slot_of) c.in-Some.is)
    (c.as_slice.ensures.value ∙ c.in_ok-result.ensures) c.in_ok-edits.ensures.seats in
    let told = is_err_of c.from_residual-in_err-put_seats.result c.in_err-put_seats.field-0.0 c.from_residual-in_err-put_seats.ensures.1 in
    rw told (seated_as g.D.Device.keeps_word fs _ _ _ _ (edited_all edits fs.volume.seats) (kept_by request.slot true result table).seats
    (λ keeps. sym held ∙ ap (edited_all edits) (c.requires.agrees keeps).seats) (rw c.in_err-put_seats.was at c.put_seats.ensures.volume))

pub returns-clause-some : goal.returns-clause-some
unfolding in_progress_of
returns-clause-some g c = sym (ap (λ (slot : Option SlotId). is_some (option_map slot_of slot)) c.in-Some.is)

pub returns-clause-edits : goal.returns-clause-edits
unfolding in_progress_of
returns-clause-edits g c =
    let request = in_progress_of c.args.self.now in
    kept_held request.slot c.in-Some.id.session c.in-Some.id.slot c.as_slice.result.now (result_of request c.args.last) (table_of c.args.table.now) (edits_view c.in_ok-edits.edits)
    (ap (option_map slot_of) c.in-Some.is) (c.as_slice.ensures.value ∙ c.in_ok-result.ensures) c.in_ok-edits.ensures.seats

pub returns-clause-volume : goal.returns-clause-volume
unfolding in_progress_of
returns-clause-volume g c =
    let fs = fs_of c.args.fs.now in
    let request = in_progress_of c.args.self.now in
    let table = table_of c.args.table.now in
    let result = result_of request c.args.last in
    let edits = edits_view c.in_ok-edits.edits in
    let held = kept_held request.slot c.in-Some.id.session c.in-Some.id.slot c.as_slice.result.now result table edits (ap (option_map slot_of) c.in-Some.is)
    (c.as_slice.ensures.value ∙ c.in_ok-result.ensures) c.in_ok-edits.ensures.seats in
    seated_as g.D.Device.keeps_word fs _ _ _ Done (edited_all edits fs.volume.seats) (kept_by request.slot true result table).seats
    (λ keeps. sym held ∙ ap (edited_all edits) (c.requires.agrees keeps).seats) (rw c.in_ok-put_seats.was at c.put_seats.ensures.volume)
